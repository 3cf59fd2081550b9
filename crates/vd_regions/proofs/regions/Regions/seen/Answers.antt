use Rattle.std.proofs.Common.{◌≡◌, ◌↔◌, ◌++◌, ℕ, false, arith, sym, ap, subst, ◌∙◌}
use Rattle.std.specs.List.{Contains, list_all}
use Rattle.vd_declarations.specs.Classes.{is_overloadable}
use Rattle.vd_regions.specs.Scopes.{declaration_at}
use Rattle.vd_regions.specs.Found.{declared_in}
use Rattle.vd_regions.specs.Visible.{IsVisible}
use Rattle.vd_regions.proofs.RunLemmas.{visible_at_once}
use Rattle.vd_regions.proofs.regions.Regions.seen.Goals as goal

pub returns-then-not-are_overloadable : goal.returns-then-not-are_overloadable
returns-then-not-are_overloadable c =
    let s = c.args.self.now in
    let name = c.args.key.now.name.items in
    let start = c.go_to_first.new.key.region in
    let here : c.add_declared.new.found.items ≡ declared_in s name start =
    c.in_ok-add_declared.ensures
    ∙ ap (λ xs. xs ++ declared_in s c.go_to_first.new.key.name.items start) c.new-here.ensures.items
    ∙ ap (λ n. declared_in s n start) c.in_ok-go_to_first.ensures.name in
    let alone : c.are_overloadable.result ≡ false = grind (arith, c.if-not-are_overloadable.true) in
    visible_at_once s name c.args.key.now.region start c.in_ok-go_to_first.ensures.sees c.add_declared.new.found.items here
    (ap (list_all (λ k. is_overloadable (declaration_at s k).class)) (sym c.deref.ensures.value) ∙ sym c.are_overloadable.ensures ∙ alone)

pub returns : goal.returns
returns c =
    subst (λ n. (k : ℕ) → Contains c.in_ok-found.found.items k ↔ IsVisible c.args.self.now c.args.key.now.region n k)
    c.in_ok-go_to_first.ensures.name c.in_ok-found.ensures
