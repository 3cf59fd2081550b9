use Rattle.std.proofs.Common.{◌≡◌, ◌++◌, [], ℕ, false, arith, sym, ap, subst, ◌∙◌}
use Rattle.std.specs.List.{Contains, list_all}
use Rattle.vd_declarations.specs.Classes.{is_overloadable}
use Rattle.vd_regions.specs.Scopes.{declaration_at, chain}
use Rattle.vd_regions.specs.Found.{round, direct_from, given, by_use_among}
use Rattle.vd_regions.specs.Visible.{IsGiven}
use Rattle.vd_regions.proofs.VisibleLemmas.{from_given, in_given}
use Rattle.vd_regions.proofs.RunLemmas.{visible_with, visible_without}
use Rattle.vd_regions.proofs.regions.Regions.seen_from.Goals as goal

pub returns-then-not-are_overloadable : goal.returns-then-not-are_overloadable
returns-then-not-are_overloadable c =
    let s = c.args.self.now in
    let name = c.args.key.now.name.items in
    let start = c.args.key.now.region in
    let key : c.add_round.new.key.name.items ≡ name = c.in_ok-add_round.ensures.name in
    let around : c.add_round.new.found.items ≡ round s name (chain s start) =
    c.in_ok-add_round.ensures.found
    ∙ ap (λ xs. xs ++ round s name c.deref.result.now) c.new-around.ensures.items
    ∙ ap (round s name) (c.deref.ensures.value ∙ c.in_ok-regions.ensures) in
    let direct : c.add_direct.new.found.items ≡ direct_from s name [] (chain s start) =
    c.in_ok-add_direct.ensures.found
    ∙ ap (λ xs. xs ++ direct_from s c.add_round.new.key.name.items [] c.deref-2.result.now) c.new-found.ensures.items
    ∙ ap (λ n. direct_from s n [] c.deref-2.result.now) key
    ∙ ap (direct_from s name []) (c.deref-2.ensures.value ∙ c.in_ok-regions.ensures) in
    let alone : c.are_overloadable.result ≡ false = grind (arith, c.if-not-are_overloadable.true) in
    visible_without s name c.args.region start c.requires c.add_direct.new.found.items direct
    (ap (list_all (λ k. is_overloadable (declaration_at s k).class)) (sym (c.deref-3.ensures.value ∙ around)) ∙ sym c.are_overloadable.ensures ∙ alone)

pub returns : goal.returns
returns c =
    let s = c.args.self.now in
    let name = c.args.key.now.name.items in
    let start = c.args.key.now.region in
    let region = c.args.region in
    let key2 : c.add_round.new.key.name.items ≡ name = c.in_ok-add_round.ensures.name in
    let key3 : c.add_direct.new.key.name.items ≡ name = c.in_ok-add_direct.ensures.name ∙ key2 in
    let around : c.add_round.new.found.items ≡ round s name (chain s start) =
    c.in_ok-add_round.ensures.found
    ∙ ap (λ xs. xs ++ round s name c.deref.result.now) c.new-around.ensures.items
    ∙ ap (round s name) (c.deref.ensures.value ∙ c.in_ok-regions.ensures) in
    let direct : c.add_direct.new.found.items ≡ direct_from s name [] (chain s start) =
    c.in_ok-add_direct.ensures.found
    ∙ ap (λ xs. xs ++ direct_from s c.add_round.new.key.name.items [] c.deref-2.result.now) c.new-found.ensures.items
    ∙ ap (λ n. direct_from s n [] c.deref-2.result.now) key2
    ∙ ap (direct_from s name []) (c.deref-2.ensures.value ∙ c.in_ok-regions.ensures) in
    let asked : given s c.add_direct.new.key.name.items c.deref-4.result.now ≡ given s name (chain s region) =
    ap (λ n. given s n c.deref-4.result.now) key3 ∙ ap (given s name) (c.deref-4.ensures.value ∙ c.in_ok-all.ensures) in
    let ks = c.put_in_order.new.found.items in
    let has : (k : ℕ) → Contains c.put_in_order.new.found.items k → IsGiven s region name k =
    λ k m. from_given s name region k (subst (λ xs. Contains xs k) asked
    ((c.in_ok-given.ensures.found k).0 ((c.in_ok-put_in_order.ensures.same k).0 m))) in
    let all : (k : ℕ) → IsGiven s region name k → Contains c.put_in_order.new.found.items k =
    λ k is. (c.in_ok-put_in_order.ensures.same k).1 ((c.in_ok-given.ensures.found k).1
    (subst (λ xs. Contains xs k) (sym asked) (in_given s name region k is))) in
    visible_with s name region start c.requires ks has all c.add_by_use.new.found.items
    (c.in_ok-add_by_use.ensures
    ∙ ap (λ xs. xs ++ by_use_among s c.deref-5.result.now c.deref-6.result.now) direct
    ∙ ap (λ xs. direct_from s name [] (chain s start) ++ by_use_among s xs c.deref-6.result.now) (c.deref-5.ensures.value ∙ around)
    ∙ ap (λ xs. direct_from s name [] (chain s start) ++ by_use_among s (round s name (chain s start)) xs) c.deref-6.ensures.value)
