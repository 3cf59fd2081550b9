use Rattle.std.proofs.Common.{◌≡◌, [], ◌&&◌, not, List, ℕ, length, drop, sym, ap, ◌∙◌}
use Rattle.std.specs.Option.{option_or}
use Rattle.std.proofs.lemmas.List.{drop_all}
use Rattle.vd_regions.specs.Scopes.{declaration_at, stands_in}
use Rattle.vd_regions.specs.Homographs.{may_stand_beside}
use Rattle.vd_regions.specs.Found.{clashes_in}
use Rattle.vd_regions.specs.Links.{first_below}
use Rattle.vd_regions.proofs.LinkLemmas.{position_below}
use Rattle.vd_regions.proofs.SortLemmas.{last_of, last_is_first}
use Rattle.vd_regions.proofs.regions.Regions.first_one_by_one.Goals as goal

pub returns : goal.returns
returns c =
    let s = c.args.self.now in
    let items : List ℕ = c.deref-number-items.result.now in
    let p = λ (k : ℕ). not (may_stand_beside c.args.self.now (declaration_at c.args.self.now k) c.args.new.now) in
    let done : drop c.loop-number.number-index items ≡ [] = drop_all c.loop-number.number-index items c.loop-number-test.false in
    sym (ap (λ ks. option_or (last_of p ks) c.loop-number.found) done)
    ∙ c.loop-number.invariant.same
    ∙ ap (last_of p) c.loop-number.invariant.all
    ∙ last_is_first (stands_in c.args.key.now.region c.args.key.now.name.items) (λ e. not (may_stand_beside c.args.self.now e.declaration c.args.new.now)) s.entered (length s.entered)
    ∙ ap (λ name. first_below (λ e. stands_in c.args.key.now.region name e && not (may_stand_beside c.args.self.now e.declaration c.args.new.now)) s.entered (length s.entered)) c.requires
    ∙ sym (position_below (clashes_in c.args.self.now c.args.key.now.region c.args.new.now) s.entered)
