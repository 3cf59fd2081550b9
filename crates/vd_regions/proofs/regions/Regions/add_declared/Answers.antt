use Rattle.std.proofs.Common.{◌≡◌, ◌++◌, ap, ◌∙◌}
use Rattle.std.specs.List.{filter}
use Rattle.vd_regions.specs.Scopes.{Scopes}
use Rattle.vd_regions.specs.Found.{entered_in, in_place, functions_of, declared_of}
use Rattle.vd_regions.proofs.PlaceLemmas.{functions_alone}
use Rattle.vd_regions.proofs.regions.Regions.add_declared.Goals as goal

pub returns : goal.returns
returns c =
    let s = c.args.self.now in
    let here = entered_in c.args.self.now c.args.key.now.region c.args.key.now.name.items in
    let entered : c.add_entered.new.found.items ≡ here =
    c.in_ok-add_entered.ensures
    ∙ ap (λ (s : Scopes). c.new-entered.result.items ++ entered_in s c.args.key.now.region c.args.key.now.name.items) c.self.view_is
    ∙ ap (λ xs. xs ++ here) c.new-entered.ensures.items in
    c.in_ok-add_in_place.ensures
    ∙ ap (λ ks. c.args.found.now.items ++ ks)
    (ap (λ fs. filter (in_place s fs) c.deref-3.result.now) (c.deref-2.ensures.value ∙ c.in_ok-functions.ensures ∙ ap (functions_of s) c.deref.ensures.value)
    ∙ ap (filter (in_place s (functions_of s c.add_entered.new.found.items))) c.deref-3.ensures.value
    ∙ functions_alone s c.add_entered.new.found.items
    ∙ ap (declared_of s) entered)
