use Rattle.std.proofs.Common.{◌≡◌, length, sym, ap, ◌∙◌}
use Rattle.std.proofs.lemmas.Bool.{eqb-true}
use Rattle.vd_regions.specs.Scopes.{Scopes, stands_in}
use Rattle.vd_regions.specs.Found.{entered_below, entered_in}
use Rattle.vd_regions.proofs.LinkLemmas.{entered_skip}
use Rattle.vd_regions.proofs.regions.Regions.is_bare.Goals as goal

pub returns : goal.returns
returns c = λ none.
    let es = c.self.inside.catalog in
    let test = stands_in c.args.key.now.region c.args.key.now.name.items in
    let zero : c.table.result.newest ≡ 0 = eqb-true _ _ none in
    sym (ap (λ (s : Scopes). entered_in s c.args.key.now.region c.args.key.now.name.items) c.self.view_is)
    ∙ entered_skip test es (length es)
    ∙ ap (entered_below test es) (sym c.table.ensures.leads ∙ zero)
