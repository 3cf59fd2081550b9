use Rattle.std.proofs.Common.{is_some, sym, ap, ◌∙◌}
use Rattle.vd_first_elaboration.specs.Tops.{top_units}
use Rattle.vd_first_runs.proofs.UnitLemmas.{elaboration_is, is_found}
use Rattle.vd_first_runs.proofs.units.has_units.Goals as goal

pub returns : goal.returns
returns c =
    let units = c.args.units.now in
    let top = c.args.top.now in
    c.is_some.ensures
    ∙ is_found c.find_units.result (top_units units top) c.find_units.ensures
    ∙ ap is_some (sym (elaboration_is units top))
