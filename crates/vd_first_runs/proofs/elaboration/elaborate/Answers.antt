use Rattle.std.proofs.Common.{ap, ◌∙◌, subst, sym, is_some}
use Rattle.vd_first_elaboration.specs.Tops.{top_units}
use Rattle.vd_first_runs.specs.Runs.{IsStarted}
use Rattle.vd_first_runs.specs.Elaborations.{EndsElaboration}
use Rattle.vd_first_runs.proofs.DesignLemmas.{ok_implies, err_implies}
use Rattle.vd_first_runs.proofs.UnitLemmas.{made_if, elaboration_is, made_of_found}
use Rattle.vd_first_runs.proofs.elaboration.elaborate.Goals as goal

pub unreachable-requires : goal.unreachable-requires
unreachable-requires c =
    let none = sym (ap is_some (elaboration_is c.args.units.now c.args.top.now ∙ ap made_if c.in-None.ensures)) ∙ c.requires in cc

pub returns-clause-run : goal.returns-clause-run
returns-clause-run c =
    ok_implies _ _ c.elaborate_units.result c.elaborate_units.ensures.run (λ run started e is.
    subst (λ d. IsStarted d run) (made_of_found c.in-Some.found (top_units c.args.units.now c.args.top.now) e c.in-Some.ensures (sym (elaboration_is c.args.units.now c.args.top.now) ∙ is)) started)

pub returns-clause-ends : goal.returns-clause-ends
returns-clause-ends c =
    err_implies _ _ c.elaborate_units.result c.elaborate_units.ensures.ends (λ end ends e is.
    subst (λ d. EndsElaboration d end) (made_of_found c.in-Some.found (top_units c.args.units.now c.args.top.now) e c.in-Some.ensures (sym (elaboration_is c.args.units.now c.args.top.now) ∙ is)) ends)
