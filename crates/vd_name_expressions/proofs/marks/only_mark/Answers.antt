use Rattle.std.proofs.Common.{subst, ◌∙◌}
use Rattle.std.specs.Prelude.{MatchOption}
use Rattle.vd_overloads.specs.Interpretations.{IsNotOne}
use Rattle.vd_readings.specs.Found.{HoldsOnly}
use Rattle.vd_name_expressions.proofs.ReadLemmas.{mark_found}
use Rattle.vd_name_expressions.proofs.marks.only_mark.Goals as goal

pub returns-clause-found : goal.returns-clause-found
returns-clause-found c =
    subst (λ all. MatchOption c.only.result (IsNotOne all) (λ number. HoldsOnly c.read.new.out number all))
    (mark_found c.args.at.now c.args.names.now c.args.tree.now c.in_ok-surroundings.field-0 c.deref.result.now
    c.in_ok-surroundings.ensures (c.deref.ensures.value ∙ c.in_ok-states.ensures) c.requires.alone)
    (c.only.ensures c.read.new.out _ c.in_ok-found.ensures.found)
