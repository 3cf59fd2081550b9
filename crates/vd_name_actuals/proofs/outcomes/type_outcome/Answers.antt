use Rattle.std.proofs.Common.{subst}
use Rattle.std.specs.Prelude.{MatchOption}
use Rattle.vd_overloads.specs.Interpretations.{IsNotOne}
use Rattle.vd_readings.specs.Found.{HoldsOnly}
use Rattle.vd_naming.specs.Expressions.{mark_readings}
use Rattle.vd_name_actuals.proofs.TypeOutcomeLemmas.{no_mark_made}
use Rattle.vd_name_actuals.proofs.outcomes.type_outcome.Goals as goal

pub returns-in_ok-tree-in-None-clause-is : goal.returns-in_ok-tree-in-None-clause-is
returns-in_ok-tree-in-None-clause-is c =
    let all = mark_readings c.args.at.now c.args.names.now c.args.actual.now in
    no_mark_made c.unresolved.new.out c.args.at.now c.args.names.now c.args.place c.args.actual.now (record { tree = c.in_ok-tree-in-None.tree; first = c.lesser.result })
    c.in_ok-pieces.pieces c.in_ok-refused-in-None.refused
    (subst (λ o. MatchOption o (IsNotOne all) (λ number. HoldsOnly c.only_mark.new.out number all)) c.in-None.is c.in_ok-found.ensures.found)
    c.in_ok-tree-in-None.ensures.holds c.lesser.ensures c.in_ok-pieces.ensures c.in_ok-refused-in-None.ensures
