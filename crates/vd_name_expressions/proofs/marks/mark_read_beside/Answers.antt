use Rattle.std.proofs.Common.{refl, ap, subst, ◌∙◌}
use Rattle.std.specs.Prelude.{MatchOption}
use Rattle.vd_walks.specs.Least.{lesser}
use Rattle.vd_overloads.specs.Interpretations.{IsNotOne}
use Rattle.vd_readings.specs.Found.{HoldsOnly}
use Rattle.vd_naming.specs.Expressions.{mark_readings}
use Rattle.vd_name_expressions.proofs.ReadLemmas.{mark_one, mark_none}
use Rattle.vd_name_expressions.proofs.marks.mark_read_beside.Goals as goal

pub returns-in-Some-clause-is : goal.returns-in-Some-clause-is
returns-in-Some-clause-is c =
    let all = mark_readings c.args.at.now c.args.names.now c.args.tree.now in
    mark_one c.args.at.now c.args.names.now c.args.tree.now c.args.pieces c.only_mark.new.out (record { tree = c.in-Some.number; first = c.args.pieces })
    (subst (λ o. MatchOption o (IsNotOne all) (λ number. HoldsOnly c.only_mark.new.out number all)) c.in-Some.is c.in_ok-found.ensures.found) refl

pub returns-in_ok-number-in-None-clause-is : goal.returns-in_ok-number-in-None-clause-is
returns-in_ok-number-in-None-clause-is c =
    let all = mark_readings c.args.at.now c.args.names.now c.args.tree.now in
    mark_none c.args.at.now c.args.names.now c.args.tree.now c.args.pieces c.unresolved.new.out
    (record { tree = c.in_ok-number-in-None.number; first = c.lesser.result })
    (subst (λ o. MatchOption o (IsNotOne all) (λ number. HoldsOnly c.only_mark.new.out number all)) c.in-None.is c.in_ok-found.ensures.found)
    c.in_ok-number-in-None.ensures.holds (c.lesser.ensures ∙ ap (lesser c.args.pieces) c.in_ok-refused-in-None.ensures)
