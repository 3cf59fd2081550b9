use Rattle.vd_structure_rules.proofs.RuleLemmas.{seven_steps}
use Rattle.vd_structure_rules.proofs.judging.broken_by_statement.Goals as goal

pub returns : goal.returns
returns c =
    seven_steps c.wait_in_listed.ensures c.process_without_wait.ensures c.loop_without_wait.ensures c.return_outside.ensures c.wrong_jump-jump.ensures
    c.in_function.ensures c.report_goes_on.ensures c.lesser-waits.ensures c.lesser-control.ensures c.lesser-inside.ensures c.lesser.ensures c.lesser-2.ensures
    c.lesser-3.ensures
