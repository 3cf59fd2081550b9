use Rattle.std.proofs.Common.{◌∷◌, ◌∙◌}
use Rattle.vd_bound_rules.proofs.OperandLemmas.{two_operands_are}
use Rattle.vd_bound_rules.proofs.ReadyLemmas.{still_ready}
use Rattle.vd_bound_rules.proofs.operands.two_operands.Goals as goal

pub returns-clause-is : goal.returns-clause-is
returns-clause-is c = λ d s ks knows.
    c.lesser.ensures ∙ two_operands_are d s c.args.trees.now c.next.result c.in_ok-first.first c.in_ok-second.second c.next.ensures
    (c.in_ok-first.ensures.is d s ks knows) (c.in_ok-second.ensures.is d s ks (c.in_ok-first.ensures.knows d (s.known ∷ ks) knows))

pub one_operand-requires-2 : goal.one_operand-requires-2
one_operand-requires-2 c = record { ready = still_ready c.args.design.now c.one_operand.new.design c.requires.ready c.in_ok-first.ensures.knows }
