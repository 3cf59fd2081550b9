use Rattle.std.proofs.Common.{ap, sym, ◌∷◌, ◌∙◌}
use Rattle.vd_bound_rules.proofs.OperandLemmas.{argument_more}
use Rattle.vd_bound_rules.proofs.ReadyLemmas.{still_ready}
use Rattle.vd_walks.specs.Least.{least_of, lesser}
use Rattle.vd_value_rules.specs.Bounds.{indefinite_arguments}
use Rattle.vd_bound_rules.proofs.operands.arguments.Goals as goal

pub loop-first-preserved : goal.loop-first-preserved
loop-first-preserved c =
    let n = c.in-Some.first in
    let i = c.loop-first.invariant in
    record {
      ready = still_ready c.loop-first.design c.one_operand.new.design i.ready c.in_ok-refused.ensures.knows;
      knows = λ d ks known. c.in_ok-refused.ensures.knows d ks (i.knows d ks known);
      is = λ d s ks knows.
          argument_more d s c.loop-first.rest c.argument_of-argument.result n.form n.text.now n.place n.parts n.next c.loop-first.found c.in_ok-refused.refused _
          c.in-Some.ensures c.argument_of-argument.ensures (c.in_ok-refused.ensures.is d s ks (i.knows d (s.known ∷ ks) knows)) (i.is d s ks knows)
          ∙ ap (λ o. lesser o (least_of (indefinite_arguments d s n.next))) (sym c.lesser-found.ensures);
    }
