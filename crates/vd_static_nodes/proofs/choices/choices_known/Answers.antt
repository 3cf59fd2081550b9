use Rattle.std.proofs.Common.{arith}
use Rattle.vd_value_rules.specs.Indicated.{static_of}
use Rattle.vd_static_parts.proofs.KnownLemmas.{known_more}
use Rattle.vd_static_nodes.specs.Choices.{known_among, known_with}
use Rattle.vd_static_nodes.proofs.choices.choices_known.Goals as goal

pub loop-choice-preserved : goal.loop-choice-preserved
loop-choice-preserved c =
    known_more (λ x. known_with x.sense.mark (static_of x.sense.known)) (static_of c.loop-choice.known) (static_of c.both-known.result) (static_of c.choice_known.result)
    (known_among c.args.choices.now) c.args.choices.now c.loop-choice.choice-index c.choice-item.result (omega arith) c.choice-item.is c.choice_known.ensures c.both-known.ensures c.loop-choice.invariant
