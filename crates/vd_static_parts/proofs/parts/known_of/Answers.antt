use Rattle.std.proofs.Common.{arith, refl}
use Rattle.vd_value_rules.specs.Indicated.{static_of}
use Rattle.vd_static_parts.proofs.KnownLemmas.{known_more, known_of_all, known_parts}
use Rattle.vd_static_parts.proofs.parts.known_of.Goals as goal

pub loop-part-preserved : goal.loop-part-preserved
loop-part-preserved c =
    known_more (λ x. static_of x.sense.known) (static_of c.loop-part.known) (static_of c.both-known.result) (static_of c.part-item.result.sense.known)
    (known_parts c.args.parts.now) c.args.parts.now c.loop-part.part-index c.part-item.result (omega arith) c.part-item.is refl c.both-known.ensures c.loop-part.invariant

pub returns : goal.returns
returns c = λ subtypes e ms are.
    known_of_all subtypes e (static_of c.loop-part.known) c.args.parts.now ms c.loop-part.part-index (omega arith) c.loop-part.invariant are
