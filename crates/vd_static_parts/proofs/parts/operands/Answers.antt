use Rattle.std.proofs.Common.{arith}
use Rattle.vd_static_parts.proofs.KnownLemmas.{all_operands}
use Rattle.vd_static_parts.proofs.parts.operands.Goals as goal

pub returns : goal.returns
returns c = λ subtypes e ms are local.
    all_operands subtypes e c.loop-part.values.items c.args.parts.now ms c.loop-part.part-index (omega arith) c.loop-part.invariant are local
