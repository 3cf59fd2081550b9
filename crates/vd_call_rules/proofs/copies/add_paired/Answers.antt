use Rattle.std.proofs.Common.{drop}
use Rattle.vd_call_rules.proofs.PairLemmas.{all_paired}
use Rattle.vd_call_rules.proofs.copies.add_paired.Goals as goal

pub returns-else-k-copies : goal.returns-else-k-copies
returns-else-k-copies c =
    all_paired c.loop-k.pairs.items (drop c.loop-k.k c.args.originals.now) c.args.copies.now c.loop-k.k _ c.loop-k.invariant c.if-k-copies.false
