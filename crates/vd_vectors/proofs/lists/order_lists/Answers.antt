use Rattle.std.proofs.Common.{◌≤◌, length, sym, ◌∙◌, arith}
use Rattle.vd_vectors.proofs.ListLemmas.{shorter_first, longer_first}
use Rattle.vd_vectors.proofs.lists.order_lists.Goals as goal
use Rattle.vd_vectors.proofs.lists.order_lists.Goals.{then-loop-i-test+else-i-right, else-loop-i-test}

pub returns-then-left-right-2 : goal.returns-then-left-right-2
returns-then-left-right-2 c =
    let end : length c.args.left.now ≤ c.loop-i.i = elim c.loop-i-test.branch [ then-loop-i-test+else-i-right w ↦ omega arith | else-loop-i-test w ↦ omega arith ] in
    sym (shorter_first c.args.left.now c.args.right.now c.loop-i.i end (omega arith)) ∙ c.loop-i.invariant.same

pub returns-else-left-right-2 : goal.returns-else-left-right-2
returns-else-left-right-2 c =
    let end : length c.args.right.now ≤ c.loop-i.i = elim c.loop-i-test.branch [ then-loop-i-test+else-i-right w ↦ omega arith | else-loop-i-test w ↦ omega arith ] in
    sym (longer_first c.args.left.now c.args.right.now c.loop-i.i (omega arith) end) ∙ c.loop-i.invariant.same
