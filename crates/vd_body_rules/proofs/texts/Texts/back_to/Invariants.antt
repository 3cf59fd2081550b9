use Rattle.std.proofs.Common.{◌≡◌, length, take}
use Rattle.vd_body_rules.proofs.texts.Texts.back_to.Given as goal

abbrev pub invariant-loop-alloc : goal.invariant-loop-alloc
invariant-loop-alloc l = take l.count l.texts ≡ take l.count l.fn.self

abbrev pub decreases-loop-alloc : goal.decreases-loop-alloc
decreases-loop-alloc l = length l.texts
