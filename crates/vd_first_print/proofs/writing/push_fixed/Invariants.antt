use Rattle.std.proofs.Common.{◌≡◌, ◌++◌, take}
use Rattle.vd_first_print.specs.Writing.{fixed_tokens}
use Rattle.vd_first_print.proofs.writing.push_fixed.Given as goal

abbrev pub invariant-loop-kind : goal.invariant-loop-kind
invariant-loop-kind l = l.out.items ≡ l.initial.out.items ++ fixed_tokens (take l.kind-index l.kinds)
