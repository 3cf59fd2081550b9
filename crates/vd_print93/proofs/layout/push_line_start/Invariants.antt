use Rattle.std.proofs.Common.{◌≡◌, ◌++◌, ◌∷◌, [], ◌*◌, replicate}
use Rattle.vd_print93.proofs.layout.push_line_start.Given as goal

abbrev pub invariant-loop-step : goal.invariant-loop-step
invariant-loop-step l = l.out.items ≡ (l.fn.out.items ++ 10 ∷ []) ++ replicate (2 * l._step) 32
