-- The past of a signal after a step.
use Rattle.std.proofs.Common.{◌≡◌, ap, ◌∙◌}
use Rattle.vd_values.specs.declared.scalar.Scalar.{Scalar}
use Rattle.vd_kernel.specs.declared.histories.History.{History}
use Rattle.vd_kernel.specs.Histories.{history_after}

-- equal values before and behind the step, and an equal past, make an equal one
pub same_after : (v w x y : Scalar) (h k : History) → v ≡ w → x ≡ y → h ≡ k → history_after v x h ≡ history_after w y k
same_after v w x y h k e f g = ap (λ z. history_after z x h) e ∙ ap (λ z. history_after w z h) f ∙ ap (history_after w y) g
