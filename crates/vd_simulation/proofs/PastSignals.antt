-- There is nothing past the last signal.
use Rattle.std.proofs.Common.{◌≡◌, ℕ, zero, suc, ◌≤◌, List, length, ap, ◌∙◌}
use Rattle.std.proofs.lemmas.List.{get_or_past}
use Rattle.vd_values.specs.declared.scalar.Scalar.TheVariants.{Literal}
use Rattle.vd_kernel.specs.Drivers.{Driver}
use Rattle.vd_kernel.specs.Models.{Shape, signal_at, no_signal}
use Rattle.vd_kernel.specs.Values.{driving_within, driving, through, effective_within, effective, sources_of, source_value, value_from}
use Rattle.vd_kernel.specs.SignalValues.{nothing_given}
use Rattle.std.specs.Prelude.{map}

module _ (m : Shape) (ds : List Driver) (i : ℕ) (past : length m.signals ≤ i) where
  at : signal_at m i ≡ no_signal
  at = get_or_past m.signals i no_signal past

  driving_past : (n : ℕ) → driving_within m nothing_given ds n i ≡ Literal 0
  driving_past zero = ap (λ s. s.initial) at
  driving_past (suc n) = ap (λ s. value_from s (map (source_value ds (driving_within m nothing_given ds n)) (sources_of s (nothing_given i)))) at

  outer_past : (n : ℕ) → effective_within m nothing_given ds n i ≡ Literal 0
  outer_past zero = driving_past (length m.signals)
  outer_past (suc n) =
      ap (λ s. through s.actual (effective_within m nothing_given ds n) (driving m nothing_given ds i)) at ∙ driving_past (length m.signals)

  pub effective_past : effective m nothing_given ds i ≡ Literal 0
  effective_past = outer_past (length m.signals)
