-- The values of a design are those of the signals that the code is told of.
use Rattle.std.proofs.Common.{◌≡◌, ℕ, zero, suc, Bool, true, false, List, [], ◌∷◌, length, Option, None, map, refl, sym, ap, ap₂, ◌∙◌}
use Rattle.std.specs.Prelude.{slice_index_or, if◌then◌else◌}
use Rattle.std.proofs.lemmas.List.{length-map}
use mathlib.Core.Path.{fun_ext}
use Rattle.vd_values.specs.declared.scalar.Scalar.{Scalar}
use Rattle.vd_kernel.specs.Drivers.{Driver}
use Rattle.vd_kernel.specs.Models.{View, Signal, Shape, signal_at, no_signal}
use Rattle.vd_kernel.specs.Values.{sources_of, source_value, value_from, driving_within, driving, through, effective_within, effective, shown}
use Rattle.vd_kernel.specs.Cycles.{before_change, first_view, next_view}
use Rattle.vd_kernel.specs.Orders.{shape_of}
use Rattle.vd_kernel.specs.SignalValues.{nothing_given}
use Rattle.vd_simulation.specs.Designs.{told, IsDesign}

told_at : (ss : List Signal) (i : ℕ) → slice_index_or (map told ss) i no_signal ≡ told (slice_index_or ss i no_signal)
told_at [] i = refl
told_at (s ∷ ss) zero = refl
told_at (s ∷ ss) (suc i) = told_at ss i

told_value : (s : Signal) (vs : List Scalar) → value_from (told s) vs ≡ value_from s vs
told_value s [] = refl
told_value s (v ∷ vs) = refl

module _ (m : Shape) (ds : List Driver) where
  abbrev t : Shape
  t = shape_of (map told m.signals)

  told_driving_within : (n i : ℕ) → driving_within t nothing_given ds n i ≡ driving_within m nothing_given ds n i
  told_driving_within zero i = ap (λ s. s.initial) (told_at m.signals i)
  told_driving_within (suc n) i =
      ap (λ s. value_from s (map (source_value ds (driving_within t nothing_given ds n)) (sources_of s []))) (told_at m.signals i)
      ∙ told_value (signal_at m i) (map (source_value ds (driving_within t nothing_given ds n)) (sources_of (signal_at m i) []))
      ∙ ap (λ f. value_from (signal_at m i) (map (source_value ds f) (sources_of (signal_at m i) []))) (fun_ext (told_driving_within n))

  told_driving : (i : ℕ) → driving t nothing_given ds i ≡ driving m nothing_given ds i
  told_driving i =
      ap (λ n. driving_within t nothing_given ds n i) (length-map m.signals told) ∙ told_driving_within (length m.signals) i

  told_effective_within : (n i : ℕ) → effective_within t nothing_given ds n i ≡ effective_within m nothing_given ds n i
  told_effective_within zero i = told_driving i
  told_effective_within (suc n) i =
      ap (λ s. through s.actual (effective_within t nothing_given ds n) (driving t nothing_given ds i)) (told_at m.signals i)
      ∙ ap (λ f. through (signal_at m i).actual f (driving t nothing_given ds i)) (fun_ext (told_effective_within n))
      ∙ ap (through (signal_at m i).actual (effective_within m nothing_given ds n)) (told_driving i)

  told_effective : (i : ℕ) → effective t nothing_given ds i ≡ effective m nothing_given ds i
  told_effective i =
      ap (λ n. effective_within t nothing_given ds n i) (length-map m.signals told) ∙ told_effective_within (length m.signals) i

  -- a signal without an actual has its driving value
  own_effective : (n i : ℕ) → (signal_at m i).actual ≡ None → effective_within m nothing_given ds n i ≡ driving m nothing_given ds i
  own_effective zero i e = refl
  own_effective (suc n) i e = ap (λ o. through o (effective_within m nothing_given ds n) (driving m nothing_given ds i)) e

  chosen : (b : Bool) (x y : Scalar) → (b ≡ true → y ≡ x) → (if b then x else y) ≡ y
  chosen true x y h = sym (h refl)
  chosen false x y h = refl

module _ (m : Shape) (signals : List Signal) (is : IsDesign m signals) (ds : List Driver) where
  pub effective_in : (i : ℕ) → effective (shape_of signals) nothing_given ds i ≡ effective m nothing_given ds i
  effective_in i = ap (λ ss. effective (shape_of ss) nothing_given ds i) is.signals_are ∙ told_effective m ds i

  shows_effective : (i : ℕ) → shown m nothing_given ds i ≡ effective m nothing_given ds i
  shows_effective i =
      chosen m ds (signal_at m i).is_out (driving m nothing_given ds i) (effective m nothing_given ds i)
      (λ e. own_effective m ds (length m.signals) i (is.out_has_no_actual i e))

  -- what processes see, from the effective values
  module _ (values : ℕ → Scalar) (held : (i : ℕ) → values i ≡ effective (shape_of signals) nothing_given ds i) where
    value_is : values ≡ effective m nothing_given ds
    value_is = fun_ext (λ i. held i ∙ effective_in i)

    shown_is : values ≡ shown m nothing_given ds
    shown_is = fun_ext (λ i. held i ∙ effective_in i ∙ sym (shows_effective i))

    pub first_view_is : (before : ℕ → Option Scalar) → ((i : ℕ) → before i ≡ None) → (let v : View = record { time = 0; value = values; shown = values; before = before } in v ≡ first_view m nothing_given ds)
    first_view_is before none = λ k. record { time = 0; value = value_is k; shown = shown_is k; before = fun_ext none k }

    pub next_view_is : (now : ℕ) (old : View) (before : ℕ → Option Scalar) → ((i : ℕ) → before i ≡ before_change (old.value i) (values i) (old.shown i) (values i)) → (let v : View = record { time = now; value = values; shown = values; before = before } in v ≡ next_view m nothing_given now ds old)
    next_view_is now old before is_changed =
        λ k. record {
          time = now;
          value = value_is k;
          shown = shown_is k;
          before = fun_ext (λ i. is_changed i ∙ ap₂ (λ x y. before_change (old.value i) x (old.shown i) y) (ap (λ f. f i) value_is) (ap (λ f. f i) shown_is)) k;
        }
