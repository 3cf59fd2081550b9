-- Signals that correspond have the same values, and the processes see the same.
use Rattle.std.proofs.Common.{◌≡◌, ℕ, zero, suc, List, [], ◌∷◌, length, Option, Some, None, refl, ap, ◌∙◌, subst}
use Rattle.std.specs.Prelude.{slice_index_or}
use Rattle.std.specs.List.{AllZip}
use Rattle.vd_values.specs.declared.scalar.Scalar.{Scalar}
use Rattle.vd_kernel.specs.declared.assignments.Transaction.{Transaction}
use Rattle.vd_kernel.specs.declared.assignments.Source.{Source}
use Rattle.vd_kernel.specs.declared.assignments.Source.TheVariants.{Driver as ByDriver, Port as ByPort}
use Rattle.vd_kernel.specs.Drivers.{Driver, no_driver}
use Rattle.vd_kernel.specs.Models.{Signal, View, Shape, Stimulus, signal_at}
use Rattle.vd_kernel.specs.Values.{from_outside, sources_of, source_value, value_from, driving_within, driving, through, effective_within, effective, shown}
use Rattle.vd_kernel.specs.Cycles.{before_change, first_view, next_view, first_driver, first_drivers}
use Rattle.vd_kernel.specs.Correspondence.{BothOrNone, SameSource, SameView, SameShape, SameStimulus}
use Rattle.vd_kernel.proofs.ListPairs.{same_map, AllZip-append}

module _ (joined : ℕ → ℕ → Type 0) (m n : Shape) (same : SameShape joined m n) (given other : Stimulus) (stimulus : SameStimulus joined given other) where
  -- Values

  same_outside : (g : List Transaction) (i j : Option ℕ) → i ≡ j → AllZip (SameSource joined) (from_outside g i) (from_outside g j)
  same_outside [] i j e = tt
  same_outside (t ∷ ts) None None e = tt
  same_outside (t ∷ ts) None (Some d) e = cc
  same_outside (t ∷ ts) (Some d) None e = cc
  same_outside (t ∷ ts) (Some d) (Some d') e = let h : d ≡ d' = cc in (h, tt)

  same_sources : (i j : ℕ) → joined i j → AllZip (SameSource joined) (sources_of (signal_at m i) (given i)) (sources_of (signal_at n j) (other j))
  same_sources i j e =
      let s = same.signals i j e in
      let o = same_outside (given i) (signal_at m i).input (signal_at n j).input s.input in
      let o' = subst (λ g. AllZip (SameSource joined) (from_outside (given i) (signal_at m i).input) (from_outside g (signal_at n j).input)) (stimulus i j e) o in
      AllZip-append (SameSource joined) _ _ _ _ s.sources o'

  same_source_value : (ds : List Driver) (f g : ℕ → Scalar) → ((i j : ℕ) → joined i j → f i ≡ g j) → (s t : Source) → SameSource joined s t → source_value ds f s ≡ source_value ds g t
  same_source_value ds f g h (ByDriver d) (ByDriver e) z = ap (λ k. (slice_index_or ds k no_driver).current) z
  same_source_value ds f g h (ByDriver d) (ByPort j) z = absurd z
  same_source_value ds f g h (ByPort i) (ByDriver e) z = absurd z
  same_source_value ds f g h (ByPort i) (ByPort j) z = h i j z

  same_value_from : (s t : Signal) → s.initial ≡ t.initial → s.is_resolved ≡ t.is_resolved → (vs : List Scalar) → value_from s vs ≡ value_from t vs
  same_value_from s t e f [] = e
  same_value_from s t e f (v ∷ vs) = rw f

  same_driving_within : (ds : List Driver) (k : ℕ) (i j : ℕ) → joined i j → driving_within m given ds k i ≡ driving_within n other ds k j
  same_driving_within ds zero i j e = (same.signals i j e).initial
  same_driving_within ds (suc k) i j e =
      let s = same.signals i j e in
      let vs = same_map (SameSource joined) (source_value ds (driving_within m given ds k)) (source_value ds (driving_within n other ds k)) (same_source_value ds _ _ (same_driving_within ds k)) _ _ (same_sources i j e) in
      ap (value_from (signal_at m i)) vs ∙ same_value_from (signal_at m i) (signal_at n j) s.initial s.is_resolved _

  pub same_driving : (ds : List Driver) (i j : ℕ) → joined i j → driving m given ds i ≡ driving n other ds j
  same_driving ds i j e = same_driving_within ds (length m.signals) i j e ∙ ap (λ k. driving_within n other ds k j) same.number

  same_through : (a b : Option ℕ) → BothOrNone joined a b → (f g : ℕ → Scalar) → ((i j : ℕ) → joined i j → f i ≡ g j) → (x y : Scalar) → x ≡ y → through a f x ≡ through b g y
  same_through None None z f g h x y e = e
  same_through None (Some b) z f g h x y e = absurd z
  same_through (Some a) None z f g h x y e = absurd z
  same_through (Some a) (Some b) z f g h x y e = h a b z

  same_effective_within : (ds : List Driver) (k : ℕ) (i j : ℕ) → joined i j → effective_within m given ds k i ≡ effective_within n other ds k j
  same_effective_within ds zero i j e = same_driving ds i j e
  same_effective_within ds (suc k) i j e =
      same_through _ _ (same.signals i j e).actual _ _ (same_effective_within ds k) _ _ (same_driving ds i j e)

  pub same_effective : (ds : List Driver) (i j : ℕ) → joined i j → effective m given ds i ≡ effective n other ds j
  same_effective ds i j e = same_effective_within ds (length m.signals) i j e ∙ ap (λ k. effective_within n other ds k j) same.number

  pub same_shown : (ds : List Driver) (i j : ℕ) → joined i j → shown m given ds i ≡ shown n other ds j
  same_shown ds i j e =
      let a = same_driving ds i j e in
      let b = same_effective ds i j e in
      let c = (same.signals i j e).is_out in
      rw (a, b, c) refl

  -- What processes see

  pub same_first_view : (ds : List Driver) → SameView joined (first_view m given ds) (first_view n other ds)
  same_first_view ds = record { time = refl; value = same_effective ds; shown = same_shown ds; before = λ i j e. refl }

  pub same_next_view : (now : ℕ) (ds : List Driver) (v w : View) → SameView joined v w → SameView joined (next_view m given now ds v) (next_view n other now ds w)
  same_next_view now ds v w s =
      record {
        time = refl;
        value = same_effective ds;
        shown = same_shown ds;
        before = λ i j e.
            let a = s.value i j e in
            let b = same_effective ds i j e in
            let c = s.shown i j e in
            let d = same_shown ds i j e in
            ap (λ x. before_change x (effective m given ds i) (v.shown i) (shown m given ds i)) a
            ∙ ap (λ x. before_change (w.value j) x (v.shown i) (shown m given ds i)) b
            ∙ ap (λ x. before_change (w.value j) (effective n other ds j) x (shown m given ds i)) c
            ∙ ap (λ x. before_change (w.value j) (effective n other ds j) (w.shown j) x) d;
      }

  -- The drivers

  pub same_first_drivers : first_drivers m given ≡ first_drivers n other
  same_first_drivers =
      let a = same_map joined (first_driver m (λ i. [])) (first_driver n (λ i. [])) (λ i j e. ap (λ v. record { current = v; waiting = [] }) (same.signals i j e).initial) m.driven n.driven same.driven in
      let b = same_map joined (first_driver m given) (first_driver n other) (λ i j e. let c = (same.signals i j e).initial in let d = stimulus i j e in cc) m.inputs n.inputs same.inputs in
      cc
