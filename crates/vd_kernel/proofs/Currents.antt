-- Driving and effective values depend on what drivers have now, and on nothing that is projected.
use Rattle.std.proofs.Common.{◌≡◌, ℕ, zero, suc, List, [], ◌∷◌, length, Option, Some, None, map, set, ◌<◌, refl, sym, ap, ◌∙◌, ⊎_elim, arith, get_or-set_same, get_or-set_other}
use Rattle.std.proofs.lemmas.Bool.{cases_eq}
use Rattle.std.specs.Prelude.{slice_index_or}
use Rattle.vd_values.specs.declared.scalar.Scalar.{Scalar}
use Rattle.vd_kernel.specs.declared.assignments.Source.{Source}
use Rattle.vd_kernel.specs.declared.assignments.Source.TheVariants.{Driver as ByDriver, Port as ByPort}
use Rattle.vd_kernel.specs.Drivers.{Driver, no_driver}
use Rattle.vd_kernel.specs.Models.{Shape, Stimulus, signal_at}
use Rattle.vd_kernel.specs.Values.{sources_of, source_value, value_from, driving_within, driving, through, effective_within, effective}
use Rattle.vd_kernel.specs.Histories.{history_at}
use Rattle.vd_kernel.specs.SignalValues.{value_at}
use Rattle.vd_kernel.specs.Simulated.{first_history}

abbrev pub HaveSameCurrents : List Driver → List Driver → Type 0
HaveSameCurrents ds es = (d : ℕ) → (slice_index_or ds d no_driver).current ≡ (slice_index_or es d no_driver).current

-- where one driver changes and keeps its value
pub same_after_set : (ds : List Driver) (n : ℕ) (x : Driver) → n < length ds → x.current ≡ (slice_index_or ds n no_driver).current → HaveSameCurrents (set ds n x) ds
same_after_set ds n x h e = λ d.
    ⊎_elim
    (λ same. ap (λ k. (slice_index_or (set ds n x) k no_driver).current) same ∙ ap (λ y. y.current) (get_or-set_same ds n x no_driver h) ∙ e ∙ ap (λ k. (slice_index_or ds k no_driver).current) (sym same))
    (λ ne. ap (λ y. y.current) (get_or-set_other ds n d x no_driver ne))
    (cases_eq d n)

module _ (ds es : List Driver) (same : HaveSameCurrents ds es) where
  same_sources : (f g : ℕ → Scalar) → ((j : ℕ) → f j ≡ g j) → (ss : List Source) → map (source_value ds f) ss ≡ map (source_value es g) ss
  same_sources f g h [] = refl
  same_sources f g h (ByDriver d ∷ ss) = let a = same d in let b = same_sources f g h ss in cc
  same_sources f g h (ByPort j ∷ ss) = let a = h j in let b = same_sources f g h ss in cc

  same_through : (o : Option ℕ) (f g : ℕ → Scalar) (x y : Scalar) → ((j : ℕ) → f j ≡ g j) → x ≡ y → through o f x ≡ through o g y
  same_through None f g x y h e = e
  same_through (Some a) f g x y h e = h a

  module _ (m : Shape) (given : Stimulus) where
    same_driving : (n i : ℕ) → driving_within m given ds n i ≡ driving_within m given es n i
    same_driving zero i = refl
    same_driving (suc n) i =
        ap (value_from (signal_at m i)) (same_sources (driving_within m given ds n) (driving_within m given es n) (same_driving n) (sources_of (signal_at m i) (given i)))

    same_outer : (n i : ℕ) → effective_within m given ds n i ≡ effective_within m given es n i
    same_outer zero i = same_driving (length m.signals) i
    same_outer (suc n) i =
        same_through (signal_at m i).actual (effective_within m given ds n) (effective_within m given es n) (driving m given ds i) (driving m given es i) (same_outer n) (same_driving (length m.signals) i)

    pub same_effective : (i : ℕ) → effective m given ds i ≡ effective m given es i
    same_effective i = same_outer (length m.signals) i

-- the first history of a signal
pub first_history_at : (vs : List Scalar) (i : ℕ) → i < length vs → history_at (map first_history vs) i ≡ first_history (value_at vs i)
first_history_at [] i h = absurd (omega arith)
first_history_at (v ∷ vs) zero h = refl
first_history_at (v ∷ vs) (suc i) h = first_history_at vs i (omega arith)
