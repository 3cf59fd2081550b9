-- The shape of a design whose signals are ports corresponds to itself, where what joins is the same number of a port.
use Rattle.std.proofs.Common.{◌≡◌, ◌<◌, ℕ, zero, suc, ◌+◌, Bool, true, false, List, [], ◌∷◌, length, Option, Some, None, refl, sym, ap, subst, arith}
use Rattle.std.specs.Prelude.{IsSome, if◌then◌else◌, slice_index_or, not, nat_lt, ◌&&◌, ◌==◌}
use Rattle.std.specs.List.{AllZip, AllByRecursion}
use Rattle.vd_kernel.specs.declared.assignments.Source.{Source}
use Rattle.vd_kernel.specs.declared.assignments.Source.TheVariants.{Driver, Port as InnerPort}
use Rattle.vd_kernel.specs.Models.{Signal, no_signal}
use Rattle.vd_kernel.specs.Traces.{with_two}
use Rattle.vd_kernel.specs.Correspondence.{BothOrNone, SameSource, SameSignal, SameShape}
use Rattle.vd_first_elaboration.specs.Ports.{Mode, Port}
use Rattle.vd_first_elaboration.specs.Elaboration.{drivers_of, is_input, kernel_signal, kernel_signals, inputs_from}

-- ---- signals that only drivers drive, and that are tied to no other

abbrev AreDrivers : List Source → Type 0
AreDrivers [] = Unit {0}
AreDrivers (Driver d ∷ ss) = AreDrivers ss
AreDrivers (InnerPort i ∷ ss) = ⊥

pub record IsPlain (s : Signal) : Type 0 where
  pub sources : AreDrivers s.sources
  pub actual : s.actual ≡ None

choose_drivers : (b : Bool) (d : ℕ) (ss : List Source) → AreDrivers ss → AreDrivers (if b then Driver d ∷ ss else ss)
choose_drivers true d ss x = x
choose_drivers false d ss x = x

drivers_are : (signal driver : ℕ) (ds : List ℕ) → AreDrivers (drivers_of signal driver ds)
drivers_are signal driver [] = tt
drivers_are signal driver (d ∷ ds) = choose_drivers (d == signal) driver (drivers_of signal (suc driver) ds) (drivers_are signal (suc driver) ds)

port_plain : (driven : List ℕ) (number outside : ℕ) (mode : Mode) → IsPlain (kernel_signal driven number outside mode)
port_plain driven number outside mode = record { sources = drivers_are number 0 driven; actual = refl }

signals_plain : (driven : List ℕ) (number outside : ℕ) (ps : List Port) → (i : ℕ) → IsPlain (slice_index_or (kernel_signals driven number outside ps) i no_signal)
signals_plain driven number outside [] i = record { sources = tt; actual = refl }
signals_plain driven number outside (p ∷ ps) zero = port_plain driven number outside p.mode
signals_plain driven number outside (p ∷ ps) (suc i) = signals_plain driven (suc number) (if is_input p.mode then suc outside else outside) ps i

-- ---- numbers

signals_length : (driven : List ℕ) (number outside : ℕ) (ps : List Port) → length (kernel_signals driven number outside ps) ≡ length ps
signals_length driven number outside [] = refl
signals_length driven number outside (p ∷ ps) = ap suc (signals_length driven (suc number) (if is_input p.mode then suc outside else outside) ps)

two_from : (b : Bool) (k : ℕ) (rest : Option ℕ) (n i : ℕ) → ((i : ℕ) → rest ≡ Some i → i < suc k + n) → (if b then Some k else rest) ≡ Some i → i < k + suc n
two_from true k rest n i h e = let x : k ≡ i = cc in omega arith
two_from false k rest n i h e = let x = h i e in omega arith

two_within : (k : ℕ) (ss : List Signal) (i : ℕ) → with_two k ss ≡ Some i → i < k + length ss
two_within k [] i e = cc
two_within k (s ∷ ss) i e = two_from (not s.is_resolved && nat_lt 1 (length s.sources)) k (with_two (suc k) ss) (length ss) i (two_within (suc k) ss) e

option_within : (n : ℕ) (o : Option ℕ) → ((i : ℕ) → o ≡ Some i → i < n) → (R : ℕ → ℕ → Type 0) → ((i : ℕ) → i < n → R i i) → BothOrNone R o o
option_within n None h R there = tt
option_within n (Some i) h R there = there i (h i refl)

abbrev pub AllBelow : ℕ → List ℕ → Type 0
AllBelow n ks = AllByRecursion (λ k. k < n) ks

below_more : (b : Bool) (n k : ℕ) (ks : List ℕ) → k < n → AllBelow n ks → AllBelow n (if b then k ∷ ks else ks)
below_more true n k ks l a = (l, a)
below_more false n k ks l a = a

below_eq : (m n : ℕ) → m ≡ n → (ks : List ℕ) → AllBelow m ks → AllBelow n ks
below_eq m n e ks a = subst (λ k. AllBelow k ks) e a

inputs_below : (k : ℕ) (ps : List Port) → AllBelow (k + length ps) (inputs_from k ps)
inputs_below k [] = tt
inputs_below k (p ∷ ps) =
    let n = k + length (p ∷ ps) in
    let rest : AllBelow n (inputs_from (suc k) ps) = below_eq (suc k + length ps) n (omega arith) (inputs_from (suc k) ps) (inputs_below (suc k) ps) in
    below_more (is_input p.mode) n k (inputs_from (suc k) ps) (omega arith) rest

-- ---- what the outside may drive

-- what holds of the number of each signal that the outside may drive holds of all inputs, the first signal having this number
inputs_with : (P : ℕ → Type 0) (driven : List ℕ) (number outside : ℕ) (ps : List Port) → ((j n : ℕ) → n ≡ number + j → IsSome (slice_index_or (kernel_signals driven number outside ps) j no_signal).input → P n) → AllByRecursion P (inputs_from number ps)
inputs_with P driven number outside [] h = tt
inputs_with P driven number outside (p ∷ ps) h =
    input_first (is_input p.mode) (h 0 number (omega arith)) (inputs_with P driven (suc number) (if is_input p.mode then suc outside else outside) ps (λ j n e some. h (suc j) n (omega (arith, e)) some))
  where
    input_first : (b : Bool) → (IsSome (if b then Some outside else None) → P number) → AllByRecursion P (inputs_from (suc number) ps) → AllByRecursion P (if b then number ∷ inputs_from (suc number) ps else inputs_from (suc number) ps)
    input_first true first rest = (first refl, rest)
    input_first false first rest = rest

pub inputs_are : (driven : List ℕ) (ps : List Port) → AllByRecursion (λ i. IsSome (slice_index_or (kernel_signals driven 0 (length driven) ps) i no_signal).input) (inputs_from 0 ps)
inputs_are driven ps =
    inputs_with (λ i. IsSome (slice_index_or (kernel_signals driven 0 (length driven) ps) i no_signal).input) driven 0 (length driven) ps
    (λ j n e some. let same : j ≡ n = omega (arith, e) in subst (λ k. IsSome (slice_index_or (kernel_signals driven 0 (length driven) ps) k no_signal).input) same some)

-- ---- a shape and itself

module _ (joined : ℕ → ℕ → Type 0) (n : ℕ) (same : (i j : ℕ) → joined i j → i ≡ j) (there : (i : ℕ) → i < n → joined i i) where
  pub pairs : (ks : List ℕ) → AllBelow n ks → AllZip joined ks ks
  pairs [] a = tt
  pairs (k ∷ ks) a = (there k a.0, pairs ks a.1)

  sources_same : (ss : List Source) → AreDrivers ss → AllZip (SameSource joined) ss ss
  sources_same [] a = tt
  sources_same (Driver d ∷ ss) a = (refl, sources_same ss a)
  sources_same (InnerPort i ∷ ss) a = absurd a

  signal_same : (s : Signal) → IsPlain s → SameSignal joined s s
  signal_same s p =
      record {
        initial = refl;
        is_resolved = refl;
        sources = sources_same s.sources p.sources;
        actual = subst (λ o. BothOrNone joined o o) (sym p.actual) tt;
        is_out = refl;
        input = refl;
      }

  pub shape_same : (driven : List ℕ) (ps : List Port) → length ps ≡ n → AllBelow n driven → SameShape joined (record { signals = kernel_signals driven 0 (length driven) ps; driven = driven; inputs = inputs_from 0 ps }) (record { signals = kernel_signals driven 0 (length driven) ps; driven = driven; inputs = inputs_from 0 ps })
  shape_same driven ps e below =
      let ss = kernel_signals driven 0 (length driven) ps in
      let long = signals_length driven 0 (length driven) ps in
      record {
        number = refl;
        signals = λ i j x.
            subst (λ k. SameSignal joined (slice_index_or ss i no_signal) (slice_index_or ss k no_signal)) (same i j x)
            (signal_same (slice_index_or ss i no_signal) (signals_plain driven 0 (length driven) ps i));
        two = option_within n (with_two 0 ss) (λ i x. let l = two_within 0 ss i x in omega arith) joined there;
        driven = pairs driven below;
        inputs = pairs (inputs_from 0 ps) (below_eq (0 + length ps) n (omega arith) (inputs_from 0 ps) (inputs_below 0 ps));
      }
