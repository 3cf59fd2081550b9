-- The ports in the list of inputs of a design are ports that the outside may drive; and what a design has stands below the number of its signals.
use Rattle.std.proofs.Common.{◌≡◌, ◌<◌, ℕ, zero, suc, ◌+◌, Bool, true, false, List, [], ◌∷◌, length, Option, Some, None, refl, sym, ap, subst, arith}
use Rattle.std.specs.Prelude.{IsSome, slice_get, slice_index_or, if◌then◌else◌}
use Rattle.std.specs.List.{AllByRecursion}
use Rattle.vd_kernel.specs.Models.{Signal, no_signal, signal_at, Model, Stimulus}
use Rattle.vd_kernel.specs.Cycles.{State, ProcessStop, Moment, next_time, initialised, cycle, state_after}
use Rattle.vd_kernel.specs.Traces.{Trace, End, Done, Quiet, Halted, TwoSources, with_two, has_two, unless_stopped, at_next, moment_on, trace_from, unless_two, trace}
use Rattle.vd_kernel.specs.Stimuli.{IsInput}
use Rattle.vd_meaning.specs.Building.{ScalarObject, Made}
use Rattle.vd_meaning.specs.Elaborations.{is_input, inputs_from, signals_from, shape_of}

-- ---- inputs

-- the signals of f from number n on are those of these objects
abbrev AreFrom : (ℕ → Signal) → Made → ℕ → ℕ → List ScalarObject → Type 0
AreFrom f made n outside xs = (i k : ℕ) → k ≡ n + i → f k ≡ slice_index_or (signals_from made n outside xs) i no_signal

module _ (f : ℕ → Signal) (made : Made) where
  abbrev Driven : ℕ → Type 0
  Driven k = IsSome (f k).input

  -- an input in front, where the first object is one
  with_first : (b : Bool) (n outside : ℕ) (ns : List ℕ) → (f n).input ≡ (if b then Some outside else None) → AllByRecursion Driven ns → AllByRecursion Driven (if b then n ∷ ns else ns)
  with_first true n outside ns e rest = (subst IsSome (sym e) refl, rest)
  with_first false n outside ns e rest = rest

  inputs_hold : (n outside : ℕ) (xs : List ScalarObject) → AreFrom f made n outside xs → AllByRecursion Driven (inputs_from n xs)
  inputs_hold n outside [] at = tt
  inputs_hold n outside (x ∷ xs) at =
      with_first (is_input x) n outside (inputs_from (suc n) xs) (ap (λ s. s.input) (at 0 n (omega arith)))
      (inputs_hold (suc n) (if is_input x then suc outside else outside) xs (λ i k e. at (suc i) k (omega arith)))

pub inputs_are_inputs : (m : Made) → AllByRecursion (IsInput (shape_of m)) (shape_of m).inputs
inputs_are_inputs m =
    inputs_hold (signal_at (shape_of m)) m 0 (length m.driven) m.signals
    (λ i k e. let same : k ≡ i = omega arith in ap (signal_at (shape_of m)) same)

-- ---- numbers below that of the signals

pub there : {A : Type 0} (xs : List A) (i : ℕ) (x : A) → slice_get xs i ≡ Some x → i < length xs
there [] i x e = cc
there (y ∷ ys) zero x e = omega arith
there (y ∷ ys) (suc i) x e = let h = there ys i x e in omega arith

-- and below it there is one
pub signal_there : {A : Type 0} (xs : List A) (i : ℕ) → i < length xs → (x : A) × (slice_get xs i ≡ Some x)
signal_there [] i h = absurd (omega arith)
signal_there (y ∷ ys) zero h = (y, refl)
signal_there (y ∷ ys) (suc i) h = signal_there ys i (omega arith)

input_there : (ss : List Signal) (i : ℕ) → IsSome (slice_index_or ss i no_signal).input → i < length ss
input_there [] i h = cc
input_there (s ∷ ss) zero h = omega arith
input_there (s ∷ ss) (suc i) h = let k = input_there ss i h in omega arith

signal_count : (m : Made) (n outside : ℕ) (xs : List ScalarObject) → length (signals_from m n outside xs) ≡ length xs
signal_count m n outside [] = refl
signal_count m n outside (x ∷ xs) = let k = signal_count m (suc n) (if is_input x then suc outside else outside) xs in omega arith

pub shape_count : (m : Made) → length (shape_of m).signals ≡ length m.signals
shape_count m = signal_count m 0 (length m.driven) m.signals

pub is_below : (m : Made) (i : ℕ) → IsInput (shape_of m) i → i < length m.signals
is_below m i h = let k = input_there (shape_of m).signals i h in let e = shape_count m in omega arith

-- ---- a trace that ends before its first step names a signal of the design

abbrev pub EndsBelow : ℕ → End → Type 0
EndsBelow n Done = Unit {0}
EndsBelow n Quiet = Unit {0}
EndsBelow n Halted = Unit {0}
EndsBelow n (TwoSources i) = i < n

abbrev FoundBelow : ℕ → Option ℕ → Type 0
FoundBelow n None = Unit {0}
FoundBelow n (Some i) = i < n

found_first : (b : Bool) (k n : ℕ) (o : Option ℕ) → k < n → FoundBelow n o → FoundBelow n (if b then Some k else o)
found_first true k n o h rest = h
found_first false k n o h rest = rest

two_below : (k n : ℕ) (ss : List Signal) → k + length ss ≡ n → FoundBelow n (with_two k ss)
two_below k n [] e = tt
two_below k n (s ∷ ss) e = found_first (has_two s) k n (with_two (suc k) ss) (omega arith) (two_below (suc k) n ss (omega arith))

module _ (n : ℕ) where
  stopped_below : (o : Option ProcessStop) (rest : Trace) → EndsBelow n rest.end → EndsBelow n (unless_stopped o rest).end
  stopped_below None rest h = h
  stopped_below (Some stop) rest h = tt

  next_below : (o : Option ℕ) (go : ℕ → Trace) → ((now : ℕ) → EndsBelow n (go now).end) → EndsBelow n (at_next o go).end
  next_below None go h = tt
  next_below (Some now) go h = h now

  module _ {P : Type 0} (m : Model P) (given : Stimulus) where
    moment_below : (x : Moment P) (go : State P → Trace) → ((s : State P) → EndsBelow n (go s).end) → EndsBelow n (moment_on x go).end
    moment_below x go h = stopped_below x.round.stop (go (state_after x)) (h (state_after x))

    from_below : (cycles : ℕ) (s : State P) → EndsBelow n (trace_from m given cycles s).end
    from_below zero s = next_below (next_time s) _ (λ now. tt)
    from_below (suc c) s = next_below (next_time s) _ (λ now. moment_below (cycle m given s now) (trace_from m given c) (from_below c))

    two_or_below : (o : Option ℕ) (t : Trace) → FoundBelow n o → EndsBelow n t.end → EndsBelow n (unless_two o t).end
    two_or_below None t h below = below
    two_or_below (Some i) t h below = h

    pub trace_below : length m.shape.signals ≡ n → (cycles : ℕ) → EndsBelow n (trace m given cycles).end
    trace_below e cycles =
        two_or_below (with_two 0 m.shape.signals) _ (two_below 0 n m.shape.signals (omega arith))
        (moment_below (initialised m given) (trace_from m given cycles) (from_below cycles))
