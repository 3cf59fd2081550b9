-- A design whose signals have other numbers.
use Rattle.std.specs.Prelude.{◌≡◌, ℕ, ◌<◌, true, map, length}
use Rattle.std.specs.Option.{option_map}
use Rattle.vd_kernel.specs.declared.assignments.Source.{Source}
use Rattle.vd_kernel.specs.declared.assignments.Source.TheVariants.{Driver as ByDriver, Port as ByPort}
use Rattle.vd_kernel.specs.Models.{Signal, View, Ending, Waits, Stops, Turn, Shape, Model, signal_at}
use Rattle.vd_kernel.specs.Traces.{has_two}
use Rattle.vd_kernel.specs.Correspondence.{SameShape}

-- In all of this, f gives a signal's new number.

abbrev pub renumbered_source : (ℕ → ℕ) → Source → Source
renumbered_source f (ByDriver d) = ByDriver d
renumbered_source f (ByPort i) = ByPort (f i)

abbrev pub renumbered_signal : (ℕ → ℕ) → Signal → Signal
renumbered_signal f s = record s { sources = map (renumbered_source f) s.sources; actual = option_map f s.actual }

-- The signals of n are those of m with new numbers, each of them, and the drivers are the same. Of the unresolved signals with two
-- sources, which are errors, an earlier one stays earlier.
pub record IsRenumbered (f : ℕ → ℕ) (m n : Shape) : Type 0 where
  pub number : length m.signals ≡ length n.signals
  pub signals : (i : ℕ) → signal_at n (f i) ≡ renumbered_signal f (signal_at m i)
  pub onto : (j : ℕ) → j < length n.signals → (i : ℕ) × (f i ≡ j)
  pub errors : (i j : ℕ) → i < j → has_two (signal_at m i) ≡ true → has_two (signal_at m j) ≡ true → f i < f j
  pub driven : n.driven ≡ map f m.driven
  pub inputs : n.inputs ≡ map f m.inputs

abbrev pub RenumberedHasSameShape : Type 0
RenumberedHasSameShape = (f : ℕ → ℕ) (m n : Shape) → IsRenumbered f m n → SameShape (λ i j. f i ≡ j) m n

-- what is seen of the signals by their new numbers, by their old ones
abbrev pub seen_through : (ℕ → ℕ) → View → View
seen_through f w =
    record { time = w.time; value = λ i. w.value (f i); shown = λ i. w.shown (f i); before = λ i. w.before (f i) }

abbrev pub renumbered_ending : {P : Type 0} → (ℕ → ℕ) → Ending P → Ending P
renumbered_ending f (Waits p) = Waits (record p { on = map f p.on })
renumbered_ending f (Stops kind) = Stops kind

-- a process waits for the signals by their new numbers; its assignments name drivers
abbrev pub renumbered_turn : {P : Type 0} → (ℕ → ℕ) → Turn P → Turn P
renumbered_turn f t = record t { ending = renumbered_ending f t.ending }

-- the design with these signals, and the processes as they are
abbrev pub renumbered : {P : Type 0} → (ℕ → ℕ) → Model P → Shape → Model P
renumbered f m n =
    record { shape = n; processes = m.processes; step = λ p c w. renumbered_turn f (m.step p c (seen_through f w)) }
