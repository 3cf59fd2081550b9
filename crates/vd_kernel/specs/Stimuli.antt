-- Of what the outside does, only that at ports which it may drive matters.
use Rattle.std.specs.Prelude.{◌≡◌, ℕ, IsSome}
use Rattle.std.specs.List.{AllByRecursion}
use Rattle.vd_kernel.specs.Models.{Shape, Model, Stimulus, signal_at}
use Rattle.vd_kernel.specs.Correspondence.{SameTrace}
use Rattle.vd_kernel.specs.Traces.{trace}

-- the outside may drive the signal
abbrev pub IsInput : Shape → ℕ → Type 0
IsInput m i = IsSome (signal_at m i).input

-- Each port in the lists of inputs is one that the outside may drive, and joined signals have the same driver for it, or none.
pub record SameInputs (joined : ℕ → ℕ → Type 0) (m n : Shape) : Type 0 where
  pub first : AllByRecursion (IsInput m) m.inputs
  pub second : AllByRecursion (IsInput n) n.inputs
  pub driver : (i j : ℕ) → joined i j → (signal_at m i).input ≡ (signal_at n j).input

-- the outside does the same at joined ports that it may drive
abbrev pub SameAtInputs : (ℕ → ℕ → Type 0) → Shape → Stimulus → Stimulus → Type 0
SameAtInputs joined m given other = (i j : ℕ) → joined i j → IsInput m i → given i ≡ other j

-- whatever the outside does elsewhere, the traces are the same
pub record SameRunAtInputs {P Q : Type 0} (joined : ℕ → ℕ → Type 0) (m : Model P) (n : Model Q) : Type 0 where
  pub traces : (given other : Stimulus) → SameAtInputs joined m.shape given other → (cycles : ℕ) → SameTrace joined (trace m given cycles) (trace n other cycles)
