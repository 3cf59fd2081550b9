-- An elaborated design, whatever language it was written in: its scalar signals, its drivers, and what its processes do
-- (IEEE 1076-1993, 12.3 to 12.6; IEEE 1076-2019, 14.4 to 14.7). Signals, drivers and processes are named by their numbers, from 0.
use Rattle.std.specs.Prelude.{ℕ, Bool, List, [], false, Option, None, slice_index_or}
use Rattle.vd_values.specs.declared.scalar.Scalar.{Scalar}
use Rattle.vd_values.specs.declared.scalar.Scalar.TheVariants.{Literal}
use Rattle.vd_values.specs.declared.scalar.StopKind.{StopKind}
use Rattle.vd_trees.specs.declared.traces.Report.{Report}
use Rattle.vd_kernel.specs.declared.assignments.Transaction.{Transaction}
use Rattle.vd_kernel.specs.declared.assignments.Assignment.{Assignment}
use Rattle.vd_kernel.specs.declared.assignments.Source.{Source}

-- A scalar signal, or a scalar element of one (IEEE 1076-1993, 4.3.1.2 and 12.6.2).
pub record Signal : Type 0 where
  -- the value that it begins with, and that it has for good where nothing drives it
  pub initial : Scalar
  -- whether its subtype is resolved
  pub is_resolved : Bool
  -- what gives it a value, in order
  pub sources : List Source
  -- of an associated port of mode `in` or `inout`, the signal that it is associated with
  pub actual : Option ℕ
  -- whether it is a port of mode `out`, of which a trace shows what drives it
  pub is_out : Bool
  -- of a port that the outside may drive, the driver that stands for the outside
  pub input : Option ℕ

-- What a process sees in one simulation cycle.
pub record View : Type 0 where
  -- the time of the cycle, in femtoseconds
  pub time : ℕ
  -- the effective value of each signal
  pub value : ℕ → Scalar
  -- what each signal shows: of an `out` port its driving value
  pub shown : ℕ → Scalar
  -- the effective value before this cycle, of those signals alone that have an event in it
  pub before : ℕ → Option Scalar

-- Why a process runs: initialisation; or else whether a signal that it waits for has an event, and whether its timeout is due.
pub data Cause : Type 0 where
  Start : Cause
  Wake : (event due : Bool) → Cause

-- A process that has suspended: what it goes on with, the signals whose events it waits for, and the time at which its timeout
-- is due (IEEE 1076-1993, 8.1).
pub record Paused (P : Type 0) : Type 0 where
  pub state : P
  pub on : List ℕ
  pub timeout : Option ℕ

-- How a process leaves a run of its statements: it suspends, or something stops the simulation.
pub data Ending (P : Type 0) : Type 0 where
  Waits : (paused : Paused P) → Ending P
  Stops : (kind : StopKind) → Ending P

-- All that a process does between its resumption and its next suspension: assignments and reports in their order, and its end.
pub record Turn (P : Type 0) : Type 0 where
  pub assignments : List Assignment
  pub reports : List Report
  pub ending : Ending P

-- The signals and drivers of a design. First come the drivers of the processes, in order, each with the signal that it drives, and
-- behind them one for each port that the outside may drive.
pub record Shape : Type 0 where
  pub signals : List Signal
  pub driven : List ℕ
  pub inputs : List ℕ

-- An elaborated design. Each process is given by its state before its first run, and step runs one until it suspends again.
pub record Model (P : Type 0) : Type 0 where
  pub shape : Shape
  pub processes : List P
  pub step : P → Cause → View → Turn P

-- what stands where there is no signal
abbrev pub no_signal : Signal
no_signal = record { initial = Literal 0; is_resolved = false; sources = []; actual = None; is_out = false; input = None }

-- the signal of a number
abbrev pub signal_at : Shape → ℕ → Signal
signal_at m i = slice_index_or m.signals i no_signal

-- What the outside does: for each signal the transactions of its outside driver. It matters only at ports that have one.
abbrev pub Stimulus : Type 0
Stimulus = ℕ → List Transaction
