-- How an elaboration ends before a run: with too many signals or processes, or with two sources of an unresolved signal.
use Rattle.std.specs.Prelude.{◌≡◌, ℕ, [], nat_lt, length, if◌then◌else◌, Option, Some, None, option_and_then}
use Rattle.vd_bytes.specs.declared.answers.Limit.{Limit}
use Rattle.vd_bytes.specs.declared.answers.Limit.TheVariants.{Signals, Processes}
use Rattle.vd_values.specs.declared.scalar.StopKind.TheVariants as kinds
use Rattle.vd_trees.specs.declared.paths.Scope.{Scope}
use Rattle.vd_trees.specs.declared.traces.Stop.{Stop}
use Rattle.vd_trees.specs.declared.traces.RunEnd.{RunEnd}
use Rattle.vd_trees.specs.declared.traces.RunEnd.TheVariants as ends
use Rattle.vd_trees.specs.Traces.{End, done, quiet, halted, not_elaborated}
use Rattle.vd_kernel.specs.Traces.{TwoSources, with_two}
use Rattle.vd_first_elaboration.specs.Elaboration.{Elaborated}
use Rattle.vd_first_elaboration.specs.Traces.{end_of}

-- the limit that so many scalar signals and processes pass
abbrev pub limit_by : (signals processes : ℕ) → Option Limit
limit_by signals processes =
    if nat_lt 1000000 signals then Some Signals else (if nat_lt 100000 processes then Some Processes else None)

-- the limit that a design passes
abbrev pub limit_of : Elaborated → Option Limit
limit_of e = limit_by (length e.signals) (length e.model.processes)

-- the stop of an elaboration by two sources of a signal that is declared here
abbrev pub two_sources_in : Scope → Stop
two_sources_in scope = record { kind = kinds.TwoSources; time = 0; delta = 0; scope = scope; text = [] }

-- the stop of an elaboration that ends so
abbrev pub stop_by : End → Option Stop
stop_by done = None
stop_by quiet = None
stop_by halted = None
stop_by (not_elaborated stop) = Some stop

-- the stop of an elaboration, if it has one
abbrev pub stop_of : Elaborated → Option Stop
stop_of e = option_and_then (λ signal. stop_by (end_of e (TwoSources signal))) (with_two 0 e.model.shape.signals)

-- An elaboration ends so before its run. Limits come first.
abbrev pub EndsElaboration : Elaborated → RunEnd → Type 0
EndsElaboration e (ends.Stop stop) = (limit_of e ≡ None) × (stop_of e ≡ Some stop)
EndsElaboration e (ends.Limit limit) = limit_of e ≡ Some limit
EndsElaboration e ends.Memory = Unit {0}
