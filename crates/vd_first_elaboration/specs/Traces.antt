-- The trace of an elaborated design under a stimulus: what its scalar signals show, step by step, and how it ends. (IEEE 1076,
-- execution of a model.)
use Rattle.std.specs.Prelude.{ℕ, suc, List, [], ◌∷◌, map, codes, slice_get, Option, Some, None}
use Rattle.vd_values.specs.declared.scalar.Scalar.{Scalar}
use Rattle.vd_values.specs.declared.scalar.StopKind.{StopKind}
use Rattle.vd_values.specs.declared.scalar.StopKind.TheVariants as kinds
use Rattle.vd_trees.specs.declared.paths.Path.{Path}
use Rattle.vd_trees.specs.declared.paths.Scope.{Scope}
use Rattle.vd_trees.specs.declared.traces.Report.{Report}
use Rattle.vd_trees.specs.Traces.{Outcome, shows, stops, Step, End, done, quiet, halted, not_elaborated, Trace}
use Rattle.vd_trees.specs.ValueTexts.{ScalarType, enumeration}
use Rattle.vd_kernel.specs.Models.{Stimulus}
use Rattle.vd_kernel.specs.Traces.{Shows, Stopped, Done, Quiet, Halted, TwoSources, trace}
use Rattle.vd_kernel.specs.Traces as kernel
use Rattle.vd_first_elaboration.specs.Signals.{ScalarSignal}
use Rattle.vd_first_elaboration.specs.Elaboration.{Elaborated}

-- ---- stops

abbrev pub no_scope : Scope
no_scope = record { levels = []; generates = []; unit = [] }

abbrev pub scope_or_none : Option Scope → Scope
scope_or_none None = no_scope
scope_or_none (Some scope) = scope

-- where the object of a signal is declared
abbrev pub declared_in : Option ScalarSignal → Scope
declared_in None = no_scope
declared_in (Some s) = record { levels = s.path.levels; generates = s.path.generates; unit = [] }

abbrev pub last_text : List ℕ → List Report → List ℕ
last_text text [] = text
last_text text (r ∷ rs) = last_text r.text rs

-- of a failure what it reported, which is the last report of its step
abbrev pub stop_text : StopKind → List Report → List ℕ
stop_text kinds.Failure reports = last_text [] reports
stop_text _ reports = []

-- ---- steps

-- the values of some signals, the first of which has this number
abbrev pub values_from : (ℕ → Scalar) → ℕ → List ScalarSignal → List Scalar
values_from values number [] = []
values_from values number (s ∷ ss) = values number ∷ values_from values (suc number) ss

abbrev pub outcome_of : Elaborated → kernel.Step → kernel.Outcome → Outcome
outcome_of e s (Shows values) = shows (values_from values 0 e.signals)
outcome_of e s (Stopped stop) =
    stops (record {
      kind = stop.kind;
      time = s.time;
      delta = s.delta;
      scope = scope_or_none (slice_get e.scopes stop.process);
      text = stop_text stop.kind s.reports;
    })

abbrev pub step_of : Elaborated → kernel.Step → Step
step_of e s = record { time = s.time; delta = s.delta; reports = s.reports; outcome = outcome_of e s s.outcome }

-- two sources of an unresolved signal stop the elaboration
abbrev pub end_of : Elaborated → kernel.End → End
end_of e Done = done
end_of e Quiet = quiet
end_of e Halted = halted
end_of e (TwoSources signal) =
    not_elaborated (record { kind = kinds.TwoSources; time = 0; delta = 0; scope = declared_in (slice_get e.signals signal); text = [] })

-- the trace after so many cycles, delta cycles counted
abbrev pub trace_of : Elaborated → Stimulus → ℕ → Trace
trace_of e given cycles =
    let t = trace e.model given cycles in
    record { steps = map (step_of e) t.steps; end = end_of e t.end }

-- ---- what its text needs

abbrev pub paths_of : Elaborated → List Path
paths_of e = map (λ (s : ScalarSignal). s.path) e.signals

-- in the first language each signal is of std_ulogic
abbrev pub std_ulogic : ScalarType
std_ulogic =
    enumeration (codes "'U'" ∷ codes "'X'" ∷ codes "'0'" ∷ codes "'1'" ∷ codes "'Z'" ∷ codes "'W'" ∷ codes "'L'" ∷ codes "'H'" ∷ codes "'-'" ∷ [])

abbrev pub types_of : Elaborated → List ScalarType
types_of e = map (λ (s : ScalarSignal). std_ulogic) e.signals
