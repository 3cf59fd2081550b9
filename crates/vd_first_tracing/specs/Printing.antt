-- The text of a trace from a state on, and what printing it gives.
use Rattle.std.specs.Prelude.{◌≡◌, ◌<◌, ◌≤◌, ℕ, zero, suc, Bool, List, [], ◌∷◌, ◌++◌, map, length, Option, Some, None, Result, Ok, Err}
use Rattle.vd_bytes.specs.declared.answers.Limit.{Limit}
use Rattle.vd_bytes.specs.declared.answers.Limit.TheVariants.{Output}
use Rattle.vd_values.specs.declared.scalar.Scalar.{Scalar}
use Rattle.vd_trees.specs.Traces.{End, done, quiet}
use Rattle.vd_trees.specs.TraceText.{steps_text, end_text}
use Rattle.vd_kernel.specs.Cycles.{State}
use Rattle.vd_kernel.specs.Traces.{Trace as KernelTrace, trace_from}
use Rattle.vd_kernel.specs.SignalValues.{nothing_given}
use Rattle.vd_first_elaboration.specs.Tops.{Top}
use Rattle.vd_first_elaboration.specs.Processes.{Process}
use Rattle.vd_first_elaboration.specs.Elaboration.{Elaborated}
use Rattle.vd_first_elaboration.specs.Traces.{paths_of, types_of, step_of, end_of}
use Rattle.vd_first_runs.specs.Elaborations.{limit_of}
use Rattle.vd_first_runs.specs.Runs.{Running, IsAt}
use Rattle.vd_first_accept.specs.declared.acceptance.ConvertEnd.{ConvertEnd}
use Rattle.vd_first_accept.specs.declared.acceptance.ConvertEnd.TheVariants as ends
use Rattle.vd_first_tracing.specs.declared.printing.Traced.{Traced}
use Rattle.vd_first_tracing.specs.declared.printing.Transcript.{Transcript}
use Rattle.vd_first_tracing.specs.Tracings.{output_limit, run_text, run_stops, ends_in_stop}

-- the values of so many signals, the first of which has this number
abbrev pub values_of : (ℕ → Scalar) → ℕ → ℕ → List Scalar
values_of shown number zero = []
values_of shown number (suc n) = shown number ∷ values_of shown (suc number) n

-- what goes on, from these values of the signals on, with the step of this number
abbrev pub text_from : Elaborated → ℕ → List Scalar → KernelTrace → List ℕ
text_from e number earlier t =
    steps_text (paths_of e) (types_of e) number earlier (map (step_of e) t.steps) ++ end_text (end_of e t.end)

-- how a trace ends behind its last step, where this comes next
abbrev pub end_before : Option ℕ → End
end_before None = quiet
end_before (Some now) = done

-- Of a run that goes on the text is this so far, with so many cycles to come: it is in a state from which the rest of the trace's text
-- makes up the whole.
pub record HasPrinted (e : Elaborated) (cycles : ℕ) (run : Running) (text : List ℕ) (number left : ℕ) (earlier : List Scalar) : Type 0 where
  pub state : State Process
  pub is_at : IsAt e run state
  pub rest : text ++ text_from e number earlier (trace_from e.model nothing_given left state) ≡ run_text e cycles
  pub stops : ends_in_stop (end_of e (trace_from e.model nothing_given left state).end) ≡ run_stops e cycles

-- the text is that of the whole trace
pub record HasPrintedAll (e : Elaborated) (cycles : ℕ) (text : List ℕ) (stopped : Bool) : Type 0 where
  pub text_is : text ≡ run_text e cycles
  pub stopped_is : stopped ≡ run_stops e cycles

-- where printing stands behind a cycle: it goes on, or the trace has come to its end
abbrev pub HasCycled : Elaborated → ℕ → Option Bool → Running → Transcript → (number left : ℕ) → Type 0
HasCycled e cycles None run t number left = HasPrinted e cycles run t.text.items number left t.values.items
HasCycled e cycles (Some stopped) run t number left = HasPrintedAll e cycles t.text.items stopped

-- What a run of a design gives: the text of its trace, or a limit that its elaboration passes, or that the text is longer than is
-- printed, unless memory ran out.
abbrev pub RunPasses : Elaborated → ℕ → Limit → Type 0
RunPasses e cycles Output = (limit_of e ≡ None) × (output_limit < length (run_text e cycles))
RunPasses e cycles limit = limit_of e ≡ Some limit

abbrev pub RunsDesign : Elaborated → ℕ → Result Traced ConvertEnd → Type 0
RunsDesign e cycles (Ok t) = (limit_of e ≡ None) × (length t.text ≤ output_limit) × HasPrintedAll e cycles t.text t.stopped
RunsDesign e cycles (Err (ends.Refused x)) = ⊥
RunsDesign e cycles (Err (ends.Limit limit)) = RunPasses e cycles limit
RunsDesign e cycles (Err ends.Memory) = Unit {0}

-- the text of a trace, if it isn't longer than is printed
abbrev pub Finishes : List ℕ → Bool → Result Traced ConvertEnd → Type 0
Finishes text stopped (Ok t) = (length text ≤ output_limit) × (t.text ≡ text) × (t.stopped ≡ stopped)
Finishes text stopped (Err (ends.Refused x)) = ⊥
Finishes text stopped (Err (ends.Limit limit)) = (limit ≡ Output) × (output_limit < length text)
Finishes text stopped (Err ends.Memory) = ⊥

-- the top that was looked for, or rule 311 at the place behind the one file
abbrev pub NamesTop : {E : Type 0} → Result (Option Top) E → Result Top ConvertEnd → Type 0
NamesTop found (Ok top) = found ≡ Ok (Some top)
NamesTop found (Err (ends.Refused x)) = (found ≡ Ok None) × (x ≡ record { place = record { file = 1; line = 1; column = 1 }; rule = 311 })
NamesTop found (Err (ends.Limit limit)) = ⊥
NamesTop found (Err ends.Memory) = Unit {0}
