-- What a run of a file answers: the first that is due of what its text is refused for, a name that is no top, a limit, and the text
-- of its trace. The outside does nothing in it.
use Rattle.std.specs.Prelude.{◌≡◌, ◌<◌, ◌≤◌, ◌⊎◌, ℕ, Bool, true, false, List, length, Some, None, Result, Ok, Err}
use Rattle.vd_bytes.specs.declared.answers.Refused.{Refused}
use Rattle.vd_bytes.specs.declared.answers.Limit.{Limit}
use Rattle.vd_bytes.specs.declared.answers.Limit.TheVariants.{Output}
use Rattle.vd_forest.specs.Forest.{Forest}
use Rattle.vd_first_trees.specs.declared.form.Form.{Form}
use Rattle.vd_trees.specs.declared.revision.Revision.{Revision}
use Rattle.vd_trees.specs.Traces.{End, done, quiet, halted, not_elaborated}
use Rattle.vd_trees.specs.TraceText.{trace_text}
use Rattle.vd_first_lex.specs.declared.selected.Selected.{Selected}
use Rattle.vd_first_accept.specs.Acceptance.{refused as text_refused, beyond as text_beyond, IsAccepted, IsAcceptance}
use Rattle.vd_first_accept.specs.declared.acceptance.ConvertEnd.{ConvertEnd}
use Rattle.vd_first_accept.specs.declared.acceptance.ConvertEnd.TheVariants as ends
use Rattle.vd_kernel.specs.SignalValues.{nothing_given}
use Rattle.vd_first_elaboration.specs.Tops.{Top}
use Rattle.vd_first_elaboration.specs.Elaboration.{Elaborated, elaboration}
use Rattle.vd_first_elaboration.specs.Traces.{paths_of, types_of, trace_of}
use Rattle.vd_first_runs.specs.TopNames.{top_named}
use Rattle.vd_first_runs.specs.Elaborations.{limit_of}
use Rattle.vd_first_tracing.specs.declared.printing.Traced.{Traced}

-- ---- the text

-- how many bytes of it are printed at most
abbrev pub output_limit : ℕ
output_limit = 67108864

-- the text of a design's trace after so many cycles
abbrev pub run_text : Elaborated → ℕ → List ℕ
run_text e cycles = trace_text (paths_of e) (types_of e) (trace_of e nothing_given cycles)

-- whether a trace ends in a stop
abbrev pub ends_in_stop : End → Bool
ends_in_stop done = false
ends_in_stop quiet = false
ends_in_stop halted = true
ends_in_stop (not_elaborated stop) = true

-- whether the run stops within so many cycles
abbrev pub run_stops : Elaborated → ℕ → Bool
run_stops e cycles = ends_in_stop (trace_of e nothing_given cycles).end

-- ---- the answer

pub data Tracing : Type 0 where
  refused : (x : Refused) → Tracing
  beyond : (limit : Limit) → Tracing
  traced : (text : List ℕ) → (stopped : Bool) → Tracing

-- nothing in the text is refused, and the name is that of a top, which is elaborated to this
pub record HasDesign (r : Revision) (s : Selected) (name : List ℕ) (e : Elaborated) : Type 0 where
  pub units : Forest Form
  pub accepted : IsAccepted r s units
  pub top : Top
  pub is_top : top_named units name ≡ Some top
  pub is_design : elaboration units top ≡ Some e

-- nothing in the text is refused, but the name is none of a top. The place is behind all files, the first line and column there
pub record LacksTop (r : Revision) (s : Selected) (name : List ℕ) (x : Refused) : Type 0 where
  pub rule : x.rule ≡ 311
  pub place : x.place ≡ record { file = 1; line = 1; column = 1 }
  pub units : Forest Form
  pub accepted : IsAccepted r s units
  pub no_top : top_named units name ≡ None

-- the elaboration passes a limit
pub record ElaboratesBeyond (r : Revision) (s : Selected) (name : List ℕ) (limit : Limit) : Type 0 where
  pub design : Elaborated
  pub has_design : HasDesign r s name design
  pub passes : limit_of design ≡ Some limit

-- the text is longer than is printed
pub record PrintsBeyond (r : Revision) (s : Selected) (name : List ℕ) (cycles : ℕ) : Type 0 where
  pub design : Elaborated
  pub has_design : HasDesign r s name design
  pub within : limit_of design ≡ None
  pub long : output_limit < length (run_text design cycles)

pub record IsTraced (r : Revision) (s : Selected) (name : List ℕ) (cycles : ℕ) (text : List ℕ) (stopped : Bool) : Type 0 where
  pub design : Elaborated
  pub has_design : HasDesign r s name design
  pub within : limit_of design ≡ None
  pub fits : length text ≤ output_limit
  pub text_is : text ≡ run_text design cycles
  pub stopped_is : stopped ≡ run_stops design cycles

abbrev pub RunPassesLimit : Revision → Selected → List ℕ → ℕ → Limit → Type 0
RunPassesLimit r s name cycles Output = PrintsBeyond r s name cycles
RunPassesLimit r s name cycles limit = IsAcceptance r s (text_beyond limit) ⊎ ElaboratesBeyond r s name limit

abbrev pub IsTracing : Revision → Selected → List ℕ → ℕ → Tracing → Type 0
IsTracing r s name cycles (refused x) = IsAcceptance r s (text_refused x) ⊎ LacksTop r s name x
IsTracing r s name cycles (beyond limit) = RunPassesLimit r s name cycles limit
IsTracing r s name cycles (traced text stopped) = IsTraced r s name cycles text stopped

-- what a call for a run gave is that answer, unless memory ran out
abbrev pub Traces : Revision → Selected → List ℕ → ℕ → Result Traced ConvertEnd → Type 0
Traces r s name cycles (Ok t) = IsTracing r s name cycles (traced t.text t.stopped)
Traces r s name cycles (Err (ends.Refused x)) = IsTracing r s name cycles (refused x)
Traces r s name cycles (Err (ends.Limit limit)) = IsTracing r s name cycles (beyond limit)
Traces r s name cycles (Err ends.Memory) = Unit {0}

-- two answers for a file, a name and a number of cycles are equal
abbrev pub HasOneTracing : Type 0
HasOneTracing = (r : Revision) (s : Selected) (name : List ℕ) (cycles : ℕ) (a b : Tracing) → IsTracing r s name cycles a → IsTracing r s name cycles b → a ≡ b
