-- What a run of a file answers, from what its steps answer.
use Rattle.std.proofs.Common.{◌≡◌, ℕ, true, List, [], get_or, Option, Some, None, Result, Ok, Err, IfOk, refl, sym, ap, ◌∙◌, inl, inr}
use Rattle.std.specs.Prelude.{is_some, option_and_then, slice_get, map, if◌then◌else◌}
use Rattle.vd_bytes.specs.declared.answers.Limit.{Limit}
use Rattle.vd_bytes.specs.declared.answers.Limit.TheVariants as limits
use Rattle.vd_forest.specs.Forest.{Forest}
use Rattle.vd_first_trees.specs.declared.form.Form.{Form}
use Rattle.vd_trees.specs.declared.revision.Revision.{Revision}
use Rattle.vd_trees.specs.declared.revision.Revision.TheVariants.{V2019, V1993}
use Rattle.vd_trees.specs.declared.traces.Stop.{Stop}
use Rattle.vd_trees.specs.TraceText.{stop_line, trace_text}
use Rattle.vd_first_lex.specs.declared.selected.Selected.{Selected}
use Rattle.vd_first_accept.specs.Acceptance.{IsAccepted, IsUnaccepted, IsOnly}
use Rattle.vd_first_accept.specs.declared.acceptance.ConvertEnd.{ConvertEnd}
use Rattle.vd_first_accept.specs.declared.acceptance.ConvertEnd.TheVariants as ends
use Rattle.vd_values.specs.declared.scalar.StopKind.TheVariants as kinds
use Rattle.vd_kernel.specs.Cycles.{initialised}
use Rattle.vd_kernel.specs.Traces.{Trace as KernelTrace, with_two, unless_two, TwoSources, trace, trace_from, moment_on}
use Rattle.vd_kernel.specs.SignalValues.{nothing_given}
use Rattle.vd_first_elaboration.specs.Tops.{Top}
use Rattle.vd_first_elaboration.specs.Elaboration.{Elaborated, elaboration}
use Rattle.vd_first_elaboration.specs.Traces.{paths_of, types_of, step_of, end_of, declared_in}
use Rattle.vd_first_runs.specs.TopNames.{top_named, top_told, if_elaborated}
use Rattle.vd_trees.specs.Identifiers.{lowered}
use Rattle.vd_first_runs.specs.Elaborations.{stop_of, stop_by}
use Rattle.vd_first_tracing.specs.declared.printing.Traced.{Traced}
use Rattle.vd_first_tracing.specs.Tracings.{ends_in_stop, HasDesign, Traces}
use Rattle.vd_first_tracing.specs.Printing.{HasPrintedAll, RunsDesign, NamesTop}

-- ---- the elaboration that stops

-- the stop by two sources of this signal
abbrev two_stop : Elaborated → ℕ → Stop
two_stop e i = record { kind = kinds.TwoSources; time = 0; delta = 0; scope = declared_in (slice_get e.signals i); text = [] }

-- the text of a trace of the kernel
abbrev text_of : Elaborated → KernelTrace → List ℕ
text_of e t = trace_text (paths_of e) (types_of e) (record { steps = map (step_of e) t.steps; end = end_of e t.end })

stopped_by : (e : Elaborated) (stop : Stop) (o : Option ℕ) → with_two 0 e.model.shape.signals ≡ o → option_and_then (λ signal. stop_by (end_of e (TwoSources signal))) o ≡ Some stop
    → (cycles : ℕ) → (text : List ℕ) → text ≡ stop_line stop → HasPrintedAll e cycles text true
stopped_by e stop None is told cycles text is-text = absurd cc
stopped_by e stop (Some i) is told cycles text is-text =
    let all : trace e.model nothing_given cycles ≡ record { steps = []; end = TwoSources i } =
    ap (λ o. unless_two o (moment_on (initialised e.model nothing_given) (trace_from e.model nothing_given cycles))) is in
    let same : two_stop e i ≡ stop = cc in
    record {
      text_is = is-text ∙ ap stop_line (sym same) ∙ ap (λ (t : KernelTrace). text_of e t) (sym all);
      stopped_is = ap (λ (t : KernelTrace). ends_in_stop (end_of e t.end)) (sym all);
    }

pub stopped_text : (e : Elaborated) (stop : Stop) → stop_of e ≡ Some stop → (cycles : ℕ) (text : List ℕ) → text ≡ stop_line stop → HasPrintedAll e cycles text true
stopped_text e stop told cycles text is-text = stopped_by e stop (with_two 0 e.model.shape.signals) refl told cycles text is-text

-- ---- tops

elaborated_by : (units : Forest Form) (t top : Top) (o : Option Elaborated) → elaboration units t ≡ o → (if is_some o then Some t else None) ≡ Some top → (e : Elaborated) × (elaboration units top ≡ Some e)
elaborated_by units t top None is found = absurd cc
elaborated_by units t top (Some e) is found = let same : t ≡ top = cc in (e, ap (elaboration units) (sym same) ∙ is)

told_elaborated : (units : Forest Form) (top : Top) (o : Option Top) → option_and_then (if_elaborated units) o ≡ Some top → (e : Elaborated) × (elaboration units top ≡ Some e)
told_elaborated units top None found = absurd cc
told_elaborated units top (Some t) found = elaborated_by units t top (elaboration units t) refl found

-- a top that is found is elaborated
pub top_elaborated : (units : Forest Form) (name : List ℕ) (top : Top) → top_named units name ≡ Some top → (e : Elaborated) × (elaboration units top ≡ Some e)
top_elaborated units name top found = told_elaborated units top (top_told (lowered name)) found

-- ---- answers

module _ (r : Revision) (s : Selected) (name : List ℕ) (cycles : ℕ) where
  limit_traces : (e : Elaborated) → HasDesign r s name e → (limit : Limit) → RunsDesign e cycles (Err (ends.Limit limit)) → Traces r s name cycles (Err (ends.Limit limit))
  limit_traces e d limits.Output x = record { design = e; has_design = d; within = x.0; long = x.1 }
  limit_traces e d limits.Files x = inr (record { design = e; has_design = d; passes = x })
  limit_traces e d limits.Input x = inr (record { design = e; has_design = d; passes = x })
  limit_traces e d limits.Tokens x = inr (record { design = e; has_design = d; passes = x })
  limit_traces e d limits.Nesting x = inr (record { design = e; has_design = d; passes = x })
  limit_traces e d limits.Units x = inr (record { design = e; has_design = d; passes = x })
  limit_traces e d limits.Nodes x = inr (record { design = e; has_design = d; passes = x })
  limit_traces e d limits.Nesting93 x = inr (record { design = e; has_design = d; passes = x })
  limit_traces e d limits.Signals x = inr (record { design = e; has_design = d; passes = x })
  limit_traces e d limits.Processes x = inr (record { design = e; has_design = d; passes = x })
  limit_traces e d limits.Depth x = inr (record { design = e; has_design = d; passes = x })

  pub design_traces : (e : Elaborated) → HasDesign r s name e → (a : Result Traced ConvertEnd) → RunsDesign e cycles a → Traces r s name cycles a
  design_traces e d (Ok t) x =
      record { design = e; has_design = d; within = x.0; fits = x.1; text_is = x.2.text_is; stopped_is = x.2.stopped_is }
  design_traces e d (Err (ends.Refused y)) x = absurd x
  design_traces e d (Err (ends.Limit limit)) x = limit_traces e d limit x
  design_traces e d (Err ends.Memory) x = tt

unaccepted_limit : (r : Revision) (s : Selected) (name : List ℕ) (cycles : ℕ) (limit : Limit) → IsUnaccepted r s (ends.Limit limit) → Traces r s name cycles (Err (ends.Limit limit))
unaccepted_limit V2019 s name cycles limits.Output x = absurd x
unaccepted_limit V1993 s name cycles limits.Output x = absurd x
unaccepted_limit r s name cycles limits.Files x = inl x
unaccepted_limit r s name cycles limits.Input x = inl x
unaccepted_limit r s name cycles limits.Tokens x = inl x
unaccepted_limit r s name cycles limits.Nesting x = inl x
unaccepted_limit r s name cycles limits.Units x = inl x
unaccepted_limit r s name cycles limits.Nodes x = inl x
unaccepted_limit r s name cycles limits.Nesting93 x = inl x
unaccepted_limit r s name cycles limits.Signals x = inl x
unaccepted_limit r s name cycles limits.Processes x = inl x
unaccepted_limit r s name cycles limits.Depth x = inl x

-- what isn't accepted is answered so
pub unaccepted_traces : (r : Revision) (s : Selected) (name : List ℕ) (cycles : ℕ) (end : ConvertEnd) → IsUnaccepted r s end → Traces r s name cycles (Err end)
unaccepted_traces r s name cycles (ends.Refused x) u = inl u
unaccepted_traces r s name cycles (ends.Limit limit) u = unaccepted_limit r s name cycles limit u
unaccepted_traces r s name cycles ends.Memory u = tt

-- ---- files and tops of a call

-- the first file of a call is its only one
pub only_file : (files : List Selected) (file first : Selected) → first ≡ get_or files 0 first → IsOnly files file → first ≡ file
only_file files file first is only = is ∙ ap (λ fs. get_or fs 0 first) only

-- what was looked for and found
pub found_top : {E : Type 0} (units : Forest Form) (name : List ℕ) (found : Result (Option Top) E) (top : Top)
    → IfOk found (λ o. o ≡ top_named units name) → NamesTop found (Ok top) → top_named units name ≡ Some top
found_top units name (Ok o) top is n = let same : o ≡ Some top = cc in sym is ∙ same
found_top units name (Err x) top is n = absurd cc

-- and so is a name that is no top
pub no_top_traces : {E : Type 0} (r : Revision) (s : Selected) (name : List ℕ) (cycles : ℕ) (units : Forest Form) → IsAccepted r s units
    → (found : Result (Option Top) E) → IfOk found (λ o. o ≡ top_named units name) → (end : ConvertEnd) → NamesTop found (Err end) → Traces r s name cycles (Err end)
no_top_traces r s name cycles units accepted (Ok o) is (ends.Refused x) n =
    let none : o ≡ None = let same = n.0 in cc in
    inr (record { rule = ap (λ y. y.rule) n.1; place = ap (λ y. y.place) n.1; units = units; accepted = accepted; no_top = sym is ∙ none })
no_top_traces r s name cycles units accepted (Err e) is (ends.Refused x) n = let wrong = n.0 in absurd cc
no_top_traces r s name cycles units accepted found is (ends.Limit limit) n = absurd n
no_top_traces r s name cycles units accepted found is ends.Memory n = tt
