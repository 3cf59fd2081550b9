-- A run of what is written for a file answers what a run of the file answers.
use Rattle.std.proofs.Common.{◌≡◌, ◌<◌, ℕ, List, length, map, Option, Some, None, refl, sym, ap, ◌∙◌, subst, inl, inr}
use Rattle.std.specs.Prelude.{◌⊎◌, is_some, option_and_then, if◌then◌else◌}
use Rattle.vd_bytes.specs.declared.answers.Limit.{Limit}
use Rattle.vd_bytes.specs.declared.answers.Limit.TheVariants as limits
use Rattle.vd_forest.specs.Forest.{Forest}
use Rattle.vd_first_trees.specs.declared.form.Form.{Form}
use Rattle.vd_trees.specs.declared.revision.Revision.{Revision}
use Rattle.vd_trees.specs.declared.revision.Revision.TheVariants.{V2019, V1993}
use Rattle.vd_trees.specs.declared.rows.Row.{Row}
use Rattle.vd_trees.specs.Identifiers.{lowered}
use Rattle.vd_trees.specs.Traces.{Trace}
use Rattle.vd_trees.specs.TraceText.{trace_text}
use Rattle.vd_first_lex.specs.declared.selected.Selected.{Selected}
use Rattle.vd_first_lex.specs.Lexings.{plain_of}
use Rattle.vd_first_grammar.specs.Shapes.{file_shape}
use Rattle.vd_first_accept.specs.Acceptance as texts
use Rattle.vd_first_accept.specs.Acceptance.{Acceptance, IsAccepted, IsAcceptance}
use Rattle.vd_first_accept.proofs.OneAcceptance.{one_acceptance}
use Rattle.vd_kernel.specs.SignalValues.{nothing_given}
use Rattle.vd_first_elaboration.specs.Tops.{Top}
use Rattle.vd_first_elaboration.specs.Signals.{ScalarSignal}
use Rattle.vd_first_elaboration.specs.Elaboration.{Elaborated, elaboration}
use Rattle.vd_first_elaboration.specs.Traces.{std_ulogic, trace_of}
use Rattle.vd_first_correspondence.specs.SameTraces.{ShowSame, ShowSameFor, TreesShowSame}
use Rattle.vd_first_lower.specs.Conversions.{IsConverted}
use Rattle.vd_first_lower.specs.Headline.{IsText}
use Rattle.vd_first_lower.proofs.Faithful.{faithful}
use Rattle.vd_first_runs.specs.TopNames.{top_named, top_told, if_elaborated}
use Rattle.vd_first_runs.specs.Elaborations.{limit_of, limit_by}
use Rattle.vd_first_tracing.specs.Tracings.{output_limit, Tracing, refused, beyond, traced, HasDesign, ElaboratesBeyond, ends_in_stop, run_text, run_stops, IsTracing}
use Rattle.vd_command.specs.EqualRuns.{RunsAreEqual}

-- ---- designs that show the same

pub same_limit : (m n : Elaborated) → ShowSame m n → limit_of m ≡ limit_of n
same_limit m n same = ap (λ ss. limit_by (length ss) (length m.model.processes)) same.signals ∙ ap (limit_by (length n.signals)) same.processes

pub same_text : (m n : Elaborated) → ShowSame m n → (cycles : ℕ) → run_text m cycles ≡ run_text n cycles
same_text m n same cycles =
    ap (λ (ss : List ScalarSignal). trace_text (map (λ s. s.path) ss) (map (λ s. std_ulogic) ss) (trace_of m nothing_given cycles)) same.signals
    ∙ ap (trace_text (map (λ s. s.path) n.signals) (map (λ s. std_ulogic) n.signals)) (same.traces nothing_given cycles)

pub same_stops : (m n : Elaborated) → ShowSame m n → (cycles : ℕ) → run_stops m cycles ≡ run_stops n cycles
same_stops m n same cycles = ap (λ (t : Trace). ends_in_stop t.end) (same.traces nothing_given cycles)

-- ---- trees that show the same

some_same : (a b : Option Elaborated) → ShowSameFor a b → is_some a ≡ is_some b
some_same None None w = refl
some_same None (Some n) w = absurd w
some_same (Some m) None w = absurd w
some_same (Some m) (Some n) w = refl

shown_by : (a b : Option Elaborated) → ShowSameFor a b → (m : Elaborated) → a ≡ Some m → (n : Elaborated) × (b ≡ Some n) × ShowSame m n
shown_by None b w m is = absurd cc
shown_by (Some k) None w m is = absurd w
shown_by (Some k) (Some n) w m is = let same : k ≡ m = cc in (n, refl, subst (λ x. ShowSame x n) same w)

module _ (t u : Forest Form) (shown : TreesShowSame t u) where
  same_told : (o : Option Top) → option_and_then (if_elaborated t) o ≡ option_and_then (if_elaborated u) o
  same_told None = refl
  same_told (Some top) = ap (λ b. if b then Some top else None) (some_same (elaboration t top) (elaboration u top) (shown.for_each top))

  pub same_top : (name : List ℕ) → top_named t name ≡ top_named u name
  same_top name = same_told (top_told (lowered name))

-- ---- the text of what is accepted

is_text : (r : Revision) (s : Selected) (units : Forest Form) → (x : IsAccepted r s units) → IsText r s x.file
is_text r s units x =
    record {
      tokens = x.tokens;
      is_list = x.has_tokens.tokens;
      is_file = x.read.is_file;
      tokens_are = x.read.tokens;
      conditions = x.read.conditions;
      known = x.known;
    }

module _ (s : Selected) (design : List ℕ) (rows : List Row) (units : ℕ) (c : IsConverted s design rows units) (written : Forest Form) (w : IsAccepted V1993 (plain_of 0 design) written) (name : List ℕ) (cycles : ℕ) where
  abbrev source : Forest Form
  source = file_shape c.file

  abbrev text : Selected
  text = plain_of 0 design

  abbrev accepted : IsAccepted V2019 s source
  accepted = record { tokens = c.tokens; has_tokens = c.has_tokens; file = c.file; read = c.read; known = c.known; units_are = refl }

  shown : TreesShowSame source written
  shown =
      subst (λ u. TreesShowSame source u) (sym w.units_are)
      ((faithful s design rows units c).same_traces c.file w.file (is_text V2019 s source accepted) (is_text V1993 text written w))

  not_early : {A : Type 0} (a : Acceptance) → IsAcceptance V2019 s a → ((u : Forest Form) → a ≡ texts.accepted u → A) → A
  not_early a x other = other source (one_acceptance V2019 s a (texts.accepted source) x accepted)

  same_source : (u : Forest Form) → IsAccepted V2019 s u → u ≡ source
  same_source u x = let same = one_acceptance V2019 s (texts.accepted u) (texts.accepted source) x accepted in cc

  -- the design of the written text
  record Other (e : Elaborated) : Type 0 where
    other : Elaborated
    has_design : HasDesign V1993 text name other
    same : ShowSame e other

  design_of : (e : Elaborated) → HasDesign V2019 s name e → Other e
  design_of e d =
      let here = same_source d.units d.accepted in
      let found = shown_by (elaboration source d.top) (elaboration written d.top) (shown.for_each d.top) e (ap (λ u. elaboration u d.top) (sym here) ∙ d.is_design) in
      record {
        other = found.0;
        has_design = record {
          units = written;
          accepted = w;
          top = d.top;
          is_top = sym (same_top source written shown name) ∙ ap (λ u. top_named u name) (sym here) ∙ d.is_top;
          is_design = found.1;
        };
        same = found.2;
      }

  limit_too : (limit : Limit) → IsAcceptance V2019 s (texts.beyond limit) ⊎ ElaboratesBeyond V2019 s name limit → ElaboratesBeyond V1993 text name limit
  limit_too limit (inl early) = not_early (texts.beyond limit) early (λ u wrong. absurd cc)
  limit_too limit (inr late) =
      let o = design_of late.design late.has_design in
      record { design = o.other; has_design = o.has_design; passes = sym (same_limit late.design o.other o.same) ∙ late.passes }

  answered : (a : Tracing) → IsTracing V2019 s name cycles a → IsTracing V1993 text name cycles a
  answered (refused x) (inl early) = not_early (texts.refused x) early (λ u wrong. absurd cc)
  answered (refused x) (inr lacks) =
      let here = same_source lacks.units lacks.accepted in
      inr (record {
        rule = lacks.rule;
        place = lacks.place;
        units = written;
        accepted = w;
        no_top = sym (same_top source written shown name) ∙ ap (λ u. top_named u name) (sym here) ∙ lacks.no_top;
      })
  answered (beyond limits.Output) long =
      let o = design_of long.design long.has_design in
      record {
        design = o.other;
        has_design = o.has_design;
        within = sym (same_limit long.design o.other o.same) ∙ long.within;
        long = subst (λ t. output_limit < length t) (same_text long.design o.other o.same cycles) long.long;
      }
  answered (beyond limits.Files) x = inr (limit_too limits.Files x)
  answered (beyond limits.Input) x = inr (limit_too limits.Input x)
  answered (beyond limits.Tokens) x = inr (limit_too limits.Tokens x)
  answered (beyond limits.Nesting) x = inr (limit_too limits.Nesting x)
  answered (beyond limits.Units) x = inr (limit_too limits.Units x)
  answered (beyond limits.Nodes) x = inr (limit_too limits.Nodes x)
  answered (beyond limits.Nesting93) x = inr (limit_too limits.Nesting93 x)
  answered (beyond limits.Signals) x = inr (limit_too limits.Signals x)
  answered (beyond limits.Processes) x = inr (limit_too limits.Processes x)
  answered (beyond limits.Depth) x = inr (limit_too limits.Depth x)
  answered (traced t stopped) x =
      let o = design_of x.design x.has_design in
      record {
        design = o.other;
        has_design = o.has_design;
        within = sym (same_limit x.design o.other o.same) ∙ x.within;
        fits = x.fits;
        text_is = x.text_is ∙ same_text x.design o.other o.same cycles;
        stopped_is = x.stopped_is ∙ same_stops x.design o.other o.same cycles;
      }

pub runs_are_equal : RunsAreEqual
runs_are_equal s design rows units c written w name cycles a x = answered s design rows units c written w name cycles a x
