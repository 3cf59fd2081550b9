-- A file, a name and a number of cycles have one answer: it is determined by what accepting the file answers.
use Rattle.std.proofs.Common.{◌≡◌, ◌≤◌, ℕ, Bool, List, length, Option, Some, None, ltb, ◌⊎◌, refl, sym, ap, ◌∙◌, subst, inl, inr}
use Rattle.std.specs.Prelude.{if◌then◌else◌}
use Rattle.std.proofs.lemmas.Bool.{le-ltb, lt-ltb}
use Rattle.vd_bytes.specs.declared.answers.Limit.{Limit}
use Rattle.vd_bytes.specs.declared.answers.Limit.TheVariants as limits
use Rattle.vd_bytes.specs.declared.answers.Refused.{Refused}
use Rattle.vd_forest.specs.Forest.{Forest}
use Rattle.vd_first_trees.specs.declared.form.Form.{Form}
use Rattle.vd_trees.specs.declared.revision.Revision.{Revision}
use Rattle.vd_first_lex.specs.declared.selected.Selected.{Selected}
use Rattle.vd_first_accept.specs.Acceptance as texts
use Rattle.vd_first_accept.specs.Acceptance.{Acceptance, IsAcceptance}
use Rattle.vd_first_accept.proofs.OneAcceptance.{one_acceptance}
use Rattle.vd_first_elaboration.specs.Elaboration.{Elaborated, elaboration}
use Rattle.vd_first_runs.specs.TopNames.{top_named}
use Rattle.vd_first_runs.specs.Elaborations.{limit_of}
use Rattle.vd_first_tracing.specs.Tracings.{output_limit, run_text, run_stops, Tracing, refused, beyond, traced, HasDesign, ElaboratesBeyond, IsTracing, HasOneTracing}

-- ---- what an answer says of the file: that it isn't accepted, that the name is no top, or its design

pub data Ground : Type 0 where
  unaccepted : (a : Acceptance) → Ground
  topless : Ground
  designed : (e : Elaborated) → Ground

-- an answer about the text of an accepted file is no answer about an accepted one
abbrev IsEarly : Acceptance → Type 0
IsEarly (texts.refused x) = Unit {0}
IsEarly (texts.beyond limit) = Unit {0}
IsEarly (texts.accepted units) = ⊥

abbrev Rests : Revision → Selected → List ℕ → Ground → Type 0
Rests r s name (unaccepted a) = IsEarly a × IsAcceptance r s a
Rests r s name topless = (units : Forest Form) × texts.IsAccepted r s units × (top_named units name ≡ None)
Rests r s name (designed e) = HasDesign r s name e

-- the text of a trace, or that it is longer than is printed
abbrev text_answer : Bool → List ℕ → Bool → Tracing
text_answer long text stopped = if long then beyond limits.Output else traced text stopped

-- the answer of a design
abbrev limit_answer : Option Limit → Tracing → Tracing
limit_answer (Some limit) other = beyond limit
limit_answer None other = other

abbrev no_such_top : Refused
no_such_top = record { place = record { file = 1; line = 1; column = 1 }; rule = 311 }

abbrev early_answer : Acceptance → Tracing
early_answer (texts.refused x) = refused x
early_answer (texts.beyond limit) = beyond limit
early_answer (texts.accepted units) = refused no_such_top

abbrev answer_of : ℕ → Ground → Tracing
answer_of cycles (unaccepted a) = early_answer a
answer_of cycles topless = refused no_such_top
answer_of cycles (designed e) = limit_answer (limit_of e) (text_answer (ltb output_limit (length (run_text e cycles))) (run_text e cycles) (run_stops e cycles))

-- ---- each answer has a ground

record Path (r : Revision) (s : Selected) (name : List ℕ) (cycles : ℕ) (a : Tracing) : Type 0 where
  ground : Ground
  rests : Rests r s name ground
  answer : a ≡ answer_of cycles ground

module _ (r : Revision) (s : Selected) (name : List ℕ) (cycles : ℕ) where
  limit_path : (limit : Limit) → IsAcceptance r s (texts.beyond limit) ⊎ ElaboratesBeyond r s name limit → Path r s name cycles (beyond limit)
  limit_path limit (inl early) = record { ground = unaccepted (texts.beyond limit); rests = (tt, early); answer = refl }
  limit_path limit (inr late) = record { ground = designed late.design; rests = late.has_design; answer = rw late.passes refl }

  same_refused : (x : Refused) → x.rule ≡ 311 → x.place ≡ no_such_top.place → refused x ≡ refused no_such_top
  same_refused x rule place = rw (← rule, ← place) refl

  path : (a : Tracing) → IsTracing r s name cycles a → Path r s name cycles a
  path (refused x) (inl early) = record { ground = unaccepted (texts.refused x); rests = (tt, early); answer = refl }
  path (refused x) (inr lacks) =
      record { ground = topless; rests = (lacks.units, lacks.accepted, lacks.no_top); answer = same_refused x lacks.rule lacks.place }
  path (beyond limits.Output) long =
      record { ground = designed long.design; rests = long.has_design; answer = rw (long.within, lt-ltb output_limit (length (run_text long.design cycles)) long.long) refl }
  path (beyond limits.Files) x = limit_path limits.Files x
  path (beyond limits.Input) x = limit_path limits.Input x
  path (beyond limits.Tokens) x = limit_path limits.Tokens x
  path (beyond limits.Nesting) x = limit_path limits.Nesting x
  path (beyond limits.Units) x = limit_path limits.Units x
  path (beyond limits.Nodes) x = limit_path limits.Nodes x
  path (beyond limits.Nesting93) x = limit_path limits.Nesting93 x
  path (beyond limits.Signals) x = limit_path limits.Signals x
  path (beyond limits.Processes) x = limit_path limits.Processes x
  path (beyond limits.Depth) x = limit_path limits.Depth x
  path (traced text stopped) t =
      let short : length (run_text t.design cycles) ≤ output_limit = subst (λ x. length x ≤ output_limit) t.text_is t.fits in
      record {
        ground = designed t.design;
        rests = t.has_design;
        answer =
            ap (λ x. traced x stopped) t.text_is ∙ ap (traced (run_text t.design cycles)) t.stopped_is
            ∙ sym (rw (t.within, le-ltb output_limit (length (run_text t.design cycles)) short) refl);
      }

  -- ---- and a file has one ground

  same_units : (u v : Forest Form) → texts.IsAccepted r s u → texts.IsAccepted r s v → u ≡ v
  same_units u v x y = let same = one_acceptance r s (texts.accepted u) (texts.accepted v) x y in cc

  not_early : (a : Acceptance) (u : Forest Form) → IsEarly a → IsAcceptance r s a → texts.IsAccepted r s u → ⊥
  not_early a u early x y = subst IsEarly (one_acceptance r s a (texts.accepted u) x y) early

  same_design : (e f : Elaborated) → HasDesign r s name e → HasDesign r s name f → e ≡ f
  same_design e f x y =
      let units = same_units x.units y.units x.accepted y.accepted in
      let tops : Some x.top ≡ Some y.top = sym x.is_top ∙ ap (λ u. top_named u name) units ∙ y.is_top in
      let top : x.top ≡ y.top = cc in
      let designs : Some e ≡ Some f = sym x.is_design ∙ ap (λ u. elaboration u x.top) units ∙ ap (elaboration y.units) top ∙ y.is_design in
      cc

  lacks_or_has : (units : Forest Form) → texts.IsAccepted r s units → top_named units name ≡ None → (e : Elaborated) → HasDesign r s name e → ⊥
  lacks_or_has units accepted none e d =
      let same = same_units units d.units accepted d.accepted in
      let wrong : None ≡ Some d.top = sym none ∙ ap (λ u. top_named u name) same ∙ d.is_top in
      cc

  one_ground : (g h : Ground) → Rests r s name g → Rests r s name h → g ≡ h
  one_ground (unaccepted a) (unaccepted b) x y = ap unaccepted (one_acceptance r s a b x.1 y.1)
  one_ground (unaccepted a) topless x y = absurd (not_early a y.0 x.0 x.1 y.1)
  one_ground (unaccepted a) (designed e) x y = absurd (not_early a y.units x.0 x.1 y.accepted)
  one_ground topless (unaccepted b) x y = absurd (not_early b x.0 y.0 y.1 x.1)
  one_ground topless topless x y = refl
  one_ground topless (designed e) x y = absurd (lacks_or_has x.0 x.1 x.2 e y)
  one_ground (designed e) (unaccepted b) x y = absurd (not_early b x.units y.0 y.1 x.accepted)
  one_ground (designed e) topless x y = absurd (lacks_or_has y.0 y.1 y.2 e x)
  one_ground (designed e) (designed f) x y = ap designed (same_design e f x y)

pub one_tracing : HasOneTracing
one_tracing r s name cycles a b x y =
    let p = path r s name cycles a x in
    let q = path r s name cycles b y in
    p.answer ∙ ap (answer_of cycles) (one_ground r s name cycles p.ground q.ground p.rests q.rests) ∙ sym q.answer
