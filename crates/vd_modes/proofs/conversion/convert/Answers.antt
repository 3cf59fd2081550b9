use Rattle.std.proofs.Common.{◌≡◌, ℕ, List, Result, Ok, Err, IfOk, sym, ◌∙◌, subst}
use Rattle.std.proofs.lemmas.Result.{IfErr-weaker}
use Rattle.vd_design_files.specs.Files.{holds, IsAnswer}
use Rattle.vd_design_files.specs.Laws.{IsEnd}
use Rattle.vd_design_files.specs.declared.answers.DesignEnd.{DesignEnd}
use Rattle.vd_design_files.specs.declared.answers.DesignEnd.TheVariants as reading
use Rattle.vd_directives.specs.declared.selected.Line.{Line}
use Rattle.vd_forest.specs.Forest.{Forest}
use Rattle.vd_forms.specs.declared.form.Form.{Form}
use Rattle.vd_modes.specs.Conversions.{IsBeyond, IsEndOfDesign, IsRefused, PassesLimit, RefusesRule, end_of_files}
use Rattle.vd_modes.specs.declared.conversion.ConvertEnd.{ConvertEnd}
use Rattle.vd_modes.specs.declared.conversion.ConvertEnd.TheVariants as end
use Rattle.vd_modes.proofs.conversion.convert.Goals as goal

-- what two clauses say of a value, together
from_two : {T E : Type 0} → (r : Result T E) (P Q R : T → Type 0) → ((x : T) → P x → Q x → R x) → IfOk r P → IfOk r Q → IfOk r R
from_two (Ok x) P Q R both p q = both x p q
from_two (Err e) P Q R both p q = tt

module _ (tool : List ℕ) (contents : List (List ℕ)) where
  design_refused : (units : Forest Form) (warnings : List (List Line)) → IsAnswer tool contents (holds units warnings)
      → (x : ConvertEnd) → IsEndOfDesign units x → RefusesRule tool contents x
  design_refused units warnings read (end.Refused x) is = IsRefused.of_design units warnings read is
  design_refused units warnings read (end.Limit limit) is = tt
  design_refused units warnings read end.Memory is = tt

  design_beyond : (units : Forest Form) (warnings : List (List Line)) → IsAnswer tool contents (holds units warnings)
      → (x : ConvertEnd) → IsEndOfDesign units x → PassesLimit tool contents x
  design_beyond units warnings read (end.Refused x) is = tt
  design_beyond units warnings read (end.Limit limit) is = IsBeyond.of_design units warnings read is
  design_beyond units warnings read end.Memory is = tt

  texts_refused : (x : DesignEnd) → IsEnd (IsAnswer tool contents) x → RefusesRule tool contents (end_of_files x)
  texts_refused (reading.Refused x) is = IsRefused.of_texts is
  texts_refused (reading.Limit limit) is = tt
  texts_refused reading.Memory is = tt

  texts_beyond : (x : DesignEnd) → IsEnd (IsAnswer tool contents) x → PassesLimit tool contents (end_of_files x)
  texts_beyond (reading.Refused x) is = tt
  texts_beyond (reading.Limit limit) is = IsBeyond.of_texts is
  texts_beyond reading.Memory is = tt

pub returns-in-Ok-clause-refused : goal.returns-in-Ok-clause-refused
returns-in-Ok-clause-refused c =
    let files = c.in-Ok.files in
    IfErr-weaker c.convert_design.result _ _
    (design_refused c.args.settings.now.tool_type c.args.contents.now files.design files.warnings c.in-Ok.ensures.exact)
    c.convert_design.ensures.end

pub returns-in-Ok-clause-nodes : goal.returns-in-Ok-clause-nodes
returns-in-Ok-clause-nodes c =
    let files = c.in-Ok.files in
    IfErr-weaker c.convert_design.result _ _
    (design_beyond c.args.settings.now.tool_type c.args.contents.now files.design files.warnings c.in-Ok.ensures.exact)
    c.convert_design.ensures.end

pub returns-in-Ok-clause-units : goal.returns-in-Ok-clause-units
returns-in-Ok-clause-units c =
    let files = c.in-Ok.files in
    let read = c.in-Ok.ensures.exact in
    from_two c.convert_design.result _ _ _
    (λ made legal same. record {
      units = files.design;
      read = subst (λ (w : List (List Line)). IsAnswer c.args.settings.now.tool_type c.args.contents.now (holds files.design w)) (sym same.1) read;
      legal = legal;
      counted = same.0 ∙ c.in-Ok.ensures.counted;
    })
    c.convert_design.ensures.legal c.convert_design.ensures.same

pub returns-in-Err-clause-refused : goal.returns-in-Err-clause-refused
returns-in-Err-clause-refused c =
    let tool = c.args.settings.now.tool_type in
    let contents = c.args.contents.now in
    subst (RefusesRule tool contents) (sym c.end_of_files.ensures) (texts_refused tool contents c.in-Err.end c.in-Err.ensures.exact)

pub returns-in-Err-clause-nodes : goal.returns-in-Err-clause-nodes
returns-in-Err-clause-nodes c =
    let tool = c.args.settings.now.tool_type in
    let contents = c.args.contents.now in
    subst (PassesLimit tool contents) (sym c.end_of_files.ensures) (texts_beyond tool contents c.in-Err.end c.in-Err.ensures.exact)
