-- Designs are read back from their tokens.
use Rattle.std.proofs.Common.{◌≡◌, Bool, true, false, ◌||◌, not, List, [], ◌∷◌, ◌++◌, map, None, refl, sym, ap, ◌∙◌, subst, append-nil}
use Rattle.vd_trees.specs.declared.revision.Revision.TheVariants.{V1993}
use Rattle.vd_tokens.specs.declared.kinds.Kind.TheVariants as kind
use Rattle.vd_tokens.specs.Lexemes.{Lexeme}
use Rattle.vd_gram.specs.declared.tables.Table.{Table}
use Rattle.vd_gram.specs.Derivations.{Derive, IsDerivation, yield, unplaced}
use Rattle.vd_gram.proofs.UniqueLemmas.{one_unplaced}
use Rattle.vd_forest.specs.Forest.{Forest, nothing, more, reversed, erased}
use Rattle.vd_forest.proofs.ForestLemmas.{erased_erased}
use Rattle.vd_forms.specs.declared.form.Form.{Form}
use Rattle.vd_forms.specs.declared.form.Form.TheVariants as form
use Rattle.vd_forms.specs.Slots.{slots_of, file_slots}
use Rattle.vd_forms.specs.Validity.{forms_of, fits, keeps_brackets, AreValid, IsDesign}
use Rattle.vd_shapes.specs.declared.actions.Action.{Action}
use Rattle.vd_shapes.specs.Shapes.{shape}
use Rattle.vd_shapes.specs.Reading.{symbol_of, symbols_in}
use Rattle.vd_templates.specs.Templates.{written, items_of, tokens_in, tokens_of, lexeme, tree_items}
use Rattle.vd_derivations.specs.Drafts.{Draft, none, plain, lexemes, grows}
use Rattle.vd_derivations.specs.Rows.{Standpoint}
use Rattle.vd_derivations.specs.Checks.{base}
use Rattle.vd_derivations.specs.Laws.{without_place, DesignsAreDerived, rows_of, LeadBack, FileRow, file_template, IsFileOf, DesignsLeadBack, DesignsAreAlone}
use Rattle.vd_derivations.proofs.WritingLemmas.{each_tokens, all_tokens}
use Rattle.vd_derivations.proofs.FillingLemmas.{puts, meant, cannot, filled}
use Rattle.vd_derivations.proofs.PartLemmas.{single, valid_of_93, all_bare}
use Rattle.vd_derivations.proofs.MadeLemmas.{planted_single, reversed_pushed}
use Rattle.vd_derivations.proofs.StandingLemmas.{all_can}
use Rattle.vd_derivations.proofs.ShapeLemmas.{HaveNoPlace, yield_plain, symbols_with_end, symbols_without_place, no_place_append, no_place_tokens, draft_grown, unplaced_shape, erased_shape, forms_erased, bracketed_erased, keeps_erased}

-- ---- validity without places

valid_erased : (keep : Bool) (f : Forest Form) → AreValid V1993 keep f → AreValid V1993 keep (erased f)
valid_erased keep nothing h = tt
valid_erased keep (more f t p a b) h = (
  h.0,
  ap (fits (slots_of V1993 f)) (forms_erased a) ∙ h.1,
  h.2,
  ap (λ x. keep || not x) (bracketed_erased f a) ∙ h.3,
  subst (λ k. AreValid V1993 k (erased a)) (sym (keeps_erased f a)) (valid_erased (keeps_brackets f a) a h.4),
  valid_erased keep b h.5,
)

-- ---- the derivation of a design

record HasDraft (t : Table) (actions : List Action) (units : Forest Form) : Type 0 where
  pub draft : Draft
  pub derived : IsDerivation t (plain draft)
  pub tokens : lexemes draft ≡ tokens_in (items_of units)
  pub grown : reversed (grows actions draft nothing) ≡ erased units

module _ (t : Table) (actions : List Action) (standpoints : List Standpoint) (r : FileRow) (back : LeadBack t actions standpoints) (file : IsFileOf t actions standpoints r) where
  has_draft : (units : Forest Form) → IsDesign V1993 units → HasDraft t actions units
  has_draft units d =
      let v = valid_erased false units d.are_valid in
      let xs = single (erased units) in
      let ws = written units in
      let can = all_can t (rows_of t) actions standpoints refl back.rows units false v in
      let fitting : fits file_slots (forms_of (erased units)) ≡ true = ap (fits file_slots) (forms_erased units) ∙ d.are_units in
      let bare = all_bare t (rows_of t) actions standpoints form.Absent (form.DesignUnit ∷ []) r.place (erased units) file.stand fitting (valid_of_93 false (erased units) v) in
      let i = filled t (rows_of t) actions standpoints refl form.Absent [] none None refl (0 ∷ []) 0 nothing ws xs (cannot t actions standpoints 0 (tree_items form.Absent [] ws)) can (file_template r) file.facts ((bare, tt), tt) in
      record {
        draft = i.draft;
        derived = subst (λ ss. Derive t ss (plain i.draft)) file.derives i.derived;
        tokens = i.tokens ∙ append-nil (each_tokens [] ws) ∙ sym (all_tokens form.Absent [] ws none ws);
        grown =
            ap reversed (i.grown nothing base ∙ ap (meant actions [] none (puts t actions standpoints (0 ∷ []) (nothing ∷ xs)) nothing) file.leaves)
            ∙ reversed_pushed xs ∙ planted_single (erased units);
      }

  pub derived_back : DesignsAreDerived t actions
  derived_back units d =
      let h = has_draft units d in
      let all : tokens_of units ≡ [] ++ (lexemes h.draft ++ lexeme kind.End [] ∷ []) = ap (λ ls. ls ++ lexeme kind.End [] ∷ []) (sym h.tokens) in
      let none_placed = no_place_append (tokens_in (items_of units)) (lexeme kind.End [] ∷ []) (no_place_tokens (items_of units)) (refl, tt) in
      let shaped : shape actions (tokens_of units) (plain h.draft) ≡ erased units =
      ap reversed (draft_grown actions (tokens_of units) none_placed h.draft [] (lexeme kind.End [] ∷ []) 0 0 nothing all refl) ∙ h.grown in
      record {
        tree = plain h.draft;
        derivation = record {
          derived = h.derived;
          yields = yield_plain h.draft ∙ ap (map (λ l. symbol_of l.kind)) h.tokens ∙ sym (symbols_with_end (tokens_in (items_of units)) (lexeme kind.End []));
        };
        shaped = record { same = ap erased shaped ∙ erased_erased units };
      }

pub leads_back : DesignsLeadBack
leads_back t actions standpoints r back file = derived_back t actions standpoints r back file

-- ---- and no other

same_without : (ls : List Lexeme) → HaveNoPlace ls → map without_place ls ≡ ls
same_without [] h = refl
same_without (l ∷ ls) h = λ i. (record l { place = sym h.0 i }) ∷ same_without ls h.1 i

pub without_tokens : (units : Forest Form) → map without_place (tokens_of units) ≡ tokens_of units
without_tokens units = same_without (tokens_of units) (no_place_append (tokens_in (items_of units)) (lexeme kind.End [] ∷ []) (no_place_tokens (items_of units)) (refl, tt))

pub alone : DesignsAreAlone
alone t actions checked derived units tokens tree d are h e =
    let own = derived units d in
    let yields : yield own.tree ≡ yield tree = own.derivation.yields ∙ ap symbols_in (sym are) ∙ symbols_without_place tokens ∙ sym e in
    let same : unplaced own.tree ≡ unplaced tree = one_unplaced t checked own.tree tree own.derivation.derived h yields in
    record {
      same =
          erased_shape actions tokens tree ∙ ap (λ ts. shape actions ts tree) are ∙ sym (unplaced_shape actions (tokens_of units) tree) ∙ ap (shape actions (tokens_of units)) (sym same)
          ∙ unplaced_shape actions (tokens_of units) own.tree
          ∙ sym (erased_shape actions (tokens_of units) own.tree ∙ ap (λ ts. shape actions ts own.tree) (without_tokens units)) ∙ own.shaped.same;
    }
