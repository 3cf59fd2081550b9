-- A print is read as the tokens of its tree.
use Rattle.std.proofs.Common.{◌≡◌, ℕ, ◌+◌, ◌-◌, Bool, true, false, cond, not, List, [], ◌∷◌, map, Option, Some, None, Result, Ok, Err, IfOk, Vec, refl, sym, ap, subst, ◌∙◌}
use Rattle.vd_trees.specs.declared.revision.Revision.{Revision}
use Rattle.vd_trees.specs.declared.revision.Revision.TheVariants.{V1993}
use Rattle.vd_tokens.specs.declared.kinds.Kind.{Kind}
use Rattle.vd_forest.specs.Forest.{Forest}
use Rattle.vd_forms.specs.declared.form.Form.{Form}
use Rattle.vd_forms.specs.Validity.{IsDesign}
use Rattle.vd_templates.specs.Templates.{Item, token, end_line, inward, outward, items_of, tokens_in, lexeme}
use Rattle.vd_spacing.specs.Spacing.{is_spaced, touching, spaced}
use Rattle.vd_spacing.specs.ReadingBack.{is_apart, AreLaid, token_of, ReadsBack}
use Rattle.vd_spacing.proofs.ReadLemmas.{layouts_read_back}
use Rattle.vd_neighbours.specs.Neighbours.{StandSideBySide}
use Rattle.vd_neighbours.proofs.SideLemmas.{side_by_side}
use Rattle.vd_print93.specs.Layout.{spacing_behind, laid_from, laid_out, layout_of}
use Rattle.vd_print93.specs.PrintReading.{PrintReadsBack, PrintIsOfDesign}
use Rattle.vd_directives.specs.Lines.{plain_of}
use Rattle.vd_lex.specs.Lexis.{lexed}
use Rattle.vd_lex.proofs.LexingLaws.{one_lexing}
use Rattle.vd_derivations.specs.Laws.{without_place}
use Rattle.vd_derivations93.proofs.ReadingLemmas.{read_back}

apart_if : (left right : Kind) (b : Bool) → is_spaced left right ≡ b → is_apart (Some left) (cond b spaced touching) right ≡ true
apart_if left right true e = refl
apart_if left right false e = ap not e

apart : (level : ℕ) (ended : Bool) (last : Option Kind) (right : Kind) → is_apart last (spacing_behind level ended last right) right ≡ true
apart level ended None right = refl
apart level true (Some left) right = refl
apart level false (Some left) right = apart_if left right (is_spaced left right) refl

module _ (r : Revision) where
  laid : (items : List Item) (level : ℕ) (ended : Bool) (last : Option Kind) → StandSideBySide r last (tokens_in items) → AreLaid r last (laid_from level ended last items)
  laid [] level ended last h = tt
  laid (token k text ∷ items) level ended last h = (h.0, h.1, apart level ended last k, laid items level false (Some k) h.2)
  laid (end_line ∷ items) level ended last h = laid items level true last h
  laid (inward ∷ items) level ended last h = laid items (level + 1) ended last h
  laid (outward ∷ items) level ended last h = laid items (level - 1) ended last h

tokens_laid : (items : List Item) (level : ℕ) (ended : Bool) (last : Option Kind) → map token_of (laid_from level ended last items) ≡ tokens_in items
tokens_laid [] level ended last = refl
tokens_laid (token k text ∷ items) level ended last = ap (λ ts. lexeme k text ∷ ts) (tokens_laid items level false (Some k))
tokens_laid (end_line ∷ items) level ended last = tokens_laid items level true last
tokens_laid (inward ∷ items) level ended last = tokens_laid items (level + 1) ended last
tokens_laid (outward ∷ items) level ended last = tokens_laid items (level - 1) ended last

pub layout_reads_back : (units : Forest Form) → IsDesign V1993 units → PrintReadsBack units (layout_of units)
layout_reads_back units valid file words =
    subst (ReadsBack V1993 file (layout_of units)) (tokens_laid (items_of units) 0 false None)
    (layouts_read_back V1993 file (laid_out units) (laid V1993 (items_of units) 0 false None (side_by_side units valid words)))

-- whatever tokens the bytes have, these are the tokens of the units, and lead back to them
pub layout_is_of_design : (units : Forest Form) → IsDesign V1993 units → PrintIsOfDesign units (layout_of units)
layout_is_of_design units valid file tokens words list =
    let back = layout_reads_back units valid file words in
    let same : lexed tokens ≡ lexed back.read = one_lexing V1993 (plain_of file (layout_of units)) (lexed tokens) (lexed back.read) list back.is_list in
    let are : tokens ≡ back.read = cc in
    read_back units tokens valid (ap (map without_place) are ∙ back.same)

-- what holds of the bytes that a call gives
pub of_bytes : {A E : Type 0} (P : List ℕ → Type 0) (x : List ℕ) (r : Result (Vec ℕ A) E) → P x → IfOk r (λ bytes. bytes.items ≡ x) → IfOk r (λ bytes. P bytes.items)
of_bytes P x (Ok bytes) h e = subst P (sym e) h
of_bytes P x (Err e) h k = tt
