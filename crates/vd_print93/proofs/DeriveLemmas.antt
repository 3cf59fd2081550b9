-- The tokens of a tree lead back to it.
use Rattle.std.proofs.Common.{◌≡◌, List, [], ◌∷◌, ◌++◌, map, Result, Ok, Err, IfOk, refl, sym, ap, subst}
use Rattle.vd_trees.specs.declared.revision.Revision.TheVariants.{V1993}
use Rattle.vd_tokens.specs.declared.kinds.Kind.TheVariants.{End}
use Rattle.vd_forest.specs.Forest.{Forest}
use Rattle.vd_forms.specs.declared.form.Form.{Form}
use Rattle.vd_forms.specs.Validity.{IsDesign}
use Rattle.vd_templates.specs.Templates.{Item, token, end_line, inward, outward, items_of, tokens_in, tokens_of, lexeme}
use Rattle.vd_derivations.specs.Laws.{without_place}
use Rattle.vd_derivations93.specs.Laws.{IsReadBack}
use Rattle.vd_derivations93.proofs.ReadingLemmas.{read_back}

-- what holds of the value that a call gives
pub of_value : {T E : Type 0} (P : T → Type 0) (x : T) (r : Result T E) → P x → IfOk r (λ t. t ≡ x) → IfOk r P
of_value P x (Ok t) h e = subst P (sym e) h
of_value P x (Err e) h k = tt

placed_nowhere : (items : List Item) → map without_place (tokens_in items ++ lexeme End [] ∷ []) ≡ tokens_in items ++ lexeme End [] ∷ []
placed_nowhere [] = refl
placed_nowhere (token k text ∷ items) = ap (λ ts. lexeme k text ∷ ts) (placed_nowhere items)
placed_nowhere (end_line ∷ items) = placed_nowhere items
placed_nowhere (inward ∷ items) = placed_nowhere items
placed_nowhere (outward ∷ items) = placed_nowhere items

pub derived_back : (units : Forest Form) → IsDesign V1993 units → IsReadBack units (tokens_of units)
derived_back units valid = read_back units (tokens_of units) valid (placed_nowhere (items_of units))
