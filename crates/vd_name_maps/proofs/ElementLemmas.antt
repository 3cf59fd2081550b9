-- One element, and then others.
use Rattle.std.proofs.Common.{◌≡◌, ℕ, List, [], ◌∷◌, ◌++◌, map, ap, ◌∙◌, append_assoc}
use Rattle.std.proofs.lemmas.List.{map-append}
use Rattle.vd_bytes.specs.declared.places.Place.{Place}
use Rattle.vd_forest.specs.Forest.{Forest, nothing, more, with_next}
use Rattle.vd_forms.specs.declared.form.Form.{Form}
use Rattle.vd_name_rows.specs.Designs.{Design}
use Rattle.vd_naming.specs.Paths.{is_some}
use Rattle.vd_naming.specs.Associations.{Element, elements, generic_for, generic_at, actual_in, left_behind, with_given}
use Rattle.vd_name_maps.specs.Seen.{seen_element}
use Rattle.vd_name_maps.specs.declared.element.Element as code

module _ (d : Design) (n : ℕ) (left given : List ℕ) (f : Form) (text : List ℕ) (place : Place) (parts next : Forest Form) where
  abbrev here : Element
  here = record {
    place = place;
    generic = generic_at d n left given f parts;
    is_known = is_some (generic_for d n left f parts);
    actual = actual_in f text place parts;
  }

  pub seen_here : (e : code.Element) → e.place ≡ place → e.generic ≡ generic_at d n left given f parts → e.is_known ≡ is_some (generic_for d n left f parts)
      → with_next e.actual nothing ≡ actual_in f text place parts → seen_element e ≡ here
  seen_here e places generics knowns actuals = cc

  pub element_step : (made : List code.Element) (e : code.Element) (left' given' : List ℕ) → seen_element e ≡ here → left' ≡ left_behind f left
      → given' ≡ with_given (generic_at d n left given f parts) given
      → map seen_element (made ++ e ∷ []) ++ elements d n left' given' next ≡ map seen_element made ++ elements d n left given (more f text place parts next)
  element_step made e left' given' seen lefts givens =
      ap (λ es. es ++ elements d n left' given' next) (map-append seen_element made (e ∷ []))
      ∙ append_assoc (map seen_element made) (seen_element e ∷ []) (elements d n left' given' next)
      ∙ ap (λ x. map seen_element made ++ (x ∷ elements d n left' given' next)) seen
      ∙ ap (λ l. map seen_element made ++ (here ∷ elements d n l given' next)) lefts
      ∙ ap (λ g. map seen_element made ++ (here ∷ elements d n (left_behind f left) g next)) givens
