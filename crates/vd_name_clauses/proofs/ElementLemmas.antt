-- Names of elements, as a loop makes them.
use Rattle.std.proofs.Common.{◌≡◌, ℕ, List, Option, None, ap, ◌∙◌, sym}
use Rattle.vd_bytes.specs.declared.places.Place.{Place}
use Rattle.vd_forest.specs.Forest.{Forest, more, turned}
use Rattle.vd_forest.specs.Store.{at, Holds}
use Rattle.vd_forms.specs.declared.form.Form.{Form}
use Rattle.vd_resolved.specs.declared.node.Resolved.{Resolved}
use Rattle.vd_name_rows.specs.Designs.{Design}
use Rattle.vd_naming.specs.Expressions.{resolved, unresolved}
use Rattle.vd_naming.specs.Views.{element_named, names_of_elements}

-- one name more
pub element_added : (fs gs : List (Forest Resolved)) (made new : ℕ) (d : Design) (t k : Option ℕ) (left : Forest Form) (want : Forest Resolved)
    (form : Form) (text : List ℕ) (place : Place) (parts rest : Forest Form)
    → left ≡ more form text place parts rest → k ≡ element_named d t text
    → Holds gs new (more (resolved form k None) text place (unresolved parts) (at fs made))
    → turned (at fs made) (names_of_elements d t left) ≡ want
    → turned (at gs new) (names_of_elements d t rest) ≡ want
element_added fs gs made new d t k left want form text place parts rest opened found added wanted =
    ap (λ f. turned f (names_of_elements d t rest)) added.is
    ∙ ap (λ j. turned (at fs made) (more (resolved form j None) text place (unresolved parts) (names_of_elements d t rest))) found
    ∙ ap (λ f. turned (at fs made) (names_of_elements d t f)) (sym opened) ∙ wanted
