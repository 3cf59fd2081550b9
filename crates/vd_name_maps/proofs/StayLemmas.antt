-- The elements of a map change nothing of the place and of the design.
use Rattle.std.proofs.Common.{ℕ, List, [], ◌∷◌, Option, Some, None, refl}
use Rattle.vd_bytes.specs.declared.places.Place.{Place}
use Rattle.vd_declarations.specs.declared.classes.Class.{Class}
use Rattle.vd_declarations.specs.declared.classes.Class.TheVariants as class
use Rattle.vd_forest.specs.Forest.{Forest, nothing, more}
use Rattle.vd_forms.specs.declared.form.Form.{Form}
use Rattle.vd_forms.specs.declared.form.Form.TheVariants as form
use Rattle.vd_overloads.specs.declared.wanted.Wanted.TheVariants as wanted
use Rattle.vd_visible.specs.Sights.{class_of, mark_of}
use Rattle.vd_name_rows.specs.Designs.{At, Design, Outcome}
use Rattle.vd_naming.specs.Associations.{Element}
use Rattle.vd_naming.specs.Expressions.{with_mark}
use Rattle.vd_name_expressions.proofs.StayLemmas.{Stays, known_stays}
use Rattle.vd_naming.specs.Actuals.{Known, mark_in, constant_outcome, outcome_for}
use Rattle.vd_naming.specs.Generics.{in_element, element_outcome, elements_outcome}

module _ (at : At) (d : Design) where
  module _ (k : Known) (g : ℕ) (place : Place) where
    constant_stays : (tree : Forest Form) → Stays at d (constant_outcome at d k g place tree)
    constant_stays tree =
        let inner = known_stays at d (with_mark wanted.OfType (mark_in k (mark_of k.sight g))) tree in
        record { place = inner.place; design = inner.design }

    pub outcome_stays : (c : Class) (tree : Forest Form) → Stays at d (outcome_for c at d k g place tree)
    outcome_stays class.GenericType nothing = record { place = refl; design = refl }
    outcome_stays class.GenericType (more form.Open text place' parts next) = record { place = refl; design = refl }
    outcome_stays class.GenericType (more _ text place' parts next) = record { place = refl; design = refl }
    outcome_stays class.GenericFunction nothing = record { place = refl; design = refl }
    outcome_stays class.GenericFunction (more form.Open text place' parts next) = record { place = refl; design = refl }
    outcome_stays class.GenericFunction (more _ text place' parts next) = record { place = refl; design = refl }
    outcome_stays _ nothing = constant_stays nothing
    outcome_stays _ (more form.Open text place' parts next) = record { place = refl; design = refl }
    outcome_stays _ (more f text place' parts next) = constant_stays (more f text place' parts next)

  in_stays : (g : ℕ) (f : Form) (place : Place) (parts : Forest Form) (o : Outcome) → Stays at d o → Stays at d (in_element g f place parts o)
  in_stays g form.Association place parts o stays = record { place = stays.place; design = stays.design }
  in_stays g _ place parts o stays = stays

  pub element_stays : (g : Option ℕ) (k : Known) (actual : Forest Form) (f : Form) (text : List ℕ) (place : Place) (parts : Forest Form)
      → Stays at d (element_outcome g at d k actual f text place parts)
  element_stays None k actual f text place parts = record { place = refl; design = refl }
  element_stays (Some g) k actual f text place parts = in_stays g f place parts _ (outcome_stays k g place (class_of k.sight g) actual)

  pub elements_stay : (k : Known) (es : List Element) (parts : Forest Form) → Stays at d (elements_outcome at d k es parts)
  elements_stay k [] parts = record { place = refl; design = refl }
  elements_stay k (e ∷ es) nothing = record { place = refl; design = refl }
  elements_stay k (e ∷ es) (more f text place parts next) =
      let inner = element_stays e.generic k e.actual f text place parts in
      record { place = inner.place; design = inner.design }
