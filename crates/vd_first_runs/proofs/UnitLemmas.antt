-- The units of a top, where places play no role.
use Rattle.std.proofs.Common.{◌≡◌, ℕ, Bool, true, false, ◌&&◌, List, Option, Some, None, refl, sym, ap, ap₂, ◌∙◌}
use Rattle.std.specs.Prelude.{if◌then◌else◌, option_map, bytes_eq, is_some, MatchOption}
use Rattle.vd_forest.specs.Forest.{Forest, nothing, more, text_of, next_of, with_next, erased}
use Rattle.vd_forest.proofs.ForestLemmas.{text_of_erased, erased_next_of, erased_with_next}
use Rattle.vd_first_trees.specs.declared.form.Form.{Form}
use Rattle.vd_first_trees.specs.declared.form.Form.TheVariants as form
use Rattle.vd_first_trees.specs.Forms.{same_form}
use Rattle.vd_first_elaboration.specs.Tops.{Top, library_units, is_entity, is_wanted, is_architecture, last_passing, TopUnits, both_units, top_units}
use Rattle.vd_first_elaboration.specs.Elaboration.{Elaborated, elaborated_if, elaboration}
use Rattle.vd_first_runs.specs.declared.units.Units.{Units}
use Rattle.vd_first_runs.specs.Designs.{elaborated_of}
use Rattle.vd_first_runs.specs.Units.{own_units}

-- a unit more that passes, or doesn't
one_passing : (b : Bool) (found parts : Option (Forest Form)) → option_map erased (if b then parts else found) ≡ (if b then option_map erased parts else option_map erased found)
one_passing true found parts = refl
one_passing false found parts = refl

module _ (test : Form → Forest Form → Bool) (blind : (f : Form) (parts : Forest Form) → test f (erased parts) ≡ test f parts) where
  pub passing_erased : (found : Option (Forest Form)) (f : Forest Form) → last_passing test (option_map erased found) (erased f) ≡ option_map erased (last_passing test found f)
  passing_erased found nothing = refl
  passing_erased found (more f t p parts next) =
      ap (λ b. last_passing test (if b then Some (erased parts) else option_map erased found) (erased next)) (blind f parts)
      ∙ ap (λ o. last_passing test o (erased next)) (sym (one_passing (test f parts) found (Some parts)))
      ∙ passing_erased (if test f parts then Some parts else found) next

units_erased : (f : Forest Form) → library_units (erased f) ≡ erased (library_units f)
units_erased nothing = refl
units_erased (more f t p parts next) =
    ap₂ with_next (sym (erased_next_of parts)) (units_erased next) ∙ sym (erased_with_next (next_of parts) (library_units next))

entity_erased : (name : List ℕ) (f : Form) (parts : Forest Form) → is_entity name f (erased parts) ≡ is_entity name f parts
entity_erased name f parts = ap (λ t. same_form f form.EntityDeclaration && bytes_eq t name) (text_of_erased parts)

architecture_erased : (top : Top) (f : Form) (parts : Forest Form) → is_architecture top f (erased parts) ≡ is_architecture top f parts
architecture_erased top f parts =
    ap₂ (λ t u. same_form f form.ArchitectureBody && (bytes_eq t top.entity && is_wanted top.architecture u))
    (ap text_of (sym (erased_next_of parts)) ∙ text_of_erased (next_of parts)) (text_of_erased parts)

-- the design that the units make, if they are there
abbrev pub made_if : Option TopUnits → Option Elaborated
made_if u = option_map elaborated_of u

both_erased : (e a : Option (Forest Form)) → elaborated_if (both_units (option_map erased e) (option_map erased a)) ≡ made_if (both_units e a)
both_erased None None = refl
both_erased None (Some a) = refl
both_erased (Some e) None = refl
both_erased (Some e) (Some a) = refl

pub elaboration_is : (units : Forest Form) (top : Top) → elaboration units top ≡ made_if (top_units units top)
elaboration_is units top =
    ap₂ (λ e a. elaborated_if (both_units e a))
    (ap (last_passing (is_entity top.entity) None) (units_erased units) ∙ passing_erased (is_entity top.entity) (entity_erased top.entity) None (library_units units))
    (ap (last_passing (is_architecture top) None) (units_erased units) ∙ passing_erased (is_architecture top) (architecture_erased top) None (library_units units))
    ∙ both_erased (last_passing (is_entity top.entity) None (library_units units)) (last_passing (is_architecture top) None (library_units units))

-- whether the code has found the units says whether the design has them
pub is_found : (r : Option Units) (o : Option TopUnits) → MatchOption r (o ≡ None) (λ u. o ≡ Some (own_units u)) → is_some r ≡ is_some (made_if o)
is_found None o e = ap (λ u. is_some (made_if u)) (sym e)
is_found (Some r) o e = ap (λ u. is_some (made_if u)) (sym e)

-- what is elaborated is what the units that the code has found make
pub made_of_found : (r : Units) (o : Option TopUnits) (e : Elaborated) → o ≡ Some (own_units r) → made_if o ≡ Some e → elaborated_of (own_units r) ≡ e
made_of_found r o e found made = let both : Some (elaborated_of (own_units r)) ≡ Some e = sym (ap made_if found) ∙ made in cc
