-- Elements of port maps, one after the other. No name has a dash, so that a caller can name each in `#[tactic(auto, using(..))]`.
use Rattle.std.proofs.Common.{◌++◌, ◌≡◌, ◌∙◌, ◌∷◌, List, [], ap, append_assoc, refl, subst, sym, ℕ}
use Rattle.std.proofs.lemmas.List.{append-nil}
use Rattle.std.specs.Prelude.{Option}
use Rattle.vd_bytes.specs.declared.places.Place.{Place}
use Rattle.vd_forest.specs.Forest.{Forest, more, nothing}
use Rattle.vd_forms.specs.declared.form.Form.{Form}
use Rattle.vd_forms.specs.declared.form.Form.TheVariants as form
use Rattle.vd_port_associations.specs.Associations.{AreAssociations, IsAssociation, alone}
use Rattle.vd_port_associations.specs.declared.associations.PortAssociation.{PortAssociation as WrittenAssociation}
use Rattle.vd_resolved.specs.declared.node.Resolved.{Resolved}
use Rattle.vd_value_rules.specs.Actuals.{PortAssociation, association_of, associations}
use Rattle.vd_value_rules.specs.Designs.{Design}
use Rattle.vd_value_rules.specs.Standings.{first_number, further_numbers}

pub are_more : (xs : List WrittenAssociation) (as' : List PortAssociation) (x : WrittenAssociation) (a : PortAssociation) → AreAssociations xs as' → IsAssociation x a
    → AreAssociations (xs ++ x ∷ []) (as' ++ a ∷ [])
are_more [] [] x a are is = (is, tt)
are_more [] (b ∷ bs) x a are is = absurd are
are_more (y ∷ ys) [] x a are is = absurd are
are_more (y ∷ ys) (b ∷ bs) x a are is = (are.0, are_more ys bs x a are.1 is)

-- of an element alone
alone_again : (f : Forest Resolved) → alone (alone f) ≡ alone f
alone_again nothing = refl
alone_again (more n text place parts next) = refl

as_alone : (f : Form) (d : Design) (ports : List ℕ) (port : Option ℕ) (place : Place) (whole parts : Forest Resolved) (x : WrittenAssociation)
    → IsAssociation x (association_of f d ports port place whole parts) → IsAssociation x (association_of f d ports port place (alone whole) parts)
as_alone form.Association d ports port place whole parts x is = is
as_alone form.OthersAssociation d ports port place whole parts x is = is
as_alone _ d ports port place whole parts x is = record { place = is.place; formal = is.formal; actual = alone_again whole ∙ is.actual }

-- the elements in front of a place, and those that are left
pub record AreUpTo (d : Design) (ports : List ℕ) (elements : Forest Resolved) (xs : List WrittenAssociation) (left : List ℕ) (rest : Forest Resolved) : Type 0 where
  pub done : List PortAssociation
  pub are : AreAssociations xs done
  pub all : done ++ associations d ports left rest ≡ associations d ports ports elements

pub none_yet : (d : Design) (ports : List ℕ) (elements : Forest Resolved) → AreUpTo d ports elements [] ports elements
none_yet d ports elements = record { done = []; are = tt; all = refl }

pub one_more : (d : Design) (ports : List ℕ) (elements : Forest Resolved) (xs longer : List WrittenAssociation) (x : WrittenAssociation) (left later : List ℕ)
    (rest : Forest Resolved) (n : Resolved) (text : List ℕ) (place : Place) (parts next : Forest Resolved) → rest ≡ more n text place parts next
    → longer ≡ xs ++ x ∷ [] → later ≡ further_numbers left
    → IsAssociation x (association_of n.form d ports (first_number left) place rest parts)
    → AreUpTo d ports elements xs left rest → AreUpTo d ports elements longer later next
one_more d ports elements xs longer x left later rest n text place parts next opened pushed further is up =
    let a : PortAssociation = association_of n.form d ports (first_number left) place (more n text place parts nothing) parts in
    record {
      done = up.done ++ a ∷ [];
      are = subst (λ l. AreAssociations l (up.done ++ a ∷ [])) (sym pushed) (are_more xs up.done x a up.are
          (as_alone n.form d ports (first_number left) place (more n text place parts next) parts x
          (subst (λ f. IsAssociation x (association_of n.form d ports (first_number left) place f parts)) opened is)));
      all = append_assoc up.done (a ∷ []) (associations d ports later next)
          ∙ ap (λ l. up.done ++ a ∷ associations d ports l next) further
          ∙ ap (λ f. up.done ++ associations d ports left f) (sym opened) ∙ up.all;
    }

pub none_left : (d : Design) (ports : List ℕ) (elements : Forest Resolved) (xs : List WrittenAssociation) (left : List ℕ) (rest : Forest Resolved) → rest ≡ nothing
    → AreUpTo d ports elements xs left rest → AreAssociations xs (associations d ports ports elements)
none_left d ports elements xs left rest none up =
    subst (AreAssociations xs) (sym (append-nil up.done) ∙ ap (λ f. up.done ++ associations d ports left f) (sym none) ∙ up.all) up.are
