-- Port maps keep their syntax.
use Rattle.std.proofs.Common.{◌≡◌, ℕ, suc, Bool, List, [], ◌∷◌, Option, Some, None, refl, sym, ap, ◌∙◌, subst}
use Rattle.vd_bytes.specs.declared.places.Place.{Place}
use Rattle.vd_bytes.specs.declared.answers.Refused.{Refused}
use Rattle.vd_forest.specs.Forest.{Forest, nothing, more, joined}
use Rattle.vd_forms.specs.declared.form.Form.{Form}
use Rattle.vd_forms.specs.declared.form.Form.TheVariants as form
use Rattle.vd_forms.specs.Forms.{actuals}
use Rattle.vd_forms.specs.Validity.{AreValid}
use Rattle.vd_regions.specs.Scopes.{declaration_at}
use Rattle.vd_trees.specs.declared.revision.Revision.{Revision}
use Rattle.vd_resolved.specs.Trees.{syntax_of}
use Rattle.vd_resolved.specs.declared.node.Resolved.{Resolved}
use Rattle.vd_overloads.specs.declared.wanted.Wanted.TheVariants as wanted
use Rattle.vd_name_rows.specs.Designs.{At, Design, Outcome}
use Rattle.vd_walks.specs.Least.{lesser}
use Rattle.vd_name_rows.specs.Noting.{formal_at}
use Rattle.vd_naming.specs.Expressions.{unresolved, mark_of}
use Rattle.vd_naming.specs.Ports.{Front, OfPort, Converted, OtherFront, front, among_ports, converted, Map, no_map, with_element, with_other, value_as, actual, placed, place_of_next, converted_type, not_back, named_front, association_node, associated_with, associated, with_tree, with_trees, named_from_here, map_of_known, port_map}
use Rattle.vd_naming_laws.proofs.Trees.{syntax_joined, joined_nothing, joined_joined}
use Rattle.vd_naming_laws.proofs.Fitting.{two_parts, AreTwo, valid_alone}
use Rattle.vd_naming_laws.proofs.Readings.{unresolved_keeps}
use Rattle.vd_naming_laws.proofs.Expressions.{IsRead, not_named, read_keeps}
use Rattle.vd_naming_laws.proofs.Steps.{IsKept, kept}
use Rattle.vd_naming_laws.proofs.Generics.{association_keeps, front_keeps}

module _ (at : At) (d : Design) where
  -- ---- what a port is given

  value_keeps : (t : Option ℕ) (f : Form) (text : List ℕ) (place : Place) (parts : Forest Form)
      → IsRead at (more f text place parts nothing) (value_as t at d (more f text place parts nothing))
  value_keeps None f text place parts = not_named at d (more f text place parts nothing)
  value_keeps (Some t) f text place parts = read_keeps at d (wanted.OfType t) refl f text place parts

  actual_keeps : (k : ℕ) (t : Option ℕ) (whole : Place) (f : Form) (text : List ℕ) (place : Place) (parts : Forest Form)
      → IsRead at (more f text place parts nothing) (actual k t at d whole f (more f text place parts nothing))
  actual_keeps k t whole form.Open text place parts = record { tree_is = unresolved_keeps (more form.Open text place parts nothing); at_is = refl }
  actual_keeps k t whole f text place parts = value_keeps t f text place parts

  -- ---- elements: a tree more behind those of a map

  abbrev Adds : Map → Forest Form → Map → Type 0
  Adds m tree n = syntax_of n.tree ≡ joined (syntax_of m.tree) tree

  element_adds : (k : ℕ) (place : Place) (tree : Forest Form) (o : Outcome) (m : Map) → IsRead at tree o → Adds m tree (with_element k place o m)
  element_adds k place tree o m x = syntax_joined m.tree o.tree ∙ ap (joined (syntax_of m.tree)) x.tree_is

  other_adds : (place : Place) (tree : Forest Form) (m : Map) → Adds m tree (with_other at d place tree m)
  other_adds place tree m = syntax_joined m.tree (unresolved tree) ∙ ap (joined (syntax_of m.tree)) (unresolved_keeps tree)

  placed_adds : (k : Option ℕ) (f : Form) (text : List ℕ) (place : Place) (parts : Forest Form) (m : Map)
      → Adds m (more f text place parts nothing) (placed k at d f place (more f text place parts nothing) m)
  placed_adds None f text place parts m = other_adds place (more f text place parts nothing) m
  placed_adds (Some k) f text place parts m =
      element_adds k place (more f text place parts nothing) (actual k (declaration_at d.scopes k).mark at d place f (more f text place parts nothing)) m
      (actual_keeps k (declaration_at d.scopes k).mark place f text place parts)

  -- ---- associations

  -- one choice in front
  module _ (entity : ℕ) (text : List ℕ) (place : Place) (no_text : text ≡ []) (c : Form) (ct : List ℕ) (cp : Place) (f : Form) (ft : List ℕ) (fp : Place) (fs : Forest Form)
      (a : Form) (text' : List ℕ) (place' : Place) (inside' : Forest Form) (m : Map) where
    abbrev choices : Forest Form
    choices = more c ct cp (more f ft fp fs nothing) (more a text' place' inside' nothing)

    abbrev value : Forest Form
    value = more a text' place' inside' nothing

    abbrev tree : Forest Form
    tree = more form.Association text place choices nothing

    with_adds : (k : ℕ) (t : Option ℕ) (inside : Forest Resolved) (first : Option Refused) → syntax_of inside ≡ more f ft fp fs nothing
        → Adds m tree (associated_with k t at d place choices value inside first m)
    with_adds k t inside first same =
        element_adds k place tree (association_node place choices inside (actual k t at d place a value) first) m
        (association_keeps at place text c ct cp (more f ft fp fs nothing) value value inside (actual k t at d place a value) first no_text same
        (actual_keeps k t place a text' place' inside'))

    associated_adds : (front : Front) → Adds m tree (associated front entity at d place choices value tree m)
    associated_adds (OfPort None) = other_adds place tree m
    associated_adds (OfPort (Some k)) = with_adds k _ (named_front k (more f ft fp fs nothing)) None (front_keeps k f ft fp fs)
    associated_adds (Converted None) = other_adds place tree m
    associated_adds (Converted (Some k)) =
        let o = converted entity at d (more f ft fp fs nothing) in
        with_adds k (converted_type (formal_at d k).mode (mark_of o.tree) (declaration_at d.scopes k).mark) o.tree
        (lesser o.first (not_back k at d (mark_of o.tree) (declaration_at d.scopes k).mark value)) (read_keeps (among_ports entity at d) d wanted.Free refl f ft fp fs).tree_is
    associated_adds OtherFront = other_adds place tree m

  -- any choices
  choices_add : (entity : ℕ) (text : List ℕ) (place : Place) → text ≡ [] → (c : Form) (ct : List ℕ) (cp : Place) (choice : Forest Form)
      (a : Form) (text' : List ℕ) (place' : Place) (inside' : Forest Form) (m : Map)
      → Adds m (more form.Association text place (more c ct cp choice (more a text' place' inside' nothing)) nothing)
      (associated (front d entity choice) entity at d place (more c ct cp choice (more a text' place' inside' nothing)) (more a text' place' inside' nothing)
      (more form.Association text place (more c ct cp choice (more a text' place' inside' nothing)) nothing) m)
  choices_add entity text place no_text c ct cp nothing a text' place' inside' m = other_adds place (more form.Association text place (more c ct cp nothing (more a text' place' inside' nothing)) nothing) m
  choices_add entity text place no_text c ct cp (more f ft fp fs nothing) a text' place' inside' m =
      associated_adds entity text place no_text c ct cp f ft fp fs a text' place' inside' m (front d entity (more f ft fp fs nothing))
  choices_add entity text place no_text c ct cp (more form.Name ft fp fs (more f' ft' fp' fs' next)) a text' place' inside' m =
      other_adds place (more form.Association text place (more c ct cp (more form.Name ft fp fs (more f' ft' fp' fs' next)) (more a text' place' inside' nothing)) nothing) m
  choices_add entity text place no_text c ct cp (more f ft fp fs (more f' ft' fp' fs' next)) a text' place' inside' m =
      other_adds place (more form.Association text place (more c ct cp (more f ft fp fs (more f' ft' fp' fs' next)) (more a text' place' inside' nothing)) nothing) m

  pair_adds : (entity n : ℕ) (text : List ℕ) (place : Place) (parts : Forest Form) (m : Map) → AreTwo (form.AssociationChoices ∷ []) actuals parts → text ≡ []
      → Adds m (more form.Association text place parts nothing) (with_tree entity at d n form.Association place parts (more form.Association text place parts nothing) m)
  pair_adds entity n text place parts m two no_text =
      subst (λ ps. Adds m (more form.Association text place ps nothing) (with_tree entity at d n form.Association place ps (more form.Association text place ps nothing) m)) (sym two.is)
      (choices_add entity text place no_text two.f two.text two.place two.inside two.g two.text' two.place' two.inside' (named_from_here m))

  -- ---- all elements

  tree_adds : (r : Revision) (keep : Bool) (entity n : ℕ) (f : Form) (text : List ℕ) (place : Place) (parts : Forest Form) (m : Map) → AreValid r keep (more f text place parts nothing)
      → Adds m (more f text place parts nothing) (with_tree entity at d n f place parts (more f text place parts nothing) m)
  tree_adds r keep entity n form.Association text place parts m v = pair_adds entity n text place parts m (two_parts (form.AssociationChoices ∷ []) actuals parts v.1) v.2
  tree_adds r keep entity n form.OthersAssociation text place parts m v = other_adds place (more form.OthersAssociation text place parts nothing) m
  tree_adds r keep entity n f text place parts m v =
      placed_adds (place_of_next m.is_named n (declaration_at d.scopes entity).parameters) f text place parts m

  trees_add : (r : Revision) (keep : Bool) (entity n : ℕ) (ts : Forest Form) (m : Map) → AreValid r keep ts → Adds m ts (with_trees entity at d n ts m)
  trees_add r keep entity n nothing m v = sym (joined_nothing (syntax_of m.tree))
  trees_add r keep entity n (more f text place parts next) m v =
      let one = with_tree entity at d n f place parts (more f text place parts nothing) m in
      trees_add r keep entity (suc n) next one v.5
      ∙ ap (λ t. joined t next) (tree_adds r keep entity n f text place parts m (valid_alone r keep f text place parts next v))
      ∙ joined_joined (syntax_of m.tree) (more f text place parts nothing) next

  -- ---- a map

  map_kept : (r : Revision) (keep : Bool) (f : Form) (text : List ℕ) (place : Place) (parts : Forest Form) → AreValid r keep (more f text place parts nothing)
      → (k : Option ℕ) → IsKept at (more f text place parts nothing) (map_of_known k at d f text place parts)
  map_kept r keep f text place parts v None = kept (unresolved_keeps (more f text place parts nothing)) refl refl refl
  map_kept r keep f text place parts v (Some k) =
      kept (ap (λ p. more f text place p nothing) (trees_add r _ k 0 parts no_map v.4)) refl refl refl

  pub port_map_kept : (r : Revision) (keep : Bool) (f : Form) (text : List ℕ) (place : Place) (parts : Forest Form) → AreValid r keep (more f text place parts nothing)
      → IsKept at (more f text place parts nothing) (port_map at d f text place parts)
  port_map_kept r keep f text place parts v = map_kept r keep f text place parts v at.named
