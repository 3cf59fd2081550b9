-- Generic maps keep their syntax.
use Rattle.std.proofs.Common.{◌≡◌, ℕ, Bool, List, [], ◌∷◌, Option, Some, None, refl, sym, ap, ◌∙◌, subst}
use Rattle.vd_bytes.specs.declared.places.Place.{Place}
use Rattle.vd_bytes.specs.declared.answers.Refused.{Refused}
use Rattle.vd_declarations.specs.declared.classes.Class.{Class}
use Rattle.vd_declarations.specs.declared.classes.Class.TheVariants as class
use Rattle.vd_forest.specs.Forest.{Forest, nothing, more, joined}
use Rattle.vd_forms.specs.declared.form.Form.{Form}
use Rattle.vd_forms.specs.declared.form.Form.TheVariants as form
use Rattle.vd_forms.specs.Forms.{actuals}
use Rattle.vd_forms.specs.Validity.{AreValid}
use Rattle.vd_regions.specs.Scopes.{declaration_at}
use Rattle.vd_trees.specs.declared.revision.Revision.{Revision}
use Rattle.vd_resolved.specs.Trees.{syntax_of}
use Rattle.vd_resolved.specs.declared.node.Resolved.{Resolved}
use Rattle.vd_visible.specs.Sights.{Sight, class_of, mark_of}
use Rattle.vd_ways.specs.Ways.{selection_name}
use Rattle.vd_overloads.specs.declared.wanted.Wanted.TheVariants as wanted
use Rattle.vd_name_rows.specs.Designs.{At, Design, Outcome}
use Rattle.vd_naming.specs.Selected.{Meant, meant_behind}
use Rattle.vd_naming.specs.Expressions.{with_mark}
use Rattle.vd_naming.specs.Statements.{alone}
use Rattle.vd_naming.specs.Associations.{generic_at, with_given, left_behind, actual_in, elements}
use Rattle.vd_naming.specs.Actuals.{Known, mark_in, head_meant, pieces_named, function_named, function_among, profile_in, declarations_meant, actual_meant, type_outcome, function_outcome, constant_outcome, outcome_for}
use Rattle.vd_naming.specs.Ports.{named_front, association_node}
use Rattle.vd_naming.specs.Generics.{element_outcome, elements_outcome, map_of, generic_map}
use Rattle.vd_naming_laws.proofs.Trees.{syntax_joined}
use Rattle.vd_naming_laws.proofs.Fitting.{no_parts, two_parts, AreTwo, valid_alone}
use Rattle.vd_naming_laws.proofs.Readings.{unresolved_keeps}
use Rattle.vd_naming_laws.proofs.Expressions.{IsRead, plain_mark, not_named, marks_keep, where_known_keeps}
use Rattle.vd_naming_laws.proofs.Steps.{IsKept, kept}

-- ---- functions as actuals

pieces_keep : (s : Sight) (k : ℕ) (m : Meant) (pieces : Forest Form) → syntax_of (pieces_named s k m pieces) ≡ pieces
pieces_keep s k m nothing = refl
pieces_keep s k m (more f text place parts nothing) = ap (λ p. more f text place p nothing) (unresolved_keeps parts)
pieces_keep s k m (more f text place parts (more f' text' place' parts' next)) =
    λ i. more f text place (unresolved_keeps parts i) (pieces_keep s k (meant_behind s m (selection_name parts')) (more f' text' place' parts' next) i)

function_keeps : (r : Revision) (keep : Bool) (s : Sight) (k : Option ℕ) (f : Form) (text : List ℕ) (place : Place) (parts : Forest Form)
    → AreValid r keep (more f text place parts nothing) → syntax_of (function_named s k (more f text place parts nothing)) ≡ more f text place parts nothing
function_keeps r keep s None f text place parts v = unresolved_keeps (more f text place parts nothing)
function_keeps r keep s (Some k) form.Quoted text place parts v = ap (λ p. more form.Quoted text place p nothing) (sym (no_parts parts v.1))
function_keeps r keep s (Some k) form.Name text place parts v = ap (λ p. more form.Name text place p nothing) (pieces_keep s k (head_meant s parts) parts)
function_keeps r keep s (Some k) f text place parts v = unresolved_keeps (more f text place parts nothing)

-- ---- the element of a generic

-- a node for an association: the choices with another inside, and an actual
pub association_keeps : (at : At) (place : Place) (text : List ℕ) (c : Form) (ct : List ℕ) (cp : Place) (choice next actual : Forest Form) (inside : Forest Resolved) (o : Outcome)
    (first : Option Refused) → text ≡ [] → syntax_of inside ≡ choice → IsRead at actual o
    → IsRead at (more form.Association text place (more c ct cp choice actual) nothing) (association_node place (more c ct cp choice next) inside o first)
association_keeps at place text c ct cp choice next actual inside o first no_text same x =
    record {
      tree_is = λ i. more form.Association (sym no_text i) place (more c ct cp (same i) (x.tree_is i)) nothing;
      at_is = x.at_is;
    }

-- the name in front
pub front_keeps : (k : ℕ) (f : Form) (text : List ℕ) (place : Place) (parts : Forest Form)
    → syntax_of (named_front k (more f text place parts nothing)) ≡ more f text place parts nothing
front_keeps k f text place parts = ap (λ p. more f text place p nothing) (unresolved_keeps parts)

module _ (at : At) (d : Design) (k : Known) where
  type_keeps : (place : Place) (f : Form) (text : List ℕ) (place' : Place) (parts : Forest Form)
      → IsRead at (more f text place' parts nothing) (type_outcome at d place (more f text place' parts nothing))
  type_keeps place f text place' parts = record { tree_is = marks_keep at d f text place' parts; at_is = refl }

  module _ (r : Revision) (keep : Bool) (g : ℕ) (place : Place) where
    constant_keeps : (f : Form) (text : List ℕ) (place' : Place) (parts : Forest Form) → AreValid r keep (more f text place' parts nothing)
        → IsRead at (more f text place' parts nothing) (constant_outcome at d k g place (more f text place' parts nothing))
    constant_keeps f text place' parts v =
        let t = mark_in k (mark_of k.sight g) in
        let x = where_known_keeps at d r keep (with_mark wanted.OfType t) (plain_mark wanted.OfType (λ t. refl) t) f text place' parts v in
        record { tree_is = x.tree_is; at_is = x.at_is }

    function_outcome_keeps : (f : Form) (text : List ℕ) (place' : Place) (parts : Forest Form) → AreValid r keep (more f text place' parts nothing)
        → IsRead at (more f text place' parts nothing) (function_outcome at d k g place (more f text place' parts nothing))
    function_outcome_keeps f text place' parts v =
        record {
          tree_is = function_keeps r keep k.sight
              (function_among k.sight (profile_in k g) (declarations_meant (actual_meant k.sight (more f text place' parts nothing)))) f text place' parts v;
          at_is = refl;
        }

    pub outcome_keeps : (c : Class) (f : Form) (text : List ℕ) (place' : Place) (parts : Forest Form) → AreValid r keep (more f text place' parts nothing)
        → IsRead at (more f text place' parts nothing) (outcome_for c at d k g place (more f text place' parts nothing))
    outcome_keeps class.GenericType form.Open text place' parts v = not_named at d (more form.Open text place' parts nothing)
    outcome_keeps class.GenericType f text place' parts v = type_keeps place f text place' parts
    outcome_keeps class.GenericFunction form.Open text place' parts v = not_named at d (more form.Open text place' parts nothing)
    outcome_keeps class.GenericFunction f text place' parts v = function_outcome_keeps f text place' parts v
    outcome_keeps _ form.Open text place' parts v = not_named at d (more form.Open text place' parts nothing)
    outcome_keeps _ f text place' parts v = constant_keeps f text place' parts v

  -- ---- elements

  module _ (r : Revision) (keep : Bool) where
    -- an association of one choice
    named_keeps : (g : Option ℕ) (text : List ℕ) (place : Place) (c : Form) (ct : List ℕ) (cp : Place) (f : Form) (ft : List ℕ) (fp : Place) (fs : Forest Form)
        (a : Form) (at' : List ℕ) (ap' : Place) (as' : Forest Form) → text ≡ [] → AreValid r keep (more a at' ap' as' nothing)
        → IsRead at (more form.Association text place (more c ct cp (more f ft fp fs nothing) (more a at' ap' as' nothing)) nothing)
        (element_outcome g at d k (more a at' ap' as' nothing) form.Association text place (more c ct cp (more f ft fp fs nothing) (more a at' ap' as' nothing)))
    named_keeps None text place c ct cp f ft fp fs a at' ap' as' no_text v =
        record { tree_is = unresolved_keeps (more form.Association text place (more c ct cp (more f ft fp fs nothing) (more a at' ap' as' nothing)) nothing); at_is = refl }
    named_keeps (Some g) text place c ct cp f ft fp fs a at' ap' as' no_text v =
        association_keeps at place text c ct cp (more f ft fp fs nothing) (more a at' ap' as' nothing) (more a at' ap' as' nothing) (named_front g (more f ft fp fs nothing))
        (outcome_for (class_of k.sight g) at d k g place (more a at' ap' as' nothing)) None no_text (front_keeps g f ft fp fs)
        (outcome_keeps r keep g place (class_of k.sight g) a at' ap' as' v)

  unnamed_keeps : (actual : Forest Form) (f : Form) (text : List ℕ) (place : Place) (parts : Forest Form)
      → IsRead at (more f text place parts nothing) (element_outcome None at d k actual f text place parts)
  unnamed_keeps actual f text place parts = record { tree_is = unresolved_keeps (more f text place parts nothing); at_is = refl }

  module _ (r : Revision) (keep : Bool) (n : ℕ) (left given : List ℕ) where
    -- what an element comes to, by what is known of it
    abbrev Element : Form → List ℕ → Place → Forest Form → Outcome
    Element f text place parts = element_outcome (generic_at d n left given f parts) at d k (actual_in f text place parts) f text place parts

    choice_keeps : (text : List ℕ) (place : Place) (c : Form) (ct : List ℕ) (cp : Place) (choice : Forest Form) (a : Form) (at' : List ℕ) (ap' : Place) (as' : Forest Form)
        → text ≡ [] → AreValid r keep (more a at' ap' as' nothing)
        → IsRead at (more form.Association text place (more c ct cp choice (more a at' ap' as' nothing)) nothing)
        (Element form.Association text place (more c ct cp choice (more a at' ap' as' nothing)))
    choice_keeps text place c ct cp nothing a at' ap' as' no_text v =
        unnamed_keeps (more a at' ap' as' nothing) form.Association text place (more c ct cp nothing (more a at' ap' as' nothing))
    choice_keeps text place c ct cp (more f ft fp fs nothing) a at' ap' as' no_text v =
        named_keeps r keep (generic_at d n left given form.Association (more c ct cp (more f ft fp fs nothing) (more a at' ap' as' nothing)))
        text place c ct cp f ft fp fs a at' ap' as' no_text v
    choice_keeps text place c ct cp (more f ft fp fs (more f' ft' fp' fs' next)) a at' ap' as' no_text v =
        unnamed_keeps (more a at' ap' as' nothing) form.Association text place (more c ct cp (more f ft fp fs (more f' ft' fp' fs' next)) (more a at' ap' as' nothing))

    pair_keeps : (text : List ℕ) (place : Place) (parts : Forest Form) → AreTwo (form.AssociationChoices ∷ []) actuals parts → text ≡ [] → AreValid r keep parts
        → IsRead at (more form.Association text place parts nothing) (Element form.Association text place parts)
    pair_keeps text place parts two no_text v =
        let within : AreValid r keep (more two.f two.text two.place two.inside (more two.g two.text' two.place' two.inside' nothing)) = subst (AreValid r keep) two.is v in
        subst (λ ps. IsRead at (more form.Association text place ps nothing) (Element form.Association text place ps)) (sym two.is)
        (choice_keeps text place two.f two.text two.place two.inside two.g two.text' two.place' two.inside' no_text within.5)

given_or : (P : Option ℕ → Type 0) → P None → ((n : ℕ) → P (Some n)) → (g : Option ℕ) → P g
given_or P none some None = none
given_or P none some (Some n) = some n

module _ (at : At) (d : Design) (k : Known) (r : Revision) (keep : Bool) (n : ℕ) where
  element_keeps : (left given : List ℕ) (f : Form) (text : List ℕ) (place : Place) (parts : Forest Form) → AreValid r keep (more f text place parts nothing)
      → IsRead at (more f text place parts nothing) (Element at d k r keep n left given f text place parts)
  element_keeps left given form.Association text place parts v =
      pair_keeps at d k r _ n left given text place parts (two_parts (form.AssociationChoices ∷ []) actuals parts v.1) v.2 v.4
  element_keeps left given form.OthersAssociation text place parts v =
      unnamed_keeps at d k (actual_in form.OthersAssociation text place parts) form.OthersAssociation text place parts
  element_keeps left given f text place parts v =
      given_or (λ g. IsRead at (more f text place parts nothing) (element_outcome g at d k (alone f text place parts) f text place parts))
      (unnamed_keeps at d k (alone f text place parts) f text place parts)
      (λ g. outcome_keeps at d k r keep g place (class_of k.sight g) f text place parts v)
      (generic_at d n left given f parts)

  elements_keep : (left given : List ℕ) (ts : Forest Form) → AreValid r keep ts → IsRead at ts (elements_outcome at d k (elements d n left given ts) ts)
  elements_keep left given nothing v = record { tree_is = refl; at_is = refl }
  elements_keep left given (more f text place parts next) v =
      let one = element_keeps left given f text place parts (valid_alone r keep f text place parts next v) in
      let g = generic_at d n left given f parts in
      let others = elements_keep (left_behind f left) (with_given g given) next v.5 in
      let o = Element at d k r keep n left given f text place parts in
      let p = elements_outcome at d k (elements d n (left_behind f left) (with_given g given) next) next in
      record { tree_is = syntax_joined o.tree p.tree ∙ (λ i. joined (one.tree_is i) (others.tree_is i)); at_is = one.at_is }

-- ---- a map

module _ (at : At) (d : Design) (r : Revision) (keep : Bool) (f : Form) (text : List ℕ) (place : Place) (parts : Forest Form)
    (v : AreValid r keep (more f text place parts nothing)) where
  map_kept : (n : Option ℕ) → IsKept at (more f text place parts nothing) (map_of n at d f text place parts)
  map_kept None = kept (unresolved_keeps (more f text place parts nothing)) refl refl refl
  map_kept (Some n) =
      let x = elements_keep at d _ r _ n (declaration_at d.scopes n).generics [] parts v.4 in
      kept (ap (λ p. more f text place p nothing) x.tree_is) (ap (λ a. a.revision) x.at_is) (ap (λ a. a.steps) x.at_is) (ap (λ a. a.rest) x.at_is)

  pub generic_map_kept : IsKept at (more f text place parts nothing) (generic_map at d f text place parts)
  generic_map_kept = map_kept at.named
