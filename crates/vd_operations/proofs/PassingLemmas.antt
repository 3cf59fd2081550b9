-- What a node means by what it takes over. No name has a dash, so that a caller can name each in `#[tactic(auto, using(..))]`.
use Rattle.std.proofs.Common.{◌≡◌, ◌≤◌, ℕ, zero, suc, Bool, true, false, List, [], map, Option, Some, None, is_some, refl, sym, ap, ap₂, ◌∙◌, arith}
use Rattle.vd_operations.specs.declared.passing.Passing.{Passing}
use Rattle.vd_operations.specs.declared.passing.Passing.TheVariants.{Nothing, First, OpenFirst, Second, Last, Choices, Map, Open}
use Rattle.vd_operations.specs.Passing.{passing, first_named, last_tree}
use Rattle.vd_bytes.specs.declared.places.Place.{Place}
use Rattle.vd_forest.specs.Forest.{Forest, nothing, more, skipped, size}
use Rattle.vd_meaning.specs.Brackets.{choice_of, is_positional, or_else}
use Rattle.vd_meaning.specs.Facets.{Meaning, nth, last_of, Association, Positional, ByChoices, ForOthers, Choice, MapElement}
use Rattle.vd_meaning.specs.Kinds.{Kind, kind, NotThere}
use Rattle.vd_meaning.specs.Meanings.{formal_named, meaning_of, map_element, meanings}
use Rattle.vd_meaning.specs.Tables.{Table}
use Rattle.vd_resolved.specs.declared.node.Resolved.{Resolved}

abbrev pub declaration_by : Passing → Resolved → List Meaning → Option ℕ
declaration_by Nothing n ms = None
declaration_by First n ms = (nth 0 ms).declaration
declaration_by OpenFirst n ms = (nth 0 ms).declaration
declaration_by Second n ms = (nth 1 ms).declaration
declaration_by Last n ms = or_else n.declaration (last_of ms).declaration
declaration_by _ n ms = n.declaration

pub declaration_passed : (k : Kind) (t : Table) (n : Resolved) (text : List ℕ) (ms : List Meaning) → (meaning_of k t n text ms).declaration ≡ declaration_by (passing k) n ms
declaration_passed NotThere t n text ms = refl
declaration_passed _ t n text ms = refl

abbrev pub elements_by : Passing → List Meaning → List MapElement
elements_by First ms = (nth 0 ms).elements
elements_by OpenFirst ms = (nth 0 ms).elements
elements_by Second ms = (nth 1 ms).elements
elements_by Map ms = map map_element ms
elements_by _ ms = []

elements_passed : (k : Kind) (t : Table) (n : Resolved) (text : List ℕ) (ms : List Meaning) → (meaning_of k t n text ms).elements ≡ elements_by (passing k) ms
elements_passed NotThere t n text ms = refl
elements_passed _ t n text ms = refl

abbrev pub present_by : Passing → List Meaning → Bool
present_by Nothing ms = false
present_by First ms = (nth 0 ms).is_present
present_by OpenFirst ms = (nth 0 ms).is_present
present_by Second ms = (nth 1 ms).is_present
present_by _ ms = true

pub present_passed : (k : Kind) (t : Table) (n : Resolved) (text : List ℕ) (ms : List Meaning) → (meaning_of k t n text ms).is_present ≡ present_by (passing k) ms
present_passed NotThere t n text ms = refl
present_passed _ t n text ms = refl

abbrev pub open_by : Passing → List Meaning → Bool
open_by First ms = (nth 0 ms).is_open
open_by OpenFirst ms = true
open_by Second ms = (nth 1 ms).is_open
open_by Open ms = true
open_by _ ms = false

open_passed : (k : Kind) (t : Table) (n : Resolved) (text : List ℕ) (ms : List Meaning) → (meaning_of k t n text ms).is_open ≡ open_by (passing k) ms
open_passed NotThere t n text ms = refl
open_passed _ t n text ms = refl

abbrev pub choices_by : Passing → List Meaning → List Choice
choices_by First ms = (nth 0 ms).choices
choices_by OpenFirst ms = (nth 0 ms).choices
choices_by Second ms = (nth 0 ms).choices
choices_by Choices ms = map choice_of ms
choices_by _ ms = []

choices_passed : (k : Kind) (t : Table) (n : Resolved) (text : List ℕ) (ms : List Meaning) → (meaning_of k t n text ms).choices ≡ choices_by (passing k) ms
choices_passed NotThere t n text ms = refl
choices_passed _ t n text ms = refl

abbrev pub association_by : Passing → List Meaning → Association
association_by First ms = ForOthers
association_by OpenFirst ms = (nth 0 ms).association
association_by Second ms = ByChoices
association_by _ ms = Positional

association_passed : (k : Kind) (t : Table) (n : Resolved) (text : List ℕ) (ms : List Meaning) → (meaning_of k t n text ms).association ≡ association_by (passing k) ms
association_passed NotThere t n text ms = refl
association_passed _ t n text ms = refl

-- ---- the first tree of a forest, and others

nth_nothing : (k : ℕ) (t : Table) → nth k (meanings t nothing) ≡ nth 0 (meanings t nothing)
nth_nothing zero t = refl
nth_nothing (suc k) t = refl

abbrev no_trees : Forest Resolved
no_trees = nothing

skipped_nothing : (k : ℕ) → skipped k no_trees ≡ no_trees
skipped_nothing zero = refl
skipped_nothing (suc k) = skipped_nothing k

-- the tree with a number is the first of those that are left behind others
pub nth_skipped : (k : ℕ) (t : Table) (f : Forest Resolved) → nth k (meanings t f) ≡ nth 0 (meanings t (skipped k f))
nth_skipped zero t f = refl
nth_skipped (suc k) t nothing = ap (λ f. nth 0 (meanings t f)) (sym (skipped_nothing k))
nth_skipped (suc k) t (more n text place parts next) = nth_skipped k t next

pub last_is : (t : Table) (f : Forest Resolved) → last_of (meanings t f) ≡ nth 0 (meanings t (last_tree f))
last_is t nothing = refl
last_is t (more n text place parts nothing) = refl
last_is t (more n text place parts (more n' text' place' parts' next)) = last_is t (more n' text' place' parts' next)

pub skipped_size : (k : ℕ) (f : Forest Resolved) → size (skipped k f) ≤ size f
skipped_size zero f = omega arith
skipped_size (suc k) nothing = skipped_size k nothing
skipped_size (suc k) (more n text place parts next) = omega (arith, skipped_size k next)

pub last_size : (f : Forest Resolved) → size (last_tree f) ≤ size f
last_size nothing = omega arith
last_size (more n text place parts nothing) = omega arith
last_size (more n text place parts (more n' text' place' parts' next)) = omega (arith, last_size (more n' text' place' parts' next))

-- ---- facets of the first tree

abbrev pub declared_at : Table → Forest Resolved → Option ℕ
declared_at t f = (nth 0 (meanings t f)).declaration

abbrev pub elements_at : Table → Forest Resolved → List MapElement
elements_at t f = (nth 0 (meanings t f)).elements

abbrev pub present_at : Table → Forest Resolved → Bool
present_at t f = (nth 0 (meanings t f)).is_present

abbrev pub open_at : Table → Forest Resolved → Bool
open_at t f = (nth 0 (meanings t f)).is_open

abbrev pub named_at : Table → Forest Resolved → Option ℕ
named_at t f = first_named (nth 0 (meanings t f)).choices

abbrev pub formal_at : Table → Forest Resolved → Option ℕ
formal_at t f = formal_named (nth 0 (meanings t f)).association (nth 0 (meanings t f)).choices

abbrev pub positional_at : Table → Forest Resolved → Bool
positional_at t f = is_positional (nth 0 (meanings t f)).association

module _ (t : Table) (f : Forest Resolved) (n : Resolved) (text : List ℕ) (place : Place) (parts next : Forest Resolved) (p : Passing)
    (is : f ≡ more n text place parts next) (passed : p ≡ passing (kind n.form)) where
  pub declared_by : declared_at t f ≡ declaration_by p n (meanings t parts)
  declared_by =
      ap (declared_at t) is ∙ declaration_passed (kind n.form) t n text (meanings t parts) ∙ ap (λ v. declaration_by v n (meanings t parts)) (sym passed)

  pub listed_by : elements_at t f ≡ elements_by p (meanings t parts)
  listed_by = ap (elements_at t) is ∙ elements_passed (kind n.form) t n text (meanings t parts) ∙ ap (λ v. elements_by v (meanings t parts)) (sym passed)

  pub there_by : present_at t f ≡ present_by p (meanings t parts)
  there_by = ap (present_at t) is ∙ present_passed (kind n.form) t n text (meanings t parts) ∙ ap (λ v. present_by v (meanings t parts)) (sym passed)

  pub opened_by : open_at t f ≡ open_by p (meanings t parts)
  opened_by = ap (open_at t) is ∙ open_passed (kind n.form) t n text (meanings t parts) ∙ ap (λ v. open_by v (meanings t parts)) (sym passed)

  pub named_by : named_at t f ≡ first_named (choices_by p (meanings t parts))
  named_by =
      ap (named_at t) is ∙ ap first_named (choices_passed (kind n.form) t n text (meanings t parts)) ∙ ap (λ v. first_named (choices_by v (meanings t parts))) (sym passed)

  pub formal_by : formal_at t f ≡ formal_named (association_by p (meanings t parts)) (choices_by p (meanings t parts))
  formal_by =
      ap (formal_at t) is
      ∙ ap₂ formal_named (association_passed (kind n.form) t n text (meanings t parts)) (choices_passed (kind n.form) t n text (meanings t parts))
      ∙ ap (λ v. formal_named (association_by v (meanings t parts)) (choices_by v (meanings t parts))) (sym passed)

  pub placed_by : positional_at t f ≡ is_positional (association_by p (meanings t parts))
  placed_by =
      ap (positional_at t) is ∙ ap is_positional (association_passed (kind n.form) t n text (meanings t parts))
      ∙ ap (λ v. is_positional (association_by v (meanings t parts))) (sym passed)

  -- a mark that names nothing itself
  pub declared_last : p ≡ Last → is_some n.declaration ≡ false → declared_at t (last_tree parts) ≡ declared_at t f
  declared_last last none =
      ap (λ m. m.declaration) (sym (last_is t parts)) ∙ sym (or_last n.declaration (last_of (meanings t parts)).declaration none)
      ∙ sym (declared_by ∙ ap (λ v. declaration_by v n (meanings t parts)) last)
    where
      or_last : (own other : Option ℕ) → is_some own ≡ false → or_else own other ≡ other
      or_last None other none = refl
      or_last (Some n) other none = let no : true ≡ false = none in cc

-- what the first of some choices names is what the first tree declares
pub named_choices : (t : Table) (parts : Forest Resolved) → first_named (map choice_of (meanings t parts)) ≡ declared_at t parts
named_choices t nothing = refl
named_choices t (more n text place parts next) = refl
