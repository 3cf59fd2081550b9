-- What fits slots: numbers of parts, and forms.
use Rattle.std.proofs.Common.{◌≡◌, ℕ, Bool, true, false, ◌&&◌, ◌==◌, List, [], ◌∷◌, inl, inr, refl, sym, subst, arith}
use Rattle.std.specs.List.{list_all, list_any}
use Rattle.std.proofs.lemmas.Bool.{and_parts, or_cases, false≢true}
use Rattle.vd_bytes.specs.declared.places.Place.{Place}
use Rattle.vd_forest.specs.Forest.{Forest, nothing, more}
use Rattle.vd_trees.specs.declared.revision.Revision.{Revision}
use Rattle.vd_forms.specs.declared.form.Form.{Form}
use Rattle.vd_forms.specs.declared.form.Form.TheVariants as form
use Rattle.vd_forms.specs.Forms.{form_number, same_form, is_among, expressions}
use Rattle.vd_forms.specs.Slots.{One, slots_of}
use Rattle.vd_forms.specs.Validity.{forms_of, fits, AreValid, HasText}

number_is : (m n : ℕ) → (m == n) ≡ true → m ≡ n
number_is m n h = grind arith

-- a form of one list is one of another
pub among_within : (hs gs : List Form) (f : Form) → list_all (is_among hs) gs ≡ true → is_among gs f ≡ true → is_among hs f ≡ true
among_within hs [] f all h = absurd (false≢true h)
among_within hs (g ∷ gs) f all h =
    let both = and_parts (is_among hs g) (list_all (is_among hs) gs) all in
    elim (or_cases (same_form f g) (is_among gs f) h) [
      | inl same ↦ subst (λ n. list_any (λ k. n == form_number k) hs ≡ true) (sym (number_is (form_number f) (form_number g) same)) both.0
      | inr later ↦ among_within hs gs f both.1 later
    ]

-- no slot, no part
pub no_parts : (parts : Forest Form) → fits [] (forms_of parts) ≡ true → parts ≡ nothing
no_parts nothing h = refl
no_parts (more f text place parts next) h = absurd (false≢true h)

-- two slots, two parts
pub record AreTwo (gs hs : List Form) (parts : Forest Form) : Type 0 where
  pub f : Form
  pub text : List ℕ
  pub place : Place
  pub inside : Forest Form
  pub g : Form
  pub text' : List ℕ
  pub place' : Place
  pub inside' : Forest Form
  pub is : parts ≡ more f text place inside (more g text' place' inside' nothing)
  pub first : is_among gs f ≡ true
  pub second : is_among hs g ≡ true

pub two_parts : (gs hs : List Form) (parts : Forest Form) → fits (One gs ∷ One hs ∷ []) (forms_of parts) ≡ true → AreTwo gs hs parts
two_parts gs hs nothing h = absurd (false≢true h)
two_parts gs hs (more f text place parts nothing) h = absurd (false≢true (and_parts (is_among gs f) false h).1)
two_parts gs hs (more f text place parts (more g text' place' parts' nothing)) h =
    let a = and_parts (is_among gs f) (is_among hs g && true) h in
    record {
      f = f;
      text = text;
      place = place;
      inside = parts;
      g = g;
      text' = text';
      place' = place';
      inside' = parts';
      is = refl;
      first = a.0;
      second = (and_parts (is_among hs g) true a.1).0;
    }
two_parts gs hs (more f text place parts (more g text' place' parts' (more i text'' place'' parts'' next))) h =
    absurd (false≢true (and_parts (is_among hs g) false (and_parts (is_among gs f) (is_among hs g && false) h).1).1)

-- forms without parts
abbrev pub leaves : List Form
leaves = form.Identifier ∷ form.Absent ∷ []

pub leaf_slots : (r : Revision) (f : Form) → is_among leaves f ≡ true → slots_of r f ≡ []
leaf_slots r form.Identifier h = refl
leaf_slots r form.Absent h = refl
leaf_slots r _ h = absurd (false≢true h)

-- ---- a tree by itself

pub valid_alone : (r : Revision) (keep : Bool) (f : Form) (text : List ℕ) (place : Place) (parts next : Forest Form) → AreValid r keep (more f text place parts next)
    → AreValid r keep (more f text place parts nothing)
valid_alone r keep f text place parts next v = (v.0, v.1, v.2, v.3, v.4, tt)

pub leaf_alone : (r : Revision) (keep : Bool) (f : Form) (text : List ℕ) (place : Place) (parts next : Forest Form) → is_among leaves f ≡ true
    → AreValid r keep (more f text place parts next) → parts ≡ nothing
leaf_alone r keep f text place parts next leaf v = no_parts parts (subst (λ ss. fits ss (forms_of parts) ≡ true) (leaf_slots r f leaf) v.1)

-- ascending and descending ranges
pub record IsRange (text : List ℕ) (parts : Forest Form) : Type 0 where
  pub no_text : text ≡ []
  pub are_two : AreTwo expressions expressions parts

pub range_parts : (r : Revision) (f : Form) (text : List ℕ) (parts : Forest Form) → is_among (form.Ascending ∷ form.Descending ∷ []) f ≡ true
    → HasText r f text → fits (slots_of r f) (forms_of parts) ≡ true → IsRange text parts
range_parts r form.Ascending text parts h t s = record { no_text = t; are_two = two_parts expressions expressions parts s }
range_parts r form.Descending text parts h t s = record { no_text = t; are_two = two_parts expressions expressions parts s }
range_parts r _ text parts h t s = absurd (false≢true h)
