-- Fields that are put in front of others. No name has a dash, so that a caller can name each in `#[tactic(auto, using(..))]`.
use Rattle.std.proofs.Common.{◌≡◌, ◌≤◌, ◌++◌, List, [], ◌∷◌, refl, sym, ap, ap₂, length, reverse, ◌∙◌, ℕ}
use Rattle.std.proofs.lemmas.List.{reverse-reverse}
use Rattle.vd_bytes.specs.declared.places.Place.{Place}
use Rattle.vd_environments.specs.Environments.{Field, Indicated}
use Rattle.vd_forest.proofs.StoreLemmas.{at_more, within_more}
use Rattle.vd_forest.specs.Forest.{Forest, more}
use Rattle.vd_forest.specs.Store.{Extends, at}
use Rattle.vd_value_rules.specs.Indicated.{fields_in, indicated_in}
use Rattle.vd_value_rules.specs.declared.forms.IndicatedForm.{IndicatedForm}
use Rattle.vd_value_rules.specs.Made.{HasFields, Indicates}
use Rattle.vd_known_forms.specs.Fields.{in_front}
use Rattle.vd_meaning.specs.Declarations.{fields_named}
use Rattle.vd_resolved.specs.declared.node.Resolved.{Resolved}
use Rattle.vd_value_rules.specs.Designs.{Design}
use Rattle.vd_value_rules.specs.Knowledge.{Known, fields_defined, indicated, meaning_at, parts_at}
use Rattle.std.specs.Prelude.{Bool}
use mathlib.Core.List.{reverse_aux}

pub front_joined : (fs gs behind : List Field) → in_front (fs ++ gs) behind ≡ in_front gs (in_front fs behind)
front_joined [] gs behind = refl
front_joined (f ∷ fs) gs behind = front_joined fs gs (f ∷ behind)

front_is : (fs behind : List Field) → in_front fs behind ≡ reverse_aux fs behind
front_is [] behind = refl
front_is (f ∷ fs) behind = front_is fs (f ∷ behind)

-- in the other order they are what they were
pub turned_front : (fs gs : List Field) → gs ≡ in_front fs [] → reverse gs ≡ fs
turned_front fs gs is = ap reverse (is ∙ front_is fs []) ∙ reverse-reverse fs

-- the fields of an element, and then those of the elements behind it
pub element_in_front : (d : Design) (choosing : Bool) (k : Known) (f : Forest Resolved) (n : Resolved) (text : List ℕ) (place : Place) (parts next : Forest Resolved) (behind : List Field)
    → f ≡ more n text place parts next
    → in_front (fields_defined d choosing k next) (in_front (fields_named (meaning_at d 0 parts).texts (indicated d choosing k (parts_at 1 parts))) behind)
    ≡ in_front (fields_defined d choosing k f) behind
element_in_front d choosing k f n text place parts next behind is =
    sym (ap (λ g. in_front (fields_defined d choosing k g) behind) is
    ∙ front_joined (fields_named (meaning_at d 0 parts).texts (indicated d choosing k (parts_at 1 parts))) (fields_defined d choosing k next) behind)

-- the fields that were put in front of some, in a store that grows before and behind that
pub fields_added : (old between made now : List (Forest IndicatedForm)) (names texts : List (List ℕ)) (n behind number : ℕ) (i : Indicated)
    → Extends old between → Extends made now → behind ≤ length old → names ≡ texts → Indicates between n i → number ≤ length made
    → fields_in (at made number) ≡ in_front (fields_named names (indicated_in (at between n))) (fields_in (at between behind))
    → HasFields now number (in_front (fields_named texts i) (fields_in (at old behind)))
fields_added old between made now names texts n behind number i before after behind_in same indicates within is = record {
  within = within_more made now number after within;
  are =
      ap fields_in (at_more made now number after within) ∙ is
      ∙ ap₂ (λ ns j. in_front (fields_named ns j) (fields_in (at between behind))) same indicates.is
      ∙ ap (λ f. in_front (fields_named texts i) (fields_in f)) (at_more old between behind before behind_in);
}
