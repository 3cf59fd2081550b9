-- Nodes that are what a part of theirs is.
use Rattle.std.proofs.Common.{◌≡◌, Bool, List, None, Option, ap, false, is_some, refl, sym, true, ◌∙◌, ℕ}
use Rattle.vd_bytes.specs.declared.places.Place.{Place}
use Rattle.vd_forest.specs.Forest.{Forest, form_of, more, nothing}
use Rattle.vd_meaning.specs.Brackets.{is_positional}
use Rattle.vd_meaning.specs.Facets.{Association, ByChoices, ForOthers, Meaning, Positional, nth}
use Rattle.vd_meaning.specs.Kinds.{Kind, NotThere, kind}
use Rattle.vd_meaning.specs.Meanings.{meaning_of, meanings}
use Rattle.vd_meaning.specs.Tables.{Table}
use Rattle.vd_resolved.specs.declared.node.Resolved.{Resolved}
use Rattle.vd_known_lengths.specs.Holding.{holding}
use Rattle.vd_known_lengths.specs.declared.operands.Holding.{Holding}
use Rattle.vd_known_lengths.specs.declared.operands.Holding.TheVariants.{First, FirstForOthers, Nothing, Own, Second}
use Rattle.vd_value_rules.specs.Standings.{is_one_element}

abbrev pub mark_by : Holding → Resolved → List Meaning → Option ℕ
mark_by Nothing n ms = None
mark_by FirstForOthers n ms = (nth 0 ms).mark
mark_by First n ms = (nth 0 ms).mark
mark_by Second n ms = (nth 1 ms).mark
mark_by Own n ms = n.mark

mark_held : (k : Kind) (t : Table) (n : Resolved) (text : List ℕ) (ms : List Meaning) → (meaning_of k t n text ms).mark ≡ mark_by (holding k) n ms
mark_held NotThere t n text ms = refl
mark_held _ t n text ms = refl

abbrev pub association_by : Holding → List Meaning → Association
association_by FirstForOthers ms = ForOthers
association_by First ms = (nth 0 ms).association
association_by Second ms = ByChoices
association_by _ ms = Positional

association_held : (k : Kind) (t : Table) (n : Resolved) (text : List ℕ) (ms : List Meaning) → (meaning_of k t n text ms).association ≡ association_by (holding k) ms
association_held NotThere t n text ms = refl
association_held _ t n text ms = refl

abbrev pub mark_at : Table → Forest Resolved → Option ℕ
mark_at t f = (nth 0 (meanings t f)).mark

abbrev pub positional_at : Table → Forest Resolved → Bool
positional_at t f = is_positional (nth 0 (meanings t f)).association

module _ (t : Table) (f : Forest Resolved) (n : Resolved) (text : List ℕ) (place : Place) (parts next : Forest Resolved) (h : Holding)
    (is : f ≡ more n text place parts next) (held : h ≡ holding (kind n.form)) where
  pub marked_by : mark_at t f ≡ mark_by h n (meanings t parts)
  marked_by = ap (mark_at t) is ∙ mark_held (kind n.form) t n text (meanings t parts) ∙ ap (λ v. mark_by v n (meanings t parts)) (sym held)

  pub positional_by : positional_at t f ≡ is_positional (association_by h (meanings t parts))
  positional_by =
      ap (positional_at t) is ∙ ap is_positional (association_held (kind n.form) t n text (meanings t parts))
      ∙ ap (λ v. is_positional (association_by v (meanings t parts))) (sym held)

one_of_two : (t : Table) (n : Resolved) (text : List ℕ) (place : Place) (parts next : Forest Resolved) → is_some (form_of next) ≡ true
    → false ≡ is_one_element (meanings t (more n text place parts next))
one_of_two t n text place parts nothing is = absurd (cc)
one_of_two t n text place parts (more n' text' place' parts' next) is = refl

one_of_one : (t : Table) (n : Resolved) (text : List ℕ) (place : Place) (parts next : Forest Resolved) → is_some (form_of next) ≡ false
    → positional_at t (more n text place parts next) ≡ is_one_element (meanings t (more n text place parts next))
one_of_one t n text place parts nothing is = refl
one_of_one t n text place parts (more n' text' place' parts' next) is = absurd (cc)

module _ (t : Table) (f : Forest Resolved) (n : Resolved) (text : List ℕ) (place : Place) (parts next : Forest Resolved)
    (is : f ≡ more n text place parts next) (b : Bool) (more_is : b ≡ is_some (form_of next)) where
  pub no_single : b ≡ true → false ≡ is_one_element (meanings t f)
  no_single others = one_of_two t n text place parts next (sym more_is ∙ others) ∙ ap (λ g. is_one_element (meanings t g)) (sym is)

  pub single : b ≡ false → positional_at t f ≡ is_one_element (meanings t f)
  single alone =
      ap (positional_at t) is ∙ one_of_one t n text place parts next (sym more_is ∙ alone) ∙ ap (λ g. is_one_element (meanings t g)) (sym is)
