-- Subtype indications by their mark and their constraint.
use Rattle.std.proofs.Common.{◌≡◌, Bool, List, false, subst, sym, true, ap, ◌&&◌, if◌then◌else◌, ℕ, ◌∙◌}
use Rattle.std.specs.Prelude.{Err, IfOk, None, Ok, Option, Result, Some}
use Rattle.vd_environments.specs.Environments.{Env, Indicated}
use Rattle.vd_forest.specs.Forest.{Forest}
use Rattle.vd_forest.specs.Store.{at}
use Rattle.vd_value_rules.specs.Indicated.{indicated_in, static_of}
use Rattle.vd_value_rules.specs.declared.forms.IndicatedForm.{IndicatedForm}
use Rattle.vd_value_rules.proofs.FoundLemmas.{constrained_by_found}
use Rattle.vd_value_rules.specs.Found.{found}
use Rattle.vd_value_rules.specs.Made.{Indicates, narrowed_for}
use Rattle.vd_known_designs.specs.Designs.{AreIndicated}
use Rattle.vd_known_designs.specs.declared.indications.TwoSubtypes.{TwoSubtypes}
use Rattle.vd_known_indications.specs.Constraints.{IsConstraint, IsConstraintIn}
use Rattle.vd_known_indications.specs.declared.indications.Constraint.{Constraint}
use Rattle.vd_meaning.specs.Facets.{Meaning}
use Rattle.vd_resolved.specs.declared.node.Resolved.{Resolved}
use Rattle.vd_value_rules.specs.Designs.{Design}
use Rattle.vd_value_rules.specs.Knowledge.{Known, TwoIndicated, at_mark, early_range, indicated, indicated_twice, is_resolved, meaning_at, seen, widened, with_constraint}

narrowed_is : (choosing : Bool) (i : Indicated) (m : Meaning) (e : Env) (x : Constraint) → IsConstraint e x m
    → narrowed_for choosing x.range (static_of x.known) i ≡ with_constraint choosing m e i
narrowed_is choosing i m e x is =
    ap (λ r. narrowed_for choosing r (static_of x.known) i) is.range
    ∙ ap (λ s. narrowed_for choosing (found (early_range m e)) s i) is.known
    ∙ ap (λ y. if choosing && is_resolved i.make then widened i else y) (sym (constrained_by_found m e i))

-- a subtype by the mark of an indication
abbrev pub by_mark : Option ℕ → Known → TwoIndicated
by_mark mark k = record { own = at_mark mark k.env; choosing = at_mark mark k.choosing }

module _ (d : Design) (k : Known) (parts : Forest Resolved) where
  with_one : (choosing : Bool) → (meaning_at d 1 parts).is_present ≡ true
      → indicated d choosing k parts ≡ with_constraint choosing (meaning_at d 1 parts) k.env (at_mark (meaning_at d 0 parts).declaration (seen choosing k))
  with_one choosing is =
      ap (λ b. if b then with_constraint choosing (meaning_at d 1 parts) k.env (at_mark (meaning_at d 0 parts).declaration (seen choosing k))
      else at_mark (meaning_at d 0 parts).declaration (seen choosing k)) is

  without : (choosing : Bool) → (meaning_at d 1 parts).is_present ≡ false → indicated d choosing k parts ≡ at_mark (meaning_at d 0 parts).declaration (seen choosing k)
  without choosing is =
      ap (λ b. if b then with_constraint choosing (meaning_at d 1 parts) k.env (at_mark (meaning_at d 0 parts).declaration (seen choosing k))
      else at_mark (meaning_at d 0 parts).declaration (seen choosing k)) is

  module _ (fs gs : List (Forest IndicatedForm)) where
    one_narrowed : (choosing : Bool) (of made : ℕ) (mark : Option ℕ) (x : Constraint) → mark ≡ (meaning_at d 0 parts).declaration
        → Indicates fs of (at_mark mark (seen choosing k)) → IsConstraint k.env x (meaning_at d 1 parts)
        → Indicates gs made (narrowed_for choosing x.range (static_of x.known) (indicated_in (at fs of))) → Indicates gs made (indicated d choosing k parts)
    one_narrowed choosing of made mark x named marks is narrowed = record {
      within = narrowed.within;
      is = narrowed.is ∙ ap (λ i. narrowed_for choosing x.range (static_of x.known) i) (marks.is ∙ ap (λ m. at_mark m (seen choosing k)) named)
          ∙ narrowed_is choosing (at_mark (meaning_at d 0 parts).declaration (seen choosing k)) (meaning_at d 1 parts) k.env x is ∙ sym (with_one choosing is.present);
    }

    two_narrowed : (of made : TwoSubtypes) (mark : Option ℕ) (x : Constraint) → mark ≡ (meaning_at d 0 parts).declaration
        → AreIndicated fs of (by_mark mark k) → IsConstraint k.env x (meaning_at d 1 parts)
        → AreIndicated gs made (record {
          own = narrowed_for false x.range (static_of x.known) (indicated_in (at fs of.own));
          choosing = narrowed_for true x.range (static_of x.known) (indicated_in (at fs of.choosing));
        })
        → AreIndicated gs made (indicated_twice d k parts)
    two_narrowed of made mark x named marks is narrowed = record {
      own = one_narrowed false of.own made.own mark x named marks.own is narrowed.own;
      choosing = one_narrowed true of.choosing made.choosing mark x named marks.choosing is narrowed.choosing;
    }

    pub twice_narrowed : {E : Type 0} (of : TwoSubtypes) (mark : Option ℕ) (c : Option Constraint) (x : Constraint) (r : Result TwoSubtypes E)
        → mark ≡ (meaning_at d 0 parts).declaration → AreIndicated fs of (by_mark mark k) → c ≡ Some x → IsConstraintIn k.env c (meaning_at d 1 parts)
        → IfOk r (λ made. AreIndicated gs made (record {
          own = narrowed_for false x.range (static_of x.known) (indicated_in (at fs of.own));
          choosing = narrowed_for true x.range (static_of x.known) (indicated_in (at fs of.choosing));
        }))
        → IfOk r (λ made. AreIndicated gs made (indicated_twice d k parts))
    twice_narrowed of mark c x (Ok made) named marks found is narrowed =
        two_narrowed of made mark x named marks (subst (λ o. IsConstraintIn k.env o (meaning_at d 1 parts)) found is) narrowed
    twice_narrowed of mark c x (Err e) named marks found is narrowed = tt

  one_marked : (fs : List (Forest IndicatedForm)) (choosing : Bool) (of : ℕ) (mark : Option ℕ) → mark ≡ (meaning_at d 0 parts).declaration
      → Indicates fs of (at_mark mark (seen choosing k)) → (meaning_at d 1 parts).is_present ≡ false → Indicates fs of (indicated d choosing k parts)
  one_marked fs choosing of mark named marks absent = record {
    within = marks.within;
    is = marks.is ∙ ap (λ m. at_mark m (seen choosing k)) named ∙ sym (without choosing absent);
  }

  pub twice_marked : (fs : List (Forest IndicatedForm)) (of : TwoSubtypes) (mark : Option ℕ) (c : Option Constraint)
      → mark ≡ (meaning_at d 0 parts).declaration → AreIndicated fs of (by_mark mark k) → c ≡ None → IsConstraintIn k.env c (meaning_at d 1 parts)
      → AreIndicated fs of (indicated_twice d k parts)
  twice_marked fs of mark c named marks none is =
      let absent = subst (λ o. IsConstraintIn k.env o (meaning_at d 1 parts)) none is in record {
        own = one_marked fs false of.own mark named marks.own absent;
        choosing = one_marked fs true of.choosing mark named marks.choosing absent;
      }
