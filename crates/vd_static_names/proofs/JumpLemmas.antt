-- Jumps after one another, and the tables of them.
use Rattle.std.proofs.Common.{◌≡◌, ◌≢◌, ◌+◌, ◌-◌, ◌<◌, ◌≤◌, List, ap, arith, length, refl, slice_index_or, suc, sym, ℕ, ◌∙◌}
use Rattle.vd_bytes.specs.declared.places.Place.{Place}
use Rattle.vd_forest.specs.Forest.{Forest, more, next_of, nothing, skipped}
use Rattle.vd_forest.specs.Store.{Extends, at}
use Rattle.vd_forest.proofs.ForestLemmas.{skipped_nothing, skipped_skipped}
use Rattle.vd_value_rules.proofs.FieldLemmas.{field_skipped}
use Rattle.vd_value_rules.specs.Indicated.{field_indicated, indicated_in}
use Rattle.vd_value_rules.specs.declared.forms.IndicatedForm.{IndicatedForm}
use Rattle.vd_value_rules.specs.declared.forms.IndicatedForm.TheVariants as form
use Rattle.vd_static_names.specs.Jumps.{AreJumps, IsJump, field_trees, no_jump}
use Rattle.vd_static_names.specs.declared.jumps.Jump.{Jump}

module _ (store : List (Forest IndicatedForm)) where
  -- a step and two jumps
  pub step_and_jumps : (number next : ℕ) (first second : Jump) (over : ℕ) → next < number → at store next ≡ next_of (at store number)
      → IsJump store next first → IsJump store first.to second → over ≡ first.over + second.over + 1
      → IsJump store number (record { over = over; to = second.to })
  step_and_jumps number next first second over older after one two sum = record {
    older = omega (arith, one.older, two.older);
    is =
        let more : suc (first.over + second.over) ≡ over = omega arith in
        two.is ∙ ap (skipped second.over) one.is ∙ skipped_skipped second.over first.over (at store next)
        ∙ ap (skipped (first.over + second.over)) after ∙ ap (λ n. skipped n (at store number)) more;
  }

  -- what is left of a way once a part of it is gone
  pub gone : (here there left over rest : ℕ) → at store there ≡ skipped over (at store here) → over ≤ left → rest ≡ left - over
      → skipped rest (at store there) ≡ skipped left (at store here)
  gone here there left over rest is less left_over =
      let sum : over + rest ≡ left = omega arith in
      ap (skipped rest) is ∙ skipped_skipped rest over (at store here) ∙ ap (λ n. skipped n (at store here)) sum

  -- no tree is behind none
  pub nothing_left : (here left : ℕ) → here ≡ 0 → at store here ≡ skipped left (at store here)
  nothing_left here left none = ap (at store) none ∙ sym (skipped_nothing left) ∙ ap (λ n. skipped left (at store n)) (sym none)

-- a store that grows keeps its table
pub jumps_kept : (table : List Jump) (fs gs : List (Forest IndicatedForm)) → Extends fs gs → AreJumps table fs → AreJumps table gs
jumps_kept table fs gs grown known = record {
  within = omega (arith, grown.grows, known.within);
  are = λ number within.
      let jump = slice_index_or table number no_jump in
      let is = known.are number within in
      let number_in : number ≤ length fs = omega (arith, known.within) in
      let to_in : jump.to ≤ length fs = omega (arith, is.older) in
      record {
        older = is.older;
        is = grown.keeps jump.to to_in ∙ is.is ∙ ap (skipped jump.over) (sym (grown.keeps number number_in));
      };
}

-- the field of a record that a way leads to
pub field_at : (store : List (Forest IndicatedForm)) (trees : Forest IndicatedForm) (text : List ℕ) (place : Place) (parts next : Forest IndicatedForm) (n number : ℕ)
    → trees ≡ more form.Record text place parts next → at store number ≡ skipped n parts
    → indicated_in (at store number) ≡ field_indicated n (indicated_in trees)
field_at store trees text place parts next n number opened is =
    ap indicated_in is ∙ field_skipped n parts ∙ ap (λ f. field_indicated n (indicated_in f)) (sym opened)

-- what is no record has no fields
no_fields : (n : ℕ) (node : IndicatedForm) (text : List ℕ) (place : Place) (parts next : Forest IndicatedForm) → node ≢ form.Record
    → nothing ≡ skipped n (field_trees (more node text place parts next))
no_fields n (form.Scalar s is_resolved range) text place parts next other = sym (skipped_nothing n)
no_fields n (form.Unbounded index known) text place parts next other = sym (skipped_nothing n)
no_fields n (form.Bounded index b known) text place parts next other = sym (skipped_nothing n)
no_fields n form.Record text place parts next other = absurd (other refl)
no_fields n form.Literal text place parts next other = sym (skipped_nothing n)

pub none_behind : (trees : Forest IndicatedForm) (n : ℕ) → trees ≡ nothing → nothing ≡ skipped n (field_trees trees)
none_behind trees n none = sym (skipped_nothing n) ∙ ap (λ f. skipped n (field_trees f)) (sym none)

pub none_of_other : (trees : Forest IndicatedForm) (n : ℕ) (node : IndicatedForm) (text : List ℕ) (place : Place) (parts next : Forest IndicatedForm)
    → trees ≡ more node text place parts next → node ≢ form.Record → nothing ≡ skipped n (field_trees trees)
none_of_other trees n node text place parts next opened other =
    no_fields n node text place parts next other ∙ ap (λ f. skipped n (field_trees f)) (sym opened)
