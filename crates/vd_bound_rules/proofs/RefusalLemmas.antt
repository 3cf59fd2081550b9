-- Refusals of this group, which are none of names.
use Rattle.std.proofs.Common.{◌≡◌, ◌++◌, ◌&&◌, ◌∙◌, Bool, List, None, Option, Some, [], ap, ap₂, false, if◌then◌else◌, refl, suc, sym, true, zero, ℕ}
use Rattle.std.proofs.lemmas.List.Elements.{filter-append}
use Rattle.std.specs.List.{filter}
use Rattle.vd_bound_rules.proofs.IndefiniteLemmas.{differing, differing_is, first_differs, no_more, none_differing, one_more}
use Rattle.vd_bound_rules.proofs.SortLemmas.{operands_by_sort, unconstrained_by_sort}
use Rattle.vd_bound_rules.specs.Sorts.{indication_of, number_in, operands_as, operands_in, place_in, unconstrained_at}
use Rattle.vd_bound_rules.specs.declared.sorts.Operands.{Operands}
use Rattle.vd_bound_rules.specs.declared.sorts.Operands.TheVariants as operands
use Rattle.vd_bytes.specs.declared.answers.Refused.{Refused}
use Rattle.vd_bytes.specs.declared.places.Place.{Place}
use Rattle.vd_forest.specs.Forest.{Forest, more, nothing, skipped}
use Rattle.vd_walks.proofs.LeastLaws.{least_of_append}
use Rattle.vd_walks.specs.Least.{least_of, lesser}
use Rattle.vd_meaning.specs.Names.{number_or}
use Rattle.vd_meaning.specs.Tables.{role_of}
use Rattle.vd_resolved.specs.declared.node.Resolved.{Resolved}
use Rattle.vd_value_rules.proofs.FirstLemmas.{all_others}
use Rattle.vd_value_rules.specs.Groups.{firsts_of}
use Rattle.vd_value_rules.specs.declared.firsts.Firsts.{Firsts}
use Rattle.vd_trees.specs.declared.revision.Revision.{Revision}
use Rattle.vd_value_rules.specs.Bounds.{argument_of, broken_bounds, has_no_bounds, indefinite, indefinite_arguments, is_operator_called, operands_of, unconstrained}
use Rattle.vd_value_rules.specs.Designs.{Design, is_2019}
use Rattle.vd_value_rules.specs.Judging.{refused_if}
use Rattle.vd_value_rules.specs.Rules.{is_of_names}
use Rattle.vd_value_rules.specs.Standings.{State, is_copied_here}

-- ---- none of names

abbrev HasNoNames : List Refused → Type 0
HasNoNames rs = filter is_of_names rs ≡ []

one_of_rules : (b : Bool) (place : Place) → HasNoNames (refused_if b place 410)
one_of_rules true place = refl
one_of_rules false place = refl

both_of_rules : (rs qs : List Refused) → HasNoNames rs → HasNoNames qs → HasNoNames (rs ++ qs)
both_of_rules rs qs one other = filter-append is_of_names rs qs ∙ ap₂ (λ xs ys. xs ++ ys) one other

module _ (d : Design) (s : State) where
  differing_of_rules : (count : ℕ) (f : Forest Resolved) → HasNoNames (differing count d s f)
  differing_of_rules zero f = ap (filter is_of_names) (no_more d s f)
  differing_of_rules (suc count) nothing = ap (filter is_of_names) (none_differing d s (suc count))
  differing_of_rules (suc count) (more n text place parts next) =
      ap (filter is_of_names) (one_more d s count n text place parts next)
      ∙ both_of_rules (refused_if (first_differs d s n (more n text place parts nothing) parts) place 410) (differing count d s next)
      (one_of_rules (first_differs d s n (more n text place parts nothing) parts) place) (differing_of_rules count next)

  indefinite_of_rules : (count : ℕ) (f : Forest Resolved) → HasNoNames (indefinite count d s f)
  indefinite_of_rules count f = ap (filter is_of_names) (sym (differing_is d s count f)) ∙ differing_of_rules count f

  arguments_of_rules : (f : Forest Resolved) → HasNoNames (indefinite_arguments d s f)
  arguments_of_rules nothing = refl
  arguments_of_rules (more n text place parts next) =
      both_of_rules (indefinite 1 d s (argument_of n.form (more n text place parts nothing) parts)) (indefinite_arguments d s next)
      (indefinite_of_rules 1 (argument_of n.form (more n text place parts nothing) parts)) (arguments_of_rules next)

  where_of_rules : (b : Bool) (rs : List Refused) → HasNoNames rs → HasNoNames (if b then rs else [])
  where_of_rules true rs is = is
  where_of_rules false rs is = refl

  operands_of_rules : (o : Operands) (n : Resolved) (parts : Forest Resolved) → HasNoNames (operands_as o d s n parts)
  operands_of_rules operands.FirstPart n parts = indefinite_of_rules 1 parts
  operands_of_rules operands.SecondPart n parts = indefinite_of_rules 1 (skipped 1 parts)
  operands_of_rules operands.TwoParts n parts = indefinite_of_rules 2 parts
  operands_of_rules operands.InBrackets n parts =
      where_of_rules (is_operator_called (role_of d.table n.declaration) d (number_or n.declaration)) (indefinite_arguments d s parts) (arguments_of_rules parts)
  operands_of_rules operands.NoPart n parts = refl

  unconstrained_of_rules : (o : Option ℕ) (place : Place) (parts : Forest Resolved) → HasNoNames (unconstrained_at o d s place parts)
  unconstrained_of_rules None place parts = refl
  unconstrained_of_rules (Some n) place parts = one_of_rules (has_no_bounds d s n parts) place

  bounds_of_rules : (n : Resolved) (place : Place) (parts : Forest Resolved) → HasNoNames (broken_bounds d s n place parts)
  bounds_of_rules n place parts =
      both_of_rules (unconstrained n.form d s place parts) (if is_2019 d.revision && is_copied_here s then operands_of n.form d s n parts else [])
      (ap (filter is_of_names) (unconstrained_by_sort d s n.form place parts)
      ∙ unconstrained_of_rules (number_in (indication_of n.form)) (place_in (indication_of n.form) place parts) parts)
      (where_of_rules (is_2019 d.revision && is_copied_here s) (operands_of n.form d s n parts)
      (ap (filter is_of_names) (operands_by_sort d s n.form n parts) ∙ operands_of_rules (operands_in n.form) n parts))

  -- the first of both parts
  pub bounds_found : (n : Resolved) (place : Place) (parts : Forest Resolved) (r : Revision) (copied : Bool) (a b : Option Refused)
      → r ≡ d.revision → is_copied_here s ≡ copied → a ≡ least_of (unconstrained n.form d s place parts)
      → b ≡ least_of (if is_2019 r && copied then operands_of n.form d s n parts else [])
      → record { of_names = None; of_rules = lesser a b } ≡ firsts_of (broken_bounds d s n place parts)
  bounds_found n place parts r copied a b revision is one other =
      let all = broken_bounds d s n place parts in
      let names = bounds_of_rules n place parts in
      let b' : b ≡ least_of (if is_2019 d.revision && is_copied_here s then operands_of n.form d s n parts else []) =
      other ∙ ap (λ q. least_of (if is_2019 q && copied then operands_of n.form d s n parts else [])) revision
      ∙ ap (λ c. least_of (if is_2019 d.revision && c then operands_of n.form d s n parts else [])) (sym is) in
      let both : lesser a b ≡ least_of all = ap₂ lesser one b' ∙ sym (least_of_append (unconstrained n.form d s place parts)
      (if is_2019 d.revision && is_copied_here s then operands_of n.form d s n parts else [])) in
      ap₂ (λ (x y : Option Refused). let f : Firsts = record { of_names = x; of_rules = y } in f) (sym (ap least_of names)) (both ∙ sym (ap least_of (all_others is_of_names all names)))
