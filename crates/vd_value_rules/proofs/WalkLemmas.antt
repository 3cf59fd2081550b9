-- What judges of the same walk break: the sum of two, those of one kind, and judges whose states go along with one another. No name has
-- a dash, so that a caller can name each in `#[tactic(auto, using(..))]`.
use Rattle.std.proofs.Common.{◌≡◌, ℕ, Bool, List, [], ◌++◌, Option, None, refl, sym, ap, ap₂, ◌∙◌}
use Rattle.std.specs.List.{filter}
use Rattle.std.proofs.lemmas.List.Elements.{filter-append}
use Rattle.vd_bytes.specs.declared.answers.Refused.{Refused}
use Rattle.vd_bytes.specs.declared.places.Place.{Place}
use Rattle.vd_forest.specs.Forest.{Forest, nothing, more}
use Rattle.vd_walks.specs.Least.{Judge, lesser, least_of, least, all_broken}
use Rattle.vd_walks.proofs.LeastLaws.{least_of_all}
use Rattle.vd_resolved.specs.Trees.{ResolvedTree}
use Rattle.vd_resolved.specs.declared.node.Resolved.{Resolved}
use Rattle.vd_trees.specs.declared.revision.Revision.{Revision}
use Rattle.vd_value_rules.specs.Designs.{Design, design_of}
use Rattle.vd_value_rules.specs.Rules.{is_of_names}
use Rattle.vd_value_rules.specs.Standings.{State, beginning}
use Rattle.vd_value_rules.specs.declared.firsts.Firsts.{Firsts}
use Rattle.vd_value_rules.specs.Groups.{Breaking, is_of_rules, judge_by, firsts_by}
use Rattle.vd_value_rules.proofs.FirstLemmas.{first_of_kind, first_of_both, lesser_crossed, all_others, none_others}

-- ---- of one kind alone

-- the same judge, for refusals of one kind
abbrev pub filtered : {F S : Type 0} → (Refused → Bool) → Judge F S → Judge F S
filtered p judge = record {
  broken = λ s n text place parts. filter p (judge.broken s n text place parts);
  down = judge.down;
  along = judge.along;
}

module _ {F S : Type 0} (p : Refused → Bool) (judge : Judge F S) where
  pub all_filtered : (s : S) (f : Forest F) → all_broken (filtered p judge) s f ≡ filter p (all_broken judge s f)
  all_filtered s nothing = refl
  all_filtered s (more n text place parts next) =
      let here = judge.broken s n text place parts in
      let inside = all_broken judge (judge.down s n text place parts) parts in
      let after = all_broken judge (judge.along s n text place parts) next in
      ap₂ (λ xs ys. filter p here ++ (xs ++ ys)) (all_filtered (judge.down s n text place parts) parts) (all_filtered (judge.along s n text place parts) next)
      ∙ sym (filter-append p here (inside ++ after) ∙ ap (λ l. filter p here ++ l) (filter-append p inside after))

  -- the first refusal of one kind is what a walk that asks for that kind finds
  pub first_is_least : (s : S) (f : Forest F) → least_of (filter p (all_broken judge s f)) ≡ least (filtered p judge) s f
  first_is_least s f = ap least_of (sym (all_filtered s f)) ∙ sym (least_of_all (filtered p judge) s f)

  -- where no node breaks rules of a kind, nor does a forest
  pub none_of_kind : ((s : S) (n : F) (text : List ℕ) (place : Place) (parts : Forest F) → filter p (judge.broken s n text place parts) ≡ [])
      → (s : S) (f : Forest F) → filter p (all_broken judge s f) ≡ []
  none_of_kind none s nothing = refl
  none_of_kind none s (more n text place parts next) =
      let here = judge.broken s n text place parts in
      let inside = all_broken judge (judge.down s n text place parts) parts in
      let after = all_broken judge (judge.along s n text place parts) next in
      filter-append p here (inside ++ after)
      ∙ ap₂ (λ xs ys. xs ++ ys) (none s n text place parts)
      (filter-append p inside after
      ∙ ap₂ (λ xs ys. xs ++ ys) (none_of_kind none (judge.down s n text place parts) parts) (none_of_kind none (judge.along s n text place parts) next))

-- ---- judges whose states go along with one another

module _ {F S T : Type 0} (one : Judge F S) (other : Judge F T) (Alike : S → T → Type 0) where
  pub all_alike : ((s : S) (t : T) (n : F) (text : List ℕ) (place : Place) (parts : Forest F) → Alike s t → one.broken s n text place parts ≡ other.broken t n text place parts)
      → ((s : S) (t : T) (n : F) (text : List ℕ) (place : Place) (parts : Forest F) → Alike s t → Alike (one.down s n text place parts) (other.down t n text place parts))
      → ((s : S) (t : T) (n : F) (text : List ℕ) (place : Place) (parts : Forest F) → Alike s t → Alike (one.along s n text place parts) (other.along t n text place parts))
      → (s : S) (t : T) (f : Forest F) → Alike s t → all_broken one s f ≡ all_broken other t f
  all_alike same down along s t nothing alike = refl
  all_alike same down along s t (more n text place parts next) alike =
      let inside = all_alike same down along (one.down s n text place parts) (other.down t n text place parts) parts (down s t n text place parts alike) in
      let after = all_alike same down along (one.along s n text place parts) (other.along t n text place parts) next (along s t n text place parts alike) in
      ap₂ (λ xs ys. xs ++ ys) (same s t n text place parts alike) (ap₂ (λ xs ys. xs ++ ys) inside after)

  pub least_alike : ((s : S) (t : T) (n : F) (text : List ℕ) (place : Place) (parts : Forest F) → Alike s t → one.broken s n text place parts ≡ other.broken t n text place parts)
      → ((s : S) (t : T) (n : F) (text : List ℕ) (place : Place) (parts : Forest F) → Alike s t → Alike (one.down s n text place parts) (other.down t n text place parts))
      → ((s : S) (t : T) (n : F) (text : List ℕ) (place : Place) (parts : Forest F) → Alike s t → Alike (one.along s n text place parts) (other.along t n text place parts))
      → (s : S) (t : T) (f : Forest F) → Alike s t → least one s f ≡ least other t f
  least_alike same down along s t f alike =
      least_of_all one s f ∙ ap least_of (all_alike same down along s t f alike) ∙ sym (least_of_all other t f)

-- what hangs on no state is the same in each
pub all_without_state : {F S T : Type 0} (one : Judge F S) (other : Judge F T)
    → ((s : S) (t : T) (n : F) (text : List ℕ) (place : Place) (parts : Forest F) → one.broken s n text place parts ≡ other.broken t n text place parts)
    → (s : S) (t : T) (f : Forest F) → all_broken one s f ≡ all_broken other t f
all_without_state one other same s t f =
    all_alike one other (λ s t. Unit {0}) (λ s t n text place parts alike. same s t n text place parts) (λ s t n text place parts alike. tt) (λ s t n text place parts alike. tt) s t f tt

pub least_without_state : {F S T : Type 0} (one : Judge F S) (other : Judge F T)
    → ((s : S) (t : T) (n : F) (text : List ℕ) (place : Place) (parts : Forest F) → one.broken s n text place parts ≡ other.broken t n text place parts)
    → (s : S) (t : T) (f : Forest F) → least one s f ≡ least other t f
least_without_state one other same s t f =
    least_of_all one s f ∙ ap least_of (all_without_state one other same s t f) ∙ sym (least_of_all other t f)

-- ---- groups of one kind alone

-- a walk for the names and one for the rules
pub firsts_are_least : (broken : Breaking) (r : Revision) (tree : ResolvedTree)
    → firsts_by broken r tree ≡ record {
      of_names = least (filtered is_of_names (judge_by broken (design_of r tree))) beginning tree.units;
      of_rules = least (filtered is_of_rules (judge_by broken (design_of r tree))) beginning tree.units;
    }
firsts_are_least broken r tree =
    let judge = judge_by broken (design_of r tree) in
    let both : Option Refused → Option Refused → Firsts = λ a b. record { of_names = a; of_rules = b } in
    ap₂ both (first_is_least is_of_names judge beginning tree.units) (first_is_least is_of_rules judge beginning tree.units)

-- a group that has no rule of names, by one walk
pub firsts_of_rules_alone : (broken : Breaking) (r : Revision) (tree : ResolvedTree)
    → ((d : Design) (s : State) (n : Resolved) (text : List ℕ) (place : Place) (parts : Forest Resolved) → filter is_of_names (broken d s n text place parts) ≡ [])
    → firsts_by broken r tree ≡ record { of_names = None; of_rules = least (judge_by broken (design_of r tree)) beginning tree.units }
firsts_of_rules_alone broken r tree none =
    let judge = judge_by broken (design_of r tree) in
    let both : Option Refused → Option Refused → Firsts = λ a b. record { of_names = a; of_rules = b } in
    let no_names : filter is_of_names (all_broken judge beginning tree.units) ≡ [] = none_of_kind is_of_names judge (none (design_of r tree)) beginning tree.units in
    ap₂ both (ap least_of no_names)
    (ap least_of (all_others is_of_names (all_broken judge beginning tree.units) no_names) ∙ sym (least_of_all judge beginning tree.units))

-- and a group that has rules of names alone
pub firsts_of_names_alone : (broken : Breaking) (r : Revision) (tree : ResolvedTree)
    → ((d : Design) (s : State) (n : Resolved) (text : List ℕ) (place : Place) (parts : Forest Resolved) → filter is_of_rules (broken d s n text place parts) ≡ [])
    → firsts_by broken r tree ≡ record { of_names = least (judge_by broken (design_of r tree)) beginning tree.units; of_rules = None }
firsts_of_names_alone broken r tree none =
    let judge = judge_by broken (design_of r tree) in
    let both : Option Refused → Option Refused → Firsts = λ a b. record { of_names = a; of_rules = b } in
    let no_rules : filter is_of_rules (all_broken judge beginning tree.units) ≡ [] = none_of_kind is_of_rules judge (none (design_of r tree)) beginning tree.units in
    ap₂ both (ap least_of (none_others is_of_names (all_broken judge beginning tree.units) no_rules) ∙ sym (least_of_all judge beginning tree.units))
    (ap least_of no_rules)

-- ---- the sum of two judges of the same walk

module _ {F S : Type 0} (p : Refused → Bool) (down along : S → F → List ℕ → Place → Forest F → S) where
  abbrev pub walking : (S → F → List ℕ → Place → Forest F → List Refused) → Judge F S
  walking broken = record { broken = broken; down = down; along = along }

  pub first_of_sum : (a b c : S → F → List ℕ → Place → Forest F → List Refused)
      → ((s : S) (n : F) (text : List ℕ) (place : Place) (parts : Forest F)
      → first_of_kind p (c s n text place parts) ≡ lesser (first_of_kind p (a s n text place parts)) (first_of_kind p (b s n text place parts)))
      → (s : S) (f : Forest F)
      → first_of_kind p (all_broken (walking c) s f) ≡ lesser (first_of_kind p (all_broken (walking a) s f)) (first_of_kind p (all_broken (walking b) s f))
  first_of_sum a b c sum s nothing = refl
  first_of_sum a b c sum s (more n text place parts next) =
      three c n text place parts next s
      ∙ ap₂ lesser (sum s n text place parts) (ap₂ lesser (first_of_sum a b c sum (down s n text place parts) parts) (first_of_sum a b c sum (along s n text place parts) next))
      ∙ ap (lesser (lesser (here a) (here b))) (lesser_crossed (inside a) (inside b) (after a) (after b))
      ∙ lesser_crossed (here a) (here b) (lesser (inside a) (after a)) (lesser (inside b) (after b))
      ∙ ap₂ lesser (sym (three a n text place parts next s)) (sym (three b n text place parts next s))
    where
      here : (S → F → List ℕ → Place → Forest F → List Refused) → Option Refused
      here k = first_of_kind p (k s n text place parts)

      inside : (S → F → List ℕ → Place → Forest F → List Refused) → Option Refused
      inside k = first_of_kind p (all_broken (walking k) (down s n text place parts) parts)

      after : (S → F → List ℕ → Place → Forest F → List Refused) → Option Refused
      after k = first_of_kind p (all_broken (walking k) (along s n text place parts) next)

      three : (k : S → F → List ℕ → Place → Forest F → List Refused) (n : F) (text : List ℕ) (place : Place) (parts next : Forest F) (s : S)
          → first_of_kind p (all_broken (walking k) s (more n text place parts next))
          ≡ lesser (first_of_kind p (k s n text place parts))
          (lesser (first_of_kind p (all_broken (walking k) (down s n text place parts) parts)) (first_of_kind p (all_broken (walking k) (along s n text place parts) next)))
      three k n text place parts next s =
          let h = k s n text place parts in
          let i = all_broken (walking k) (down s n text place parts) parts in
          let a = all_broken (walking k) (along s n text place parts) next in
          first_of_both p h (i ++ a) ∙ ap (lesser (first_of_kind p h)) (first_of_both p i a)
