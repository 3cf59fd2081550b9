-- What the least refusal is among all of a forest, and of joined forests.
use Rattle.std.proofs.Common.{◌≡◌, Bool, true, false, cond, List, [], ◌∷◌, ◌++◌, Option, Some, None, refl, sym, ap, subst, ◌∙◌, arith}
use Rattle.std.specs.Prelude.{All, MatchOption}
use Rattle.std.proofs.lemmas.List.Elements.{All-nil, All-cons, All-weaker, Contains-append_right}
use Rattle.vd_bytes.specs.declared.answers.Refused.{Refused}
use Rattle.vd_forest.specs.Forest.{Forest, nothing, more, joined}
use Rattle.vd_walks.specs.Least.{Judge, is_less, lesser, least_of, least, all_broken, refusals}
use Rattle.vd_walks.specs.Laws.{IsLeast, KeepsState, behind}
use Rattle.vd_walks.proofs.OrderLaws.{not_both_less, not_less_than_itself, not_less_than_earlier, lesser_brackets, lesser_right}

-- ---- of lists

pub least_of_append : (rs qs : List Refused) → least_of (rs ++ qs) ≡ lesser (least_of rs) (least_of qs)
least_of_append [] qs = refl
least_of_append (r ∷ rs) qs = ap (lesser (Some r)) (least_of_append rs qs) ∙ sym (lesser_brackets (Some r) (least_of rs) (least_of qs))

pub least_of_refusals : (o : Option Refused) (os : List (Option Refused)) → least_of (refusals (o ∷ os)) ≡ lesser o (least_of (refusals os))
least_of_refusals None os = refl
least_of_refusals (Some r) os = refl

-- the same list, where the least one of the rest is known
least_of_more : (r : Refused) (rs : List Refused) (o : Option Refused) → MatchOption o (rs ≡ []) (IsLeast rs) → MatchOption (lesser (Some r) o) (r ∷ rs ≡ []) (IsLeast (r ∷ rs))
least_of_more r rs None none = record {
  is_one = (0, omega arith, refl);
  none_less = All-cons (λ other. is_less other r ≡ false) r rs (not_less_than_itself r) (subst (All (λ other. is_less other r ≡ false)) (sym none) (All-nil (λ other. is_less other r ≡ false)));
}
least_of_more r rs (Some q) known = by_which (is_less q r) refl
  where
    by_which : (b : Bool) → is_less q r ≡ b → IsLeast (r ∷ rs) (cond (is_less q r) q r)
    by_which true less = subst (IsLeast (r ∷ rs)) (sym (ap (λ t. cond t q r) less)) (record {
      is_one = Contains-append_right (r ∷ []) rs q known.is_one;
      none_less = All-cons (λ other. is_less other q ≡ false) r rs (not_both_less q r less) known.none_less;
    })
    by_which false less = subst (IsLeast (r ∷ rs)) (sym (ap (λ t. cond t q r) less)) (record {
      is_one = (0, omega arith, refl);
      none_less = All-cons (λ other. is_less other r ≡ false) r rs (not_less_than_itself r)
          (All-weaker (λ other. is_less other q ≡ false) (λ other. is_less other r ≡ false) (λ other n. not_less_than_earlier r q other less n) rs known.none_less);
    })

pub least_of_is_least : (rs : List Refused) → MatchOption (least_of rs) (rs ≡ []) (IsLeast rs)
least_of_is_least [] = refl
least_of_is_least (r ∷ rs) = least_of_more r rs (least_of rs) (least_of_is_least rs)

-- ---- of forests

module _ {F S : Type 0} (judge : Judge F S) where
  pub least_of_all : (state : S) (f : Forest F) → least judge state f ≡ least_of (all_broken judge state f)
  least_of_all state nothing = refl
  least_of_all state (more form text place parts next) =
      let here = judge.broken state form text place parts in
      let inside = all_broken judge (judge.down state form text place parts) parts in
      let after = all_broken judge (judge.along state form text place parts) next in
      ap (λ o. lesser (least_of here) (lesser o (least judge (judge.along state form text place parts) next))) (least_of_all (judge.down state form text place parts) parts)
      ∙ ap (λ o. lesser (least_of here) (lesser (least_of inside) o)) (least_of_all (judge.along state form text place parts) next)
      ∙ ap (lesser (least_of here)) (sym (least_of_append inside after))
      ∙ sym (least_of_append here (inside ++ after))

  pub least_is : (state : S) (f : Forest F) → MatchOption (least judge state f) (all_broken judge state f ≡ []) (IsLeast (all_broken judge state f))
  least_is state f =
      subst (λ o. MatchOption o (all_broken judge state f ≡ []) (IsLeast (all_broken judge state f))) (sym (least_of_all state f)) (least_of_is_least (all_broken judge state f))

  pub least_joined : (state : S) (f g : Forest F) → least judge state (joined f g) ≡ lesser (least judge state f) (least judge (behind judge state f) g)
  least_joined state nothing g = refl
  least_joined state (more form text place parts next) g =
      let here = least_of (judge.broken state form text place parts) in
      let inside = least judge (judge.down state form text place parts) parts in
      let along = judge.along state form text place parts in
      ap (λ o. lesser here (lesser inside o)) (least_joined along next g)
      ∙ ap (lesser here) (sym (lesser_brackets inside (least judge along next) (least judge (behind judge along next) g)))
      ∙ sym (lesser_brackets here (lesser inside (least judge along next)) (least judge (behind judge along next) g))

  behind_same : KeepsState judge → (state : S) (f : Forest F) → behind judge state f ≡ state
  behind_same keeps state nothing = refl
  behind_same keeps state (more form text place parts next) =
      behind_same keeps (judge.along state form text place parts) next ∙ keeps.keeps state form text place parts

  pub least_joined_same : KeepsState judge → (state : S) (f g : Forest F) → least judge state (joined f g) ≡ lesser (least judge state f) (least judge state g)
  least_joined_same keeps state f g = least_joined state f g ∙ ap (λ s. lesser (least judge state f) (least judge s g)) (behind_same keeps state f)

-- for callers: what a node breaks, rule by rule
pub ruleset rule_by_rule = (least_of_refusals, least_of_append, lesser_right)
