-- The first refusal of lists that have none of names. No name has a dash, so that a caller can name each in `#[tactic(auto, using(..))]`.
use Rattle.std.proofs.Common.{◌≡◌, ◌∷◌, ◌++◌, ◌∙◌, Bool, List, None, Option, Some, [], ap, false, if◌then◌else◌, nat_lt, refl, sym, true, ℕ}
use Rattle.std.specs.List.{filter}
use Rattle.vd_bytes.specs.declared.answers.Refused.{Refused}
use Rattle.vd_bytes.specs.declared.places.Place.{Place}
use Rattle.vd_walks.proofs.LeastLaws.{least_of_append}
use Rattle.vd_walks.proofs.OrderLaws.{lesser_brackets}
use Rattle.vd_walks.specs.Least.{least_of, lesser}
use Rattle.vd_value_rules.proofs.FirstLemmas.{all_others}
use Rattle.vd_value_rules.specs.Groups.{firsts_of}
use Rattle.vd_value_rules.specs.Judging.{refused_if}
use Rattle.vd_value_rules.specs.Rules.{is_of_names}

-- no refusal is one of names
abbrev pub AreRules : List Refused → Type 0
AreRules [] = Unit {0}
AreRules (r ∷ rs) = (is_of_names r ≡ false) × AreRules rs

pub rules_if : (b : Bool) (place : Place) (rule : ℕ) → nat_lt rule 400 ≡ false → AreRules (refused_if b place rule)
rules_if true place rule is = (is, tt)
rules_if false place rule is = tt

pub rules_both : (rs qs : List Refused) → AreRules rs → AreRules qs → AreRules (rs ++ qs)
rules_both [] qs are others = others
rules_both (r ∷ rs) qs are others = (are.0, rules_both rs qs are.1 others)

no_names : (rs : List Refused) → AreRules rs → filter is_of_names rs ≡ []
no_names [] are = refl
no_names (r ∷ rs) are = ap (λ b. if b then r ∷ filter is_of_names rs else filter is_of_names rs) are.0 ∙ no_names rs are.1

pub rules_alone : (rs : List Refused) → AreRules rs → firsts_of rs ≡ record { of_names = None; of_rules = least_of rs }
rules_alone rs are =
    let none = no_names rs are in
    λ i. record { of_names = least_of (none i); of_rules = least_of (all_others is_of_names rs none i) }

-- one more, in front of the rest
pub one_more_refused : (found : Option Refused) (xs rest : List Refused) → lesser (lesser found (least_of xs)) (least_of rest) ≡ lesser found (least_of (xs ++ rest))
one_more_refused found xs rest = lesser_brackets found (least_of xs) (least_of rest) ∙ ap (lesser found) (sym (least_of_append xs rest))

pub none_left : (found : Option Refused) → lesser found None ≡ found
none_left None = refl
none_left (Some r) = refl
