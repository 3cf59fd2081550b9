-- First refusals of both phases, of lists one after the other.
use Rattle.std.proofs.Common.{◌++◌, ◌<◌, ◌≡◌, ◌≤◌, ◌∙◌, ◌∷◌, Bool, List, None, Option, [], ap, ap₂, false, if◌then◌else◌, le-ltb, lt-ltb, not, refl, sym, true, ℕ}
use Rattle.std.specs.Prelude.{Err, IfOk, Ok, Result}
use Rattle.vd_bytes.specs.declared.answers.Refused.{Refused}
use Rattle.vd_bytes.specs.declared.places.Place.{Place}
use Rattle.vd_walks.proofs.OrderLaws.{lesser_brackets, lesser_right}
use Rattle.vd_walks.specs.Least.{least_of}
use Rattle.vd_value_rules.proofs.FirstLemmas.{first_of_both}
use Rattle.vd_value_rules.specs.Groups.{firsts_of, is_of_rules, joined_firsts}
use Rattle.vd_value_rules.specs.declared.firsts.Firsts.{Firsts}
use Rattle.vd_value_rules.specs.Judging.{refused_if}
use Rattle.vd_value_rules.specs.Rules.{is_of_names}

abbrev both : Option Refused → Option Refused → Firsts
both a b = record { of_names = a; of_rules = b }

-- ---- of one rule

of_one : (r : Refused) (b : Bool) → is_of_names r ≡ b
    → both (least_of (if b then r ∷ [] else [])) (least_of (if not b then r ∷ [] else [])) ≡ firsts_of (r ∷ [])
of_one r b is = ap (λ c. both (least_of (if c then r ∷ [] else [])) (least_of (if not c then r ∷ [] else []))) (sym is)

pub of_names_alone : (b : Bool) (place : Place) (rule : ℕ) (found : Option Refused) → rule < 400 → found ≡ least_of (refused_if b place rule)
    → record { of_names = found; of_rules = None } ≡ firsts_of (refused_if b place rule)
of_names_alone true place rule found less is = ap (λ o. both o None) is ∙ of_one (record { place = place; rule = rule }) true (lt-ltb rule 400 less)
of_names_alone false place rule found less is = ap (λ o. both o None) is

pub of_rules_alone : (b : Bool) (place : Place) (rule : ℕ) (found : Option Refused) → 400 ≤ rule → found ≡ least_of (refused_if b place rule)
    → record { of_names = None; of_rules = found } ≡ firsts_of (refused_if b place rule)
of_rules_alone true place rule found more is = ap (λ o. both None o) is ∙ of_one (record { place = place; rule = rule }) false (le-ltb rule 400 more)
of_rules_alone false place rule found more is = ap (λ o. both None o) is

-- ---- of lists

pub firsts_of_both : (rs qs : List Refused) → firsts_of (rs ++ qs) ≡ joined_firsts (firsts_of rs) (firsts_of qs)
firsts_of_both rs qs = ap₂ both (first_of_both is_of_names rs qs) (first_of_both is_of_rules rs qs)

pub joined_with : (a b : Firsts) (rs qs : List Refused) → a ≡ firsts_of rs → b ≡ firsts_of qs → joined_firsts a b ≡ firsts_of (rs ++ qs)
joined_with a b rs qs first second = ap₂ joined_firsts first second ∙ sym (firsts_of_both rs qs)

joined_brackets : (a b c : Firsts) → joined_firsts (joined_firsts a b) c ≡ joined_firsts a (joined_firsts b c)
joined_brackets a b c = ap₂ both (lesser_brackets a.of_names b.of_names c.of_names) (lesser_brackets a.of_rules b.of_rules c.of_rules)

-- what was found so far, one thing more, and what is left
pub joined_more : (found here now : Firsts) (rs qs : List Refused) → here ≡ firsts_of rs → now ≡ joined_firsts found here
    → joined_firsts now (firsts_of qs) ≡ joined_firsts found (firsts_of (rs ++ qs))
joined_more found here now rs qs is joined =
    ap (λ x. joined_firsts x (firsts_of qs)) joined ∙ joined_brackets found here (firsts_of qs)
    ∙ ap (λ x. joined_firsts found x) (joined_with here (firsts_of qs) rs qs is refl)

-- nothing is left
pub joined_none : (found : Firsts) → joined_firsts found (firsts_of []) ≡ found
joined_none found = ap₂ both (lesser_right found.of_names) (lesser_right found.of_rules)

-- ---- of what is found

pub found_same : {A E : Type 0} (a b : A) (r : Result A E) → a ≡ b → IfOk r (λ x. x ≡ a) → IfOk r (λ x. x ≡ b)
found_same a b (Ok x) same is = is ∙ same
found_same a b (Err e) same is = tt
