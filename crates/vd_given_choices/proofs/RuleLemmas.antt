-- What is refused of choices is refused by none of the rules of names.
use Rattle.std.proofs.Common.{◌≡◌, ◌∷◌, ◌++◌, List, [], ap, ap₂, not, refl, sym, true, false, Bool, None, Option, ℕ, ◌∙◌, if◌then◌else◌}
use Rattle.std.specs.List.{filter}
use Rattle.std.proofs.lemmas.List.Elements.{filter-append}
use Rattle.vd_bytes.specs.declared.answers.Refused.{Refused}
use Rattle.vd_bytes.specs.declared.places.Place.{Place}
use Rattle.vd_environments.specs.Got.{Got}
use Rattle.vd_walks.specs.Least.{least_of}
use Rattle.vd_value_rules.proofs.FirstLemmas.{all_others}
use Rattle.vd_value_rules.specs.Groups.{firsts_of}
use Rattle.vd_value_rules.specs.declared.firsts.Firsts.{Firsts}
use Rattle.vd_value_rules.specs.Choices.{Given, not_static, repeated, repeats_in, with_got}
use Rattle.vd_value_rules.specs.Judging.{refused_if}
use Rattle.vd_value_rules.specs.Rules.{is_of_names}

abbrev pub AreOfRules : List Refused → Type 0
AreOfRules rs = filter is_of_names rs ≡ []

pub both_of_rules : (rs qs : List Refused) → AreOfRules rs → AreOfRules qs → AreOfRules (rs ++ qs)
both_of_rules rs qs one other = filter-append is_of_names rs qs ∙ ap₂ (λ xs ys. xs ++ ys) one other

pub one_of_rules : (b : Bool) (place : Place) (rule : ℕ) → is_of_names (record { place = place; rule = rule }) ≡ false → AreOfRules (refused_if b place rule)
one_of_rules true place rule is = filter_none (record { place = place; rule = rule }) is
  where
    filter_none : (r : Refused) → is_of_names r ≡ false → filter is_of_names (r ∷ []) ≡ []
    filter_none r is = ap (λ b. if b then r ∷ [] else []) is
one_of_rules false place rule is = refl

pub not_static_of_rules : (gs : List Given) → AreOfRules (not_static gs)
not_static_of_rules [] = refl
not_static_of_rules (g ∷ gs) =
    both_of_rules (refused_if (not g.is_static) g.place 406) (not_static gs) (one_of_rules (not g.is_static) g.place 406 refl) (not_static_of_rules gs)

pub repeated_of_rules : {A : Type 0} (shared : A → A → Bool) (of : Given → Got A) (before : List A) (gs : List Given) → AreOfRules (repeated shared of before gs)
repeated_of_rules shared of before [] = refl
repeated_of_rules shared of before (g ∷ gs) =
    both_of_rules (refused_if (repeats_in shared before (of g)) g.place 404) (repeated shared of (with_got before (of g)) gs)
    (one_of_rules (repeats_in shared before (of g)) g.place 404 refl) (repeated_of_rules shared of (with_got before (of g)) gs)

-- the first refusals of what breaks no rule of names
pub firsts_of_rules : (rs : List Refused) (found : Option Refused) → AreOfRules rs → found ≡ least_of rs
    → record { of_names = None; of_rules = found } ≡ firsts_of rs
firsts_of_rules rs found none is =
    let firsts : Option Refused → Option Refused → Firsts = λ names rules. record { of_names = names; of_rules = rules } in
    ap₂ firsts (sym (ap least_of none)) (is ∙ sym (ap least_of (all_others is_of_names rs none)))
