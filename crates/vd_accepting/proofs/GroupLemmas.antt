-- The first refusals of six groups of rules. No name has a dash, so that a caller can name each in `#[tactic(auto, using(..))]`.
use Rattle.std.proofs.Common.{◌++◌, ◌≡◌, List, ap₂, sym, ◌∙◌, Option}
use Rattle.vd_bytes.specs.declared.answers.Refused.{Refused}
use Rattle.vd_value_rules.proofs.FirstLemmas.{first_of_both}
use Rattle.vd_value_rules.specs.Groups.{firsts_of, is_of_rules, joined_firsts}
use Rattle.vd_value_rules.specs.declared.firsts.Firsts.{Firsts}
use Rattle.vd_value_rules.specs.Rules.{is_of_names}

pub firsts_of_both : (rs qs : List Refused) → firsts_of (rs ++ qs) ≡ joined_firsts (firsts_of rs) (firsts_of qs)
firsts_of_both rs qs =
    let both : Option Refused → Option Refused → Firsts = λ a b. record { of_names = a; of_rules = b } in
    ap₂ both (first_of_both is_of_names rs qs) (first_of_both is_of_rules rs qs)

pub joined_with : (a b : Firsts) (rs qs : List Refused) → a ≡ firsts_of rs → b ≡ firsts_of qs → joined_firsts a b ≡ firsts_of (rs ++ qs)
joined_with a b rs qs first second = ap₂ joined_firsts first second ∙ sym (firsts_of_both rs qs)

pub six_together : (a b c d e f : Firsts) (as' bs cs ds es fs : List Refused)
    → a ≡ firsts_of as' → b ≡ firsts_of bs → c ≡ firsts_of cs → d ≡ firsts_of ds → e ≡ firsts_of es → f ≡ firsts_of fs
    → joined_firsts a (joined_firsts b (joined_firsts c (joined_firsts d (joined_firsts e f)))) ≡ firsts_of (as' ++ (bs ++ (cs ++ (ds ++ (es ++ fs)))))
six_together a b c d e f as' bs cs ds es fs is_a is_b is_c is_d is_e is_f =
    joined_with a (joined_firsts b (joined_firsts c (joined_firsts d (joined_firsts e f)))) as' (bs ++ (cs ++ (ds ++ (es ++ fs)))) is_a
    (joined_with b (joined_firsts c (joined_firsts d (joined_firsts e f))) bs (cs ++ (ds ++ (es ++ fs))) is_b
    (joined_with c (joined_firsts d (joined_firsts e f)) cs (ds ++ (es ++ fs)) is_c
    (joined_with d (joined_firsts e f) ds (es ++ fs) is_d (joined_with e f es fs is_e is_f))))
