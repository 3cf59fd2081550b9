-- Which files are one text of the first language.
use Rattle.std.proofs.Common.{◌≡◌, ℕ, List, [], ◌∷◌, subst}
use Rattle.vd_bytes.specs.declared.answers.Limit.{Limit}
use Rattle.vd_bytes.specs.declared.answers.Refused.{Refused}
use Rattle.vd_first_lex.specs.Lexings.{plain_of}
use Rattle.vd_first_lower.specs.Conversions.{Answer, refused, beyond, converted, IsConversion}
use Rattle.vd_first_lower.specs.Steps.{HasOneConversion}
use Rattle.vd_trees.specs.declared.rows.Row.{Row}
use Rattle.vd_command.specs.Outcomes.{IsNotFirst}

-- a file of which something else is said is none
not_first : HasOneConversion → (content : List ℕ) (a : Answer) → IsConversion (plain_of 0 content) a
    → ((design : List ℕ) (rows : List Row) (units : ℕ) → a ≡ converted design rows units → ⊥) → IsNotFirst (content ∷ [])
not_first one content a is not_converted due x =
    let same : content ≡ x.content = let e = x.alone in cc in
    let other = subst (λ c. IsConversion (plain_of 0 c) a) same is in
    not_converted x.design x.rows x.units (one (plain_of 0 x.content) a (converted x.design x.rows x.units) other x.is)

pub refused_is_not_first : HasOneConversion → (content : List ℕ) (x : Refused) → IsConversion (plain_of 0 content) (refused x) → IsNotFirst (content ∷ [])
refused_is_not_first one content x is = not_first one content (refused x) is (λ design rows units e. cc)

pub beyond_is_not_first : HasOneConversion → (content : List ℕ) (limit : Limit) → IsConversion (plain_of 0 content) (beyond limit) → IsNotFirst (content ∷ [])
beyond_is_not_first one content limit is = not_first one content (beyond limit) is (λ design rows units e. cc)

pub several_are_not_first : (first second : List ℕ) (rest : List (List ℕ)) → IsNotFirst (first ∷ second ∷ rest)
several_are_not_first first second rest due x = let e = x.alone in cc

pub none_is_not_first : IsNotFirst []
none_is_not_first due x = let e = x.alone in cc
