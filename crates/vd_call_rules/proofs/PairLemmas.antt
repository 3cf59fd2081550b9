-- Declarations and copies, one by one. No name has a dash, so that a caller can name each in `#[tactic(auto, using(..))]`.
use Rattle.std.proofs.Common.{◌≡◌, ℕ, zero, suc, ◌≤◌, List, [], ◌∷◌, ◌++◌, length, drop, refl, sym, ap, ◌∙◌, arith}
use Rattle.vd_call_rules.specs.declared.copies.Copied.{Copied}
use Rattle.vd_call_rules.specs.Chains.{paired}

nothing_left : (ns : List ℕ) (k : ℕ) → length ns ≤ k → drop k ns ≡ []
nothing_left [] zero past = refl
nothing_left [] (suc k) past = refl
nothing_left (n ∷ ns) zero past = absurd (omega (arith, past))
nothing_left (n ∷ ns) (suc k) past = nothing_left ns k (omega (arith, past))

no_copies : (ns : List ℕ) → paired ns [] ≡ []
no_copies [] = refl
no_copies (n ∷ ns) = refl

pub originals_ended : (ns ms : List ℕ) (k : ℕ) → length ns ≤ k → paired (drop k ns) ms ≡ []
originals_ended ns ms k past = ap (λ left. paired left ms) (nothing_left ns k past)

pub copies_ended : (ns ms : List ℕ) (k : ℕ) → length ms ≤ k → paired ns (drop k ms) ≡ []
copies_ended ns ms k past = ap (paired ns) (nothing_left ms k past) ∙ no_copies ns

behind_nothing : (found : List Copied) → found ++ [] ≡ found
behind_nothing [] = refl
behind_nothing (c ∷ cs) = ap (λ x. c ∷ x) (behind_nothing cs)

pub all_paired : (found : List Copied) (ns ms : List ℕ) (k : ℕ) (want : List Copied) → found ++ paired ns (drop k ms) ≡ want → length ms ≤ k → found ≡ want
all_paired found ns ms k want is past = sym (behind_nothing found) ∙ ap (λ r. found ++ r) (sym (copies_ended ns ms k past)) ∙ is
