-- A stack is kept with its next symbol last.
use Rattle.std.proofs.Common.{◌≡◌, ℕ, ◌+◌, ◌<◌, List, [], ◌∷◌, ◌++◌, length, get_or, drop, reverse, refl, sym, ap, ◌∙◌}
use Rattle.std.proofs.lemmas.List.{reverse-append}
use Rattle.vd_gram.specs.declared.stack.Pending.{Pending}
use Rattle.vd_gram.specs.Pending.{at_depth, symbols_of}
use Rattle.vd_gram.proofs.ClaimLemmas.{drop_step}

pub popped : (items rest : List Pending) (q : Pending) → items ≡ rest ++ q ∷ [] → reverse items ≡ q ∷ reverse rest
popped items rest q is = ap reverse is ∙ reverse-append rest (q ∷ [])

-- one symbol more was pushed, the one in front of those pushed so far
pub pushed : (old before after : List Pending) (symbols : List ℕ) (depth left : ℕ) → left < length symbols
    → after ≡ before ++ record { symbol = get_or symbols left 0; depth = depth } ∷ []
    → reverse before ≡ at_depth depth (drop (left + 1) symbols) ++ old
    → reverse after ≡ at_depth depth (drop left symbols) ++ old
pushed old before after symbols depth left within is so_far =
    popped after before _ is ∙ ap (λ l. record { symbol = get_or symbols left 0; depth = depth } ∷ l) so_far
    ∙ sym (ap (λ l. at_depth depth l ++ old) (drop_step symbols left within))

pub symbols-at_depth : (depth : ℕ) (symbols : List ℕ) (qs : List Pending)
    → symbols_of (at_depth depth symbols ++ qs) ≡ symbols ++ symbols_of qs
symbols-at_depth depth [] qs = refl
symbols-at_depth depth (s ∷ ss) qs = ap (λ l. s ∷ l) (symbols-at_depth depth ss qs)
