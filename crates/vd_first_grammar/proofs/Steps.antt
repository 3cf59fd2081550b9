-- Steps of a reader one behind another, and again and again.
use Rattle.std.proofs.Common.{◌≡◌, ℕ, zero, suc, ◌≤◌, ◌<◌, Bool, true, false, cond, List, [], ◌∷◌, length, refl, sym, ap, ◌∙◌, subst, arith}
use Rattle.std.specs.Prelude.{if◌then◌else◌}
use Rattle.vd_first_lex.specs.declared.tokens.Token.{Token}
use Rattle.vd_first_grammar.specs.Symbols.{Symbol}
use Rattle.vd_first_grammar.specs.Reader.{is, Outcome, got, stuck, deep, ◌>>=◌, token_at, spelled_at, begins, repeated, repeated_at}

pub bind_assoc : {A B C : Type 0} (o : Outcome A) (f : A × List Token → Outcome B) (g : B × List Token → Outcome C) → ((o >>= f) >>= g) ≡ (o >>= λ x. f x >>= g)
bind_assoc (got x) f g = refl
bind_assoc (stuck rest) f g = refl
bind_assoc (deep rest) f g = refl

-- two continuations that are the same everywhere
pub bind_same : {A B : Type 0} (o : Outcome A) (f g : A × List Token → Outcome B) → ((x : A × List Token) → f x ≡ g x) → (o >>= f) ≡ (o >>= g)
bind_same (got x) f g same = same x
bind_same (stuck rest) f g same = refl
bind_same (deep rest) f g same = refl

-- two continuations that are the same at what is got
pub bind_at : {A B : Type 0} (o : Outcome A) (f g : A × List Token → Outcome B) → ((x : A × List Token) → o ≡ got x → f x ≡ g x) → (o >>= f) ≡ (o >>= g)
bind_at (got x) f g same = same x refl
bind_at (stuck rest) f g same = refl
bind_at (deep rest) f g same = refl

-- ---- what is got

abbrev pub OnGot : {A : Type 0} → Outcome A → (A × List Token → Type 0) → Type 0
OnGot (got x) P = P x
OnGot (stuck rest) P = Unit {0}
OnGot (deep rest) P = Unit {0}

pub got_bind : {A B : Type 0} (o : Outcome A) (f : A × List Token → Outcome B) (Q : A × List Token → Type 0) (P : B × List Token → Type 0) → OnGot o Q → ((x : A × List Token) → Q x → OnGot (f x) P) → OnGot (o >>= f) P
got_bind (got x) f Q P held step = step x held
got_bind (stuck rest) f Q P held step = tt
got_bind (deep rest) f Q P held step = tt

pub got_weaker : {A : Type 0} (o : Outcome A) (Q P : A × List Token → Type 0) → ((x : A × List Token) → Q x → P x) → OnGot o Q → OnGot o P
got_weaker (got x) Q P weaker held = weaker x held
got_weaker (stuck rest) Q P weaker held = tt
got_weaker (deep rest) Q P weaker held = tt

pub at_got : {A : Type 0} (o : Outcome A) (P : A × List Token → Type 0) (x : A × List Token) → OnGot o P → o ≡ got x → P x
at_got o P x held is' = subst (λ (v : Outcome _). OnGot v P) is' held

pub token_got : (test : Token → Bool) (ts : List Token) → OnGot (token_at test ts) (λ x. (test x.0 ≡ true) × (x.0 ∷ x.1 ≡ ts))
unfolding token_at
token_got test [] = tt
token_got test (t ∷ ts) = go (test t) refl
  where
    go : (b : Bool) → test t ≡ b → OnGot (cond b (got (t, ts)) (stuck (t ∷ ts))) (λ x. (test x.0 ≡ true) × (x.0 ∷ x.1 ≡ t ∷ ts))
    go true passes = (passes, refl)
    go false passes = tt

-- ---- shorter and shorter

abbrev pub Shortens : {A : Type 0} → (A → List Token → Outcome A) → Type 0
Shortens {A} part = (a : A) (ts : List Token) → OnGot (part a ts) (λ x. length x.1 < length ts)

pub token_shorter : (test : Token → Bool) (ts : List Token) → OnGot (token_at test ts) (λ x. length x.1 < length ts)
token_shorter test ts = got_weaker (token_at test ts) _ _ (λ x held. omega (arith, ap length held.1)) (token_got test ts)

pub spelled_shorter : (ss : List Symbol) (ts : List Token) → OnGot (spelled_at ss ts) (λ x. length x.1 ≤ length ts)
unfolding spelled_at
spelled_shorter [] ts = omega arith
spelled_shorter (s ∷ ss) ts =
    got_bind (token_at (is s) ts) _ (λ x. length x.1 < length ts) _ (token_shorter (is s) ts) (λ x shorter.
    got_bind (spelled_at ss x.1) _ (λ y. length y.1 ≤ length x.1) _ (spelled_shorter ss x.1) (λ y again. omega arith))

module _ {A : Type 0} (test : Token → Bool) (part : A → List Token → Outcome A) (shortens : Shortens part) where
  -- any number that is great enough does
  pub repeated_any : (n k : ℕ) (a : A) (ts : List Token) → length ts ≤ n → length ts ≤ k → repeated test part n a ts ≡ repeated test part k a ts
  unfolding repeated
  repeated_any zero zero a ts fits also = refl
  repeated_any zero (suc k) a [] fits also = refl
  repeated_any zero (suc k) a (t ∷ ts) fits also = absurd (omega arith)
  repeated_any (suc n) zero a [] fits also = refl
  repeated_any (suc n) zero a (t ∷ ts) fits also = absurd (omega arith)
  repeated_any (suc n) (suc k) a ts fits also =
      ap (λ (o : Outcome A). cond (begins test ts) o (got (a, ts)))
      (bind_at (part a ts) (λ x. repeated test part n x.0 x.1) (λ x. repeated test part k x.0 x.1)
      (λ x is'. let shorter : length x.1 < length ts = at_got (part a ts) _ x (shortens a ts) is' in repeated_any n k x.0 x.1 (omega arith) (omega arith)))

  -- what one round does
  pub repeated_step : (a : A) (ts : List Token) → repeated_at test part a ts ≡ (if begins test ts then (part a ts >>= λ x. repeated_at test part x.0 x.1) else got (a, ts))
  unfolding repeated repeated_at
  repeated_step a [] = refl
  repeated_step a (t ∷ ts) =
      ap (λ (o : Outcome A). cond (test t) o (got (a, t ∷ ts)))
      (bind_at (part a (t ∷ ts)) (λ x. repeated test part (length ts) x.0 x.1) (λ x. repeated test part (length x.1) x.0 x.1)
      (λ x is'. let shorter : length x.1 < suc (length ts) = at_got (part a (t ∷ ts)) _ x (shortens a (t ∷ ts)) is' in repeated_any (length ts) (length x.1) x.0 x.1 (omega arith) (omega arith)))

  -- what stops where the rounds stop and goes on as each round does, does what the rounds do
  module _ {B : Type 0} (S : A → List Token → Outcome B) (K : A × List Token → Outcome B)
      (stops : (a : A) (ts : List Token) → begins test ts ≡ false → S a ts ≡ K (a, ts))
      (goes : (a : A) (ts : List Token) → begins test ts ≡ true → S a ts ≡ (part a ts >>= λ x. S x.0 x.1)) where
    agrees_by : (n : ℕ) (a : A) (ts : List Token) → length ts ≤ suc n → ((a : A) (ts : List Token) → length ts ≤ n → S a ts ≡ (repeated_at test part a ts >>= K)) → (b : Bool) → begins test ts ≡ b → S a ts ≡ (repeated_at test part a ts >>= K)
    agrees_by n a ts fits again true starts =
        goes a ts starts
        ∙ bind_at (part a ts) (λ x. S x.0 x.1) (λ x. repeated_at test part x.0 x.1 >>= K) (λ x is'. let shorter : length x.1 < length ts = at_got (part a ts) _ x (shortens a ts) is' in again x.0 x.1 (omega arith))
        ∙ sym (bind_assoc (part a ts) (λ x. repeated_at test part x.0 x.1) K)
        ∙ rw (repeated_step a ts, starts) refl
    agrees_by n a ts fits again false starts = stops a ts starts ∙ rw (repeated_step a ts, starts) refl

    agrees : (n : ℕ) (a : A) (ts : List Token) → length ts ≤ n → S a ts ≡ (repeated_at test part a ts >>= K)
    agrees zero a [] fits = stops a [] refl ∙ rw (repeated_step a []) refl
    agrees zero a (t ∷ ts) fits = absurd (omega arith)
    agrees (suc n) a ts fits = agrees_by n a ts fits (agrees n) (begins test ts) refl

    pub repeated_agrees : (a : A) (ts : List Token) → S a ts ≡ (repeated_at test part a ts >>= K)
    repeated_agrees a ts = agrees (length ts) a ts (omega arith)

-- what each round keeps, the rounds keep
module _ {A : Type 0} (test : Token → Bool) (part : A → List Token → Outcome A) (P : A → List Token → Type 0)
    (keeps : (a : A) (ts : List Token) → P a ts → OnGot (part a ts) (λ x. P x.0 x.1)) where
  repeated_kept : (n : ℕ) (a : A) (ts : List Token) → P a ts → OnGot (repeated test part n a ts) (λ x. P x.0 x.1)
  unfolding repeated
  repeated_kept zero a ts held = held
  repeated_kept (suc n) a ts held =
      elim (begins test ts) as (λ b. OnGot (cond b (part a ts >>= λ x. repeated test part n x.0 x.1) (got (a, ts))) (λ x. P x.0 x.1)) [
        | true ↦ got_bind (part a ts) (λ x. repeated test part n x.0 x.1) (λ x. P x.0 x.1) (λ x. P x.0 x.1) (keeps a ts held) (λ x kept. repeated_kept n x.0 x.1 kept)
        | false ↦ held
      ]

  pub repeated_at_kept : (a : A) (ts : List Token) → P a ts → OnGot (repeated_at test part a ts) (λ x. P x.0 x.1)
  unfolding repeated_at
  repeated_at_kept a ts held = repeated_kept (length ts) a ts held
