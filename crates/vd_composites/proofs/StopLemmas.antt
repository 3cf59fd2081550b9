-- Evaluations that come to something.
use Rattle.std.proofs.Common.{◌≡◌, ◌<◌, ℕ, zero, suc, Bool, true, false, inl, inr, refl, ap, arith}
use Rattle.std.specs.Prelude.{Ok, Err, ◌==◌, ◌⊎◌, if◌then◌else◌}
use Rattle.std.proofs.lemmas.Bool.Decides.{nat_tests}
use Rattle.vd_values.specs.declared.scalar.StopKind.{StopKind}
use Rattle.vd_composites.specs.Stops.{OrStop, ◌>>=◌}

pub ok_same : {A : Type 0} (x y : A) → (let g : OrStop A = Ok x in let h : OrStop A = Ok y in g ≡ h) → x ≡ y
ok_same x y h = cc

-- what came to something after something else
pub record Got {A B : Type 0} (g : OrStop A) (f : A → OrStop B) (w : B) : Type 0 where
  pub value : A
  pub first : g ≡ Ok value
  pub second : f value ≡ Ok w

pub got : {A B : Type 0} (g : OrStop A) (f : A → OrStop B) (w : B) → (g >>= f) ≡ Ok w → Got g f w
got (Ok x) f w h = record { value = x; first = refl; second = h }
got (Err e) f w h = absurd cc

pub if_ok : {A : Type 0} (b : Bool) (g : OrStop A) (e : StopKind) (x : A) → (if b then g else Err e) ≡ Ok x → (b ≡ true) × (g ≡ Ok x)
if_ok true g e x h = (refl, h)
if_ok false g e x h = absurd cc

pub if_true : {A : Type 0} (b : Bool) (g h : A) → b ≡ true → (if b then g else h) ≡ g
if_true b g h e = ap (λ c. if c then g else h) e

pub if_false : {A : Type 0} (b : Bool) (g h : A) → b ≡ false → (if b then g else h) ≡ h
if_false b g h e = ap (λ c. if c then g else h) e

pub if_same : {A : Type 0} (b : Bool) (g h : OrStop A) (e : StopKind) → (b ≡ true → g ≡ h) → (if b then g else Err e) ≡ (if b then h else Err e)
if_same true g h e f = f refl
if_same false g h e f = refl

-- what is made one more time
pub if_again : {A : Type 0} (b : Bool) (x : A) (e : StopKind) (f : A → OrStop A) → (b ≡ true → f x ≡ Ok x) → ((if b then Ok x else Err e) >>= f) ≡ (if b then Ok x else Err e)
if_again true x e f h = h refl
if_again false x e f h = refl

pub not_true : (b : Bool) → (b ≡ true → ⊥) → b ≡ false
not_true true h = absurd (h refl)
not_true false h = refl

pub test_same : (m n : ℕ) → (m == n) ≡ true → m ≡ n
test_same m n h = grind (arith, nat_tests)

pub same_test : (m n : ℕ) → m ≡ n → (m == n) ≡ true
same_test m n h = grind (arith, nat_tests)

pub no_test : (m n : ℕ) → (m ≡ n → ⊥) → (m == n) ≡ false
no_test m n h = not_true (m == n) (λ e. h (test_same m n e))

-- two numbers that differ
pub less_or_more : (m n : ℕ) → (m ≡ n → ⊥) → (m < n) ⊎ (n < m)
less_or_more zero zero h = absurd (h refl)
less_or_more zero (suc n) h = inl (omega arith)
less_or_more (suc m) zero h = inr (omega arith)
less_or_more (suc m) (suc n) h = elim (less_or_more m n (λ e. h (ap suc e))) [ inl below ↦ inl (omega arith) | inr above ↦ inr (omega arith) ]
