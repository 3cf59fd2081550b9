-- The first homograph of one region, and of two.
use Rattle.std.proofs.Common.{◌≡◌, ◌<◌, ℕ, zero, suc, Bool, true, false, ◌&&◌, ◌||◌, not, List, ◌∷◌, length, get_or, min, if◌then◌else◌, Option, Some, None, option_to_list, refl, sym, ap, ◌∙◌, arith}
use Rattle.std.specs.Option.{option_or}
use Rattle.std.specs.List.{list_any}
use Rattle.vd_declarations.specs.declared.declarations.Declaration.{Declaration}
use Rattle.vd_regions.specs.declared.entries.Entered.{Entered}
use Rattle.vd_regions.specs.Scopes.{Scopes, nothing_entered, stands_in, region_at}
use Rattle.vd_regions.specs.Homographs.{may_stand_beside, clashes, homograph}
use Rattle.vd_regions.specs.Found.{clashes_in, first_in, earlier}
use Rattle.vd_regions.specs.Links.{first_below}
use Rattle.vd_regions.proofs.LinkLemmas.{position_below}

-- ---- the first of two kinds

abbrev IsBelow : ℕ → Option ℕ → Type 0
IsBelow k None = Unit {0}
IsBelow k (Some m) = m < k

still_below : (k : ℕ) (o : Option ℕ) (b : Bool) → IsBelow k o → IsBelow (suc k) (option_or o (if b then Some k else None))
still_below k None true is = omega arith
still_below k None false is = tt
still_below k (Some m) b is = omega arith

first_is_below : (test : Entered → Bool) (es : List Entered) (k : ℕ) → IsBelow k (first_below test es k)
first_is_below test es zero = tt
first_is_below test es (suc k) = still_below k (first_below test es k) (test (get_or es k nothing_entered)) (first_is_below test es k)

min_same : (k : ℕ) → min k k ≡ k
min_same k = omega arith

min_first : (m k : ℕ) → m < k → min m k ≡ m
min_first m k lt = omega arith

min_last : (m k : ℕ) → m < k → min k m ≡ m
min_last m k lt = omega arith

one_more : (k : ℕ) (a b : Option ℕ) (p q : Bool) → IsBelow k a → IsBelow k b
    → option_or (earlier a b) (if p || q then Some k else None)
    ≡ earlier (option_or a (if p then Some k else None)) (option_or b (if q then Some k else None))
one_more k None None true true is js = ap Some (sym (min_same k))
one_more k None None true false is js = refl
one_more k None None false q is js = refl
one_more k None (Some n) true q is js = ap Some (sym (min_last n k js))
one_more k None (Some n) false q is js = refl
one_more k (Some m) None p true is js = ap Some (sym (min_first m k is))
one_more k (Some m) None p false is js = refl
one_more k (Some m) (Some n) p q is js = refl

pub first_either : (p q : Entered → Bool) (es : List Entered) (k : ℕ)
    → first_below (λ e. p e || q e) es k ≡ earlier (first_below p es k) (first_below q es k)
first_either p q es zero = refl
first_either p q es (suc k) =
    ap (λ o. option_or o (if p (get_or es k nothing_entered) || q (get_or es k nothing_entered) then Some k else None)) (first_either p q es k)
    ∙ one_more k (first_below p es k) (first_below q es k) (p (get_or es k nothing_entered)) (q (get_or es k nothing_entered))
    (first_is_below p es k) (first_is_below q es k)

pub first_same : (p q : Entered → Bool) → ((e : Entered) → p e ≡ q e) → (es : List Entered) (k : ℕ) → first_below p es k ≡ first_below q es k
first_same p q same es zero = refl
first_same p q same es (suc k) =
    ap (λ o. option_or o (if p (get_or es k nothing_entered) then Some k else None)) (first_same p q same es k)
    ∙ ap (λ b. option_or (first_below q es k) (if b then Some k else None)) (same (get_or es k nothing_entered))

-- ---- regions

one_test : (a c : Bool) → ((a || false) && c) ≡ (a && c)
one_test true c = refl
one_test false c = refl

two_tests : (a b c : Bool) → ((a || (b || false)) && c) ≡ ((a && c) || (b && c))
two_tests true true true = refl
two_tests true true false = refl
two_tests true false true = refl
two_tests true false false = refl
two_tests false true true = refl
two_tests false true false = refl
two_tests false false c = refl

pub in_one_region : (s : Scopes) (region : ℕ) (new : Declaration) → (region_at s region).continues ≡ None
    → homograph s region new ≡ first_in s region new
in_one_region s region new none =
    position_below (clashes s region new) s.entered
    ∙ first_same (clashes s region new) (clashes_in s region new)
    (λ e. ap (λ o. list_any (λ r. stands_in r new.name e) (region ∷ option_to_list o) && not (may_stand_beside s e.declaration new)) none
    ∙ one_test (stands_in region new.name e) (not (may_stand_beside s e.declaration new)))
    s.entered (length s.entered)
    ∙ sym (position_below (clashes_in s region new) s.entered)

pub in_two_regions : (s : Scopes) (region declaration : ℕ) (new : Declaration) → (region_at s region).continues ≡ Some declaration
    → homograph s region new ≡ earlier (first_in s region new) (first_in s declaration new)
in_two_regions s region declaration new some =
    position_below (clashes s region new) s.entered
    ∙ first_same (clashes s region new) (λ e. clashes_in s region new e || clashes_in s declaration new e)
    (λ e. ap (λ o. list_any (λ r. stands_in r new.name e) (region ∷ option_to_list o) && not (may_stand_beside s e.declaration new)) some
    ∙ two_tests (stands_in region new.name e) (stands_in declaration new.name e) (not (may_stand_beside s e.declaration new)))
    s.entered (length s.entered)
    ∙ first_either (clashes_in s region new) (clashes_in s declaration new) s.entered (length s.entered)
    ∙ ap (λ o. earlier o (first_below (clashes_in s declaration new) s.entered (length s.entered))) (sym (position_below (clashes_in s region new) s.entered))
    ∙ ap (earlier (first_in s region new)) (sym (position_below (clashes_in s declaration new) s.entered))
