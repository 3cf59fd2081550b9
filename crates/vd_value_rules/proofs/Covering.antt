-- Choices cover a range exactly where they give each of its values.
use Rattle.std.proofs.Common.{◌≡◌, ℕ, zero, suc, ◌+◌, ℤ, pos, negsuc, ◌+ℤ◌, ◌-ℤ◌, Bool, true, false, List, [], ◌∷◌, ◌⊎◌, inl, inr, ⊎_elim, refl, ap, ◌∙◌, sym, subst, arith}
use Rattle.std.proofs.lemmas.Int.{ints}
use Rattle.std.proofs.lemmas.Bool.Decides.{nat_tests}
use Rattle.std.specs.Prelude.{int_le, ◌&&◌, ◌||◌, not, ◌==◌}
use Rattle.std.specs.List.{list_all}
use Rattle.vd_composites.specs.declared.ranges.Bounds.{Bounds}
use Rattle.vd_composites.specs.Ranges.{size_of, is_null, is_within, low_of, high_of}
use Rattle.vd_value_rules.specs.Laws.{CoveringIsGiving}
use Rattle.vd_value_rules.specs.Choices.{is_given, goes_on_behind, are_covered}

pub both_true : (a b : Bool) → (a && b) ≡ true → (a ≡ true) × (b ≡ true)
both_true true b h = (refl, h)
both_true false b h = absurd cc

pub one_true : (a b : Bool) → (a || b) ≡ true → (a ≡ true) ⊎ (b ≡ true)
one_true true b h = inl refl
one_true false b h = inr h

unless_false : (a b : Bool) → a ≡ false → (a || b) ≡ true → b ≡ true
unless_false true b e h = absurd cc
unless_false false b e h = h

-- ---- numbers

way : (i j : ℤ) → int_le i j ≡ true → i +ℤ pos (size_of (j -ℤ i)) ≡ j
way (pos i) (pos j) h = grind (arith, ints)
way (pos i) (negsuc j) h = grind (arith, ints)
way (negsuc i) (pos j) h = grind (arith, ints)
way (negsuc i) (negsuc j) h = grind (arith, ints)

no_way_back : (i : ℤ) (n : ℕ) → int_le i (i +ℤ pos n) ≡ true
no_way_back (pos i) n = grind (arith, ints)
no_way_back (negsuc i) n = grind (arith, ints)

no_way_back_zero : (i : ℤ) → int_le i i ≡ true
no_way_back_zero i = subst (λ k. int_le i k ≡ true) (omega (arith, ints)) (no_way_back i 0)

next_or_same_by : (i j : ℤ) (n : ℕ) → i +ℤ pos n ≡ j → (int_le (i +ℤ pos 1) j ≡ true) ⊎ (i ≡ j)
next_or_same_by i j zero e = inr (omega (arith, ints))
next_or_same_by i j (suc n) e =
    let f : (i +ℤ pos 1) +ℤ pos n ≡ j = omega (arith, ints) in
    inl (subst (λ k. int_le (i +ℤ pos 1) k ≡ true) f (no_way_back (i +ℤ pos 1) n))

next_or_same : (i j : ℤ) → int_le i j ≡ true → (int_le (i +ℤ pos 1) j ≡ true) ⊎ (i ≡ j)
next_or_same i j h = next_or_same_by i j (size_of (j -ℤ i)) (way i j h)

le_trans : (i j k : ℤ) → int_le i j ≡ true → int_le j k ≡ true → int_le i k ≡ true
le_trans i j k h g =
    let e : i +ℤ pos (size_of (j -ℤ i)) ≡ j = way i j h in
    let f : j +ℤ pos (size_of (k -ℤ j)) ≡ k = way j k g in
    let s : i +ℤ pos (size_of (j -ℤ i) + size_of (k -ℤ j)) ≡ k = omega (arith, ints) in
    subst (λ m. int_le i m ≡ true) s (no_way_back i (size_of (j -ℤ i) + size_of (k -ℤ j)))

-- ---- ranges by their least and greatest value

by_size_of : (l r i : ℤ) (down : Bool) → is_within (record { left = l; right = r; down = down }) i ≡ true
    → (int_le (low_of (record { left = l; right = r; down = down })) i && int_le i (high_of (record { left = l; right = r; down = down }))) ≡ true
by_size_of l r i true h = h
by_size_of l r i false h = h

by_size : (b : Bounds) (i : ℤ) → is_within b i ≡ true → (int_le (low_of b) i && int_le i (high_of b)) ≡ true
by_size b i h = by_size_of b.left b.right i b.down h

from_size_of : (l r i : ℤ) (down : Bool)
    → (int_le (low_of (record { left = l; right = r; down = down })) i && int_le i (high_of (record { left = l; right = r; down = down }))) ≡ true
    → is_within (record { left = l; right = r; down = down }) i ≡ true
from_size_of l r i true h = h
from_size_of l r i false h = h

from_size : (b : Bounds) (i : ℤ) → int_le (low_of b) i ≡ true → int_le i (high_of b) ≡ true → is_within b i ≡ true
from_size b i low high = from_size_of b.left b.right i b.down (ap (λ c. c && int_le i (high_of b)) low ∙ high)

-- a range that has a value isn't null
is_not_zero : (n : ℕ) → (suc n == 0) ≡ false
is_not_zero n = grind (arith, nat_tests)

not_zero : (z : ℤ) (n : ℕ) → z ≡ pos (suc n) → (size_of z == 0) ≡ false
not_zero z n e = ap (λ y. size_of y == 0) e ∙ is_not_zero n

span : (l r i : ℤ) → int_le l i ≡ true → int_le i r ≡ true → (size_of (r -ℤ l +ℤ pos 1) == 0) ≡ false
span l r i low high =
    let e : l +ℤ pos (size_of (i -ℤ l)) ≡ i = way l i low in
    let f : i +ℤ pos (size_of (r -ℤ i)) ≡ r = way i r high in
    let g : r -ℤ l +ℤ pos 1 ≡ pos (suc (size_of (i -ℤ l) + size_of (r -ℤ i))) = omega (arith, ints) in
    not_zero (r -ℤ l +ℤ pos 1) (size_of (i -ℤ l) + size_of (r -ℤ i)) g

not_null_of : (l r i : ℤ) (down : Bool) → is_within (record { left = l; right = r; down = down }) i ≡ true → is_null (record { left = l; right = r; down = down }) ≡ false
not_null_of l r i true h = let two : (int_le r i ≡ true) × (int_le i l ≡ true) = both_true (int_le r i) (int_le i l) h in span r l i two.0 two.1
not_null_of l r i false h = let two : (int_le l i ≡ true) × (int_le i r ≡ true) = both_true (int_le l i) (int_le i r) h in span l r i two.0 two.1

not_null : (b : Bounds) (i : ℤ) → is_within b i ≡ true → is_null b ≡ false
not_null b i h = not_null_of b.left b.right i b.down h

-- ---- one step further

-- what a choice has, it has one further, or the value behind it is asked for
past_end : (within : Bounds) (all : List Bounds) (b : Bounds) (v : ℤ) → goes_on_behind within all b ≡ true → is_within b v ≡ true → is_within within (v +ℤ pos 1) ≡ true
    → v ≡ high_of b → is_given all (v +ℤ pos 1) ≡ true
past_end within all b v g h w e =
    let asked : (not (is_within within (high_of b +ℤ pos 1)) || is_given all (high_of b +ℤ pos 1)) ≡ true
    = unless_false (is_null b) (not (is_within within (high_of b +ℤ pos 1)) || is_given all (high_of b +ℤ pos 1)) (not_null b v h) g in
    let there : is_within within (high_of b +ℤ pos 1) ≡ true = subst (λ k. is_within within (k +ℤ pos 1) ≡ true) e w in
    let given : is_given all (high_of b +ℤ pos 1) ≡ true
    = unless_false (not (is_within within (high_of b +ℤ pos 1))) (is_given all (high_of b +ℤ pos 1)) (ap not there) asked in
    subst (λ k. is_given all (k +ℤ pos 1) ≡ true) (sym e) given

one_further : (within : Bounds) (all : List Bounds) (b : Bounds) (v : ℤ) → goes_on_behind within all b ≡ true → is_within b v ≡ true → is_within within (v +ℤ pos 1) ≡ true
    → (is_within b (v +ℤ pos 1) ≡ true) ⊎ (is_given all (v +ℤ pos 1) ≡ true)
one_further within all b v g h w =
    let two : (int_le (low_of b) v ≡ true) × (int_le v (high_of b) ≡ true) = both_true (int_le (low_of b) v) (int_le v (high_of b)) (by_size b v h) in
    ⊎_elim (λ le. inl (from_size b (v +ℤ pos 1) (le_trans (low_of b) v (v +ℤ pos 1) two.0 (no_way_back v 1)) le))
    (λ e. inr (past_end within all b v g h w e)) (next_or_same v (high_of b) two.1)

in_head : (b : Bounds) (bs : List Bounds) (i : ℤ) → is_within b i ≡ true → is_given (b ∷ bs) i ≡ true
in_head b bs i h = ap (λ c. c || is_given bs i) h

in_tail_by : (a c : Bool) → c ≡ true → (a || c) ≡ true
in_tail_by true c h = refl
in_tail_by false c h = h

in_tail : (b : Bounds) (bs : List Bounds) (i : ℤ) → is_given bs i ≡ true → is_given (b ∷ bs) i ≡ true
in_tail b bs i h = in_tail_by (is_within b i) (is_given bs i) h

further : (within : Bounds) (all bs : List Bounds) (v : ℤ) → list_all (goes_on_behind within all) bs ≡ true → is_given bs v ≡ true → is_within within (v +ℤ pos 1) ≡ true
    → (is_given bs (v +ℤ pos 1) ≡ true) ⊎ (is_given all (v +ℤ pos 1) ≡ true)
further within all [] v a h w = absurd cc
further within all (b ∷ bs) v a h w =
    let two : (goes_on_behind within all b ≡ true) × (list_all (goes_on_behind within all) bs ≡ true)
    = both_true (goes_on_behind within all b) (list_all (goes_on_behind within all) bs) a in
    ⊎_elim (λ here. ⊎_elim (λ x. inl (in_head b bs (v +ℤ pos 1) x)) (λ y. inr y) (one_further within all b v two.0 here w))
    (λ later. ⊎_elim (λ x. inl (in_tail b bs (v +ℤ pos 1) x)) (λ y. inr y) (further within all bs v two.1 later w))
    (one_true (is_within b v) (is_given bs v) h)

same_either : {P : Type 0} → P ⊎ P → P
same_either (inl p) = p
same_either (inr p) = p

-- ---- all values, from the least one on

given_from : (within : Bounds) (bs : List Bounds) → is_given bs (low_of within) ≡ true → list_all (goes_on_behind within bs) bs ≡ true → (n : ℕ)
    → int_le (low_of within +ℤ pos n) (high_of within) ≡ true → is_given bs (low_of within +ℤ pos n) ≡ true
given_from within bs first goes zero h = subst (λ k. is_given bs k ≡ true) (omega (arith, ints)) first
given_from within bs first goes (suc n) h =
    let e : (low_of within +ℤ pos n) +ℤ pos 1 ≡ low_of within +ℤ pos (suc n) = omega (arith, ints) in
    let top : int_le ((low_of within +ℤ pos n) +ℤ pos 1) (high_of within) ≡ true = subst (λ k. int_le k (high_of within) ≡ true) (sym e) h in
    let before : int_le (low_of within +ℤ pos n) (high_of within) ≡ true
    = le_trans (low_of within +ℤ pos n) ((low_of within +ℤ pos n) +ℤ pos 1) (high_of within) (no_way_back (low_of within +ℤ pos n) 1) top in
    let low : int_le (low_of within) ((low_of within +ℤ pos n) +ℤ pos 1) ≡ true = subst (λ k. int_le (low_of within) k ≡ true) (sym e) (no_way_back (low_of within) (suc n)) in
    let there : is_within within ((low_of within +ℤ pos n) +ℤ pos 1) ≡ true = from_size within ((low_of within +ℤ pos n) +ℤ pos 1) low top in
    subst (λ k. is_given bs k ≡ true) e
    (same_either (further within bs bs (low_of within +ℤ pos n) goes (given_from within bs first goes n before) there))

covered_are_given : (within : Bounds) (choices : List Bounds) (i : ℤ) → are_covered within choices ≡ true → is_within within i ≡ true → is_given choices i ≡ true
covered_are_given within bs i c h =
    let rest : (is_given bs (low_of within) && list_all (goes_on_behind within bs) bs) ≡ true
    = unless_false (is_null within) (is_given bs (low_of within) && list_all (goes_on_behind within bs) bs) (not_null within i h) c in
    let two : (is_given bs (low_of within) ≡ true) × (list_all (goes_on_behind within bs) bs ≡ true)
    = both_true (is_given bs (low_of within)) (list_all (goes_on_behind within bs) bs) rest in
    let ends : (int_le (low_of within) i ≡ true) × (int_le i (high_of within) ≡ true) = both_true (int_le (low_of within) i) (int_le i (high_of within)) (by_size within i h) in
    let e : low_of within +ℤ pos (size_of (i -ℤ low_of within)) ≡ i = way (low_of within) i ends.0 in
    subst (λ k. is_given bs k ≡ true) e
    (given_from within bs two.0 two.1 (size_of (i -ℤ low_of within)) (subst (λ k. int_le k (high_of within) ≡ true) (sym e) ends.1))

-- ---- and back: a range that isn't null has its least value

positive : (z : ℤ) → (size_of z == 0) ≡ false → (n : ℕ) × (z ≡ pos (suc n))
positive (pos zero) h = absurd cc
positive (pos (suc n)) h = (n, refl)
positive (negsuc n) h = absurd cc

in_order : (l r : ℤ) → (size_of (r -ℤ l +ℤ pos 1) == 0) ≡ false → int_le l r ≡ true
in_order l r h =
    let p : (n : ℕ) × (r -ℤ l +ℤ pos 1 ≡ pos (suc n)) = positive (r -ℤ l +ℤ pos 1) h in
    let e : l +ℤ pos p.0 ≡ r = omega (arith, ints, p.1) in
    subst (λ k. int_le l k ≡ true) e (no_way_back l p.0)

least_within_of : (l r : ℤ) (down : Bool) → is_null (record { left = l; right = r; down = down }) ≡ false
    → is_within (record { left = l; right = r; down = down }) (low_of (record { left = l; right = r; down = down })) ≡ true
least_within_of l r true h = ap (λ c. c && int_le r l) (no_way_back_zero r) ∙ in_order r l h
least_within_of l r false h = ap (λ c. c && int_le l r) (no_way_back_zero l) ∙ in_order l r h

asked_is_given : (a w g : Bool) → (w ≡ true → g ≡ true) → (a || (not w || g)) ≡ true
asked_is_given true w g f = refl
asked_is_given false true g f = f refl
asked_is_given false false g f = refl

all_go_on : (within : Bounds) (all bs : List Bounds) → ((i : ℤ) → is_within within i ≡ true → is_given all i ≡ true) → list_all (goes_on_behind within all) bs ≡ true
all_go_on within all [] f = refl
all_go_on within all (b ∷ bs) f =
    ap (λ c. c && list_all (goes_on_behind within all) bs)
    (asked_is_given (is_null b) (is_within within (high_of b +ℤ pos 1)) (is_given all (high_of b +ℤ pos 1)) (f (high_of b +ℤ pos 1)))
    ∙ all_go_on within all bs f

unless_null : (n c : Bool) → (n ≡ false → c ≡ true) → (n || c) ≡ true
unless_null true c f = refl
unless_null false c f = f refl

given_are_covered : (within : Bounds) (choices : List Bounds) → ((i : ℤ) → is_within within i ≡ true → is_given choices i ≡ true) → are_covered within choices ≡ true
given_are_covered within bs f =
    unless_null (is_null within) (is_given bs (low_of within) && list_all (goes_on_behind within bs) bs)
    (λ h. ap (λ c. c && list_all (goes_on_behind within bs) bs) (f (low_of within) (least_within_of within.left within.right within.down h)) ∙ all_go_on within bs bs f)

pub covering : CoveringIsGiving
covering = record { given = covered_are_given; covered = given_are_covered }
