-- Shifts of lists place by place, and all at once.
use Rattle.std.proofs.Common.{◌≡◌, ◌<◌, ◌≤◌, ℕ, zero, suc, ◌+◌, ◌-◌, ◌*◌, ◌%◌, ℤ, pos, negsuc, List, [], ◌∷◌, ◌++◌, length, take, drop, get_or, min, refl, sym, ap, ◌∙◌, inl, inr, arith, append_assoc, length-append, length-take}
use Rattle.std.proofs.Math.Seq.{drop-cons}
use Rattle.std.proofs.lemmas.List.{length-replicate, take_more, replicate_more, take-replicate}
use Rattle.std.proofs.lemmas.Nat.{mod-mul-add}
use Rattle.std.proofs.lemmas.Bool.{cases_lt}
use Rattle.std.proofs.lemmas.Bool.Decides.{nat_tests}
use lib.ListN.{replicate}
use Rattle.std.specs.Prelude.{◌==◌, true, false}
use Rattle.vd_values.specs.declared.logic.Logic.{Logic}
use Rattle.vd_values.specs.declared.logic.Logic.TheVariants.{Zero}
use Rattle.vd_vectors.specs.declared.shifts.ShiftOperator.{ShiftOperator}
use Rattle.vd_vectors.specs.declared.shifts.ShiftOperator.TheVariants.{LogicalLeft, LogicalRight, ArithmeticLeft, ArithmeticRight, RotateLeft, RotateRight}
use Rattle.vd_vectors.specs.Shifts.{opposite, leftmost, rightmost, one_left, one_right, one_place, places, shifted}
use Rattle.vd_vectors.specs.Moves.{filled_left, filled_right, rotated}
use Rattle.vd_vectors.proofs.ListLemmas.{drop_all}

append_none : {A : Type 0} (xs : List A) → xs ++ [] ≡ xs
append_none [] = refl
append_none (x ∷ xs) = ap (λ ys. x ∷ ys) (append_none xs)

take_all : {A : Type 0} (n : ℕ) (xs : List A) → length xs ≤ n → take n xs ≡ xs
take_all zero [] h = refl
take_all zero (x ∷ xs) h = absurd (omega arith)
take_all (suc n) [] h = refl
take_all (suc n) (x ∷ xs) h = ap (λ ys. x ∷ ys) (take_all n xs (omega arith))

split_suc : (xs : List Logic) (n : ℕ) → n < length xs → drop n xs ≡ get_or xs n Zero ∷ drop (suc n) xs
split_suc xs n h = drop-cons xs n Zero h

take_suc : (xs : List Logic) (n : ℕ) → n < length xs → take (suc n) xs ≡ take n xs ++ get_or xs n Zero ∷ []
take_suc xs n h = let e : suc n ≡ n + 1 = omega arith in ap (λ m. take m xs) e ∙ take_more xs n Zero h

replicate_suc : (n : ℕ) (f : Logic) → replicate n f ++ f ∷ [] ≡ replicate (suc n) f
replicate_suc n f = let e : n + 1 ≡ suc n = omega arith in replicate_more n f ∙ ap (λ m. replicate m f) e

-- ---- to the left

lefts : ℕ → Logic → List Logic → List Logic
lefts zero f xs = xs
lefts (suc n) f xs = one_left f (lefts n f xs)

lefts_some : (n : ℕ) (f : Logic) (xs : List Logic) → n ≤ length xs → lefts n f xs ≡ drop n xs ++ replicate n f
unfolding lefts
lefts_some zero f xs h = sym (append_none xs)
lefts_some (suc n) f xs h =
    ap (one_left f) (lefts_some n f xs (omega arith) ∙ ap (λ ys. ys ++ replicate n f) (split_suc xs n (omega arith)))
    ∙ append_assoc (drop (suc n) xs) (replicate n f) (f ∷ [])
    ∙ ap (λ ys. drop (suc n) xs ++ ys) (replicate_suc n f)

left_same : (k : ℕ) (f : Logic) → one_left f (replicate k f) ≡ replicate k f
left_same zero f = refl
left_same (suc k) f = replicate_suc k f

lefts_all : (n : ℕ) (f : Logic) (xs : List Logic) → length xs ≤ n → lefts n f xs ≡ replicate (length xs) f
unfolding lefts
lefts_all zero f [] h = refl
lefts_all zero f (x ∷ xs) h = absurd (omega arith)
lefts_all (suc n) f xs h =
    elim (cases_lt (length xs) (suc n)) [
      | inl less ↦ ap (one_left f) (lefts_all n f xs (omega arith)) ∙ left_same (length xs) f
      | inr more ↦ (let e : suc n ≡ length xs = omega arith in lefts_some (suc n) f xs more ∙ ap (λ ys. ys ++ replicate (suc n) f) (drop_all xs (suc n) h) ∙ ap (λ m. replicate m f) e)
    ]

lefts_are : (n : ℕ) (f : Logic) (xs : List Logic) → lefts n f xs ≡ filled_left f n xs
lefts_are n f xs =
    elim (cases_lt n (length xs)) [
      | inl less ↦ (let e : n ≡ min n (length xs) = omega arith in lefts_some n f xs (omega arith) ∙ ap (λ m. drop m xs ++ replicate m f) e)
      | inr more ↦ (let e : length xs ≡ min n (length xs) = omega arith in lefts_all n f xs more ∙ ap (λ ys. ys ++ replicate (length xs) f) (sym (drop_all xs (length xs) (omega arith))) ∙ ap (λ m. drop m xs ++ replicate m f) e)
    ]

logical_lefts : (n : ℕ) (xs : List Logic) → places n LogicalLeft xs ≡ lefts n Zero xs
unfolding lefts
logical_lefts zero xs = refl
logical_lefts (suc n) xs = ap (one_left Zero) (logical_lefts n xs)

pub logical_left : (n : ℕ) (xs : List Logic) → places n LogicalLeft xs ≡ filled_left Zero n xs
logical_left n xs = logical_lefts n xs ∙ lefts_are n Zero xs

rightmost_new : (o f : Logic) (ys : List Logic) → rightmost o (ys ++ f ∷ []) ≡ f
rightmost_new o f [] = refl
rightmost_new o f (y ∷ ys) = rightmost_new y f ys

right_kept : (f : Logic) (ys : List Logic) → rightmost Zero ys ≡ f → rightmost Zero (one_left f ys) ≡ f
right_kept f [] h = h
right_kept f (y ∷ ys) h = rightmost_new Zero f ys

arithmetic_lefts : (n : ℕ) (xs : List Logic) → (places n ArithmeticLeft xs ≡ lefts n (rightmost Zero xs) xs) × (rightmost Zero (lefts n (rightmost Zero xs) xs) ≡ rightmost Zero xs)
unfolding lefts
arithmetic_lefts zero xs = (refl, refl)
arithmetic_lefts (suc n) xs =
    let before = arithmetic_lefts n xs in
    let f = rightmost Zero xs in
    (ap (one_place ArithmeticLeft) before.0 ∙ ap (λ g. one_left g (lefts n f xs)) before.1, right_kept f (lefts n f xs) before.1)

pub arithmetic_left : (n : ℕ) (xs : List Logic) → places n ArithmeticLeft xs ≡ filled_left (rightmost Zero xs) n xs
arithmetic_left n xs = (arithmetic_lefts n xs).0 ∙ lefts_are n (rightmost Zero xs) xs

-- ---- to the right

rights : ℕ → Logic → List Logic → List Logic
rights zero f xs = xs
rights (suc n) f xs = one_right f (rights n f xs)

take_front : (m n : ℕ) (f : Logic) (ys : List Logic) → n ≤ m → take m (replicate n f ++ ys) ≡ replicate n f ++ take (m - n) ys
take_front m zero f ys h = let e : m ≡ m - 0 = omega arith in ap (λ k. take k ys) e
take_front zero (suc n) f ys h = absurd (omega arith)
take_front (suc m) (suc n) f ys h =
    let e : m - n ≡ suc m - suc n = omega arith in
    ap (λ zs. f ∷ zs) (take_front m n f ys (omega arith)) ∙ ap (λ k. f ∷ replicate n f ++ take k ys) e

take_less : (m n : ℕ) (xs : List Logic) → m ≤ n → take m (take n xs) ≡ take m xs
take_less zero n xs h = refl
take_less (suc m) zero xs h = absurd (omega arith)
take_less (suc m) (suc n) [] h = refl
take_less (suc m) (suc n) (x ∷ xs) h = ap (λ ys. x ∷ ys) (take_less m n xs (omega arith))

rights_some : (n : ℕ) (f : Logic) (xs : List Logic) → n ≤ length xs → rights n f xs ≡ replicate n f ++ take (length xs - n) xs
unfolding rights
rights_some zero f xs h = let e : length xs ≤ length xs - 0 = omega arith in sym (take_all (length xs - 0) xs e)
rights_some (suc n) f xs h =
    let rest = take (length xs - n) xs in
    let ys = replicate n f ++ rest in
    let m : ℕ = length xs - 1 in
    let long : length ys ≡ suc m = length-append (replicate n f) rest ∙ (let a : length (replicate n f) ≡ n = length-replicate n f in let b : length rest ≡ min (length xs - n) (length xs) = length-take (length xs - n) xs in omega arith) in
    let e : m - n ≡ length xs - suc n = omega arith in
    ap (one_right f) (rights_some n f xs (omega arith))
    ∙ ap (λ k. take k (f ∷ ys)) long
    ∙ ap (λ zs. f ∷ zs) (take_front m n f rest (omega arith))
    ∙ ap (λ zs. f ∷ replicate n f ++ zs) (take_less (m - n) (length xs - n) xs (omega arith) ∙ ap (λ k. take k xs) e)

right_same : (k : ℕ) (f : Logic) → one_right f (replicate k f) ≡ replicate k f
right_same k f = ap (λ m. take m (replicate (suc k) f)) (length-replicate k f) ∙ take-replicate k (suc k) f (omega arith)

rights_all : (n : ℕ) (f : Logic) (xs : List Logic) → length xs ≤ n → rights n f xs ≡ replicate (length xs) f
unfolding rights
rights_all zero f [] h = refl
rights_all zero f (x ∷ xs) h = absurd (omega arith)
rights_all (suc n) f xs h =
    elim (cases_lt (length xs) (suc n)) [
      | inl less ↦ ap (one_right f) (rights_all n f xs (omega arith)) ∙ right_same (length xs) f
      | inr more ↦ (
          let e : suc n ≡ length xs = omega arith in
          let z : length xs - suc n ≡ 0 = omega arith in
          rights_some (suc n) f xs more ∙ ap (λ m. replicate (suc n) f ++ take m xs) z ∙ append_none (replicate (suc n) f) ∙ ap (λ m. replicate m f) e)
    ]

rights_are : (n : ℕ) (f : Logic) (xs : List Logic) → rights n f xs ≡ filled_right f n xs
rights_are n f xs =
    elim (cases_lt n (length xs)) [
      | inl less ↦ (let e : n ≡ min n (length xs) = omega arith in rights_some n f xs (omega arith) ∙ ap (λ m. replicate m f ++ take (length xs - m) xs) e)
      | inr more ↦ (
          let e : length xs ≡ min n (length xs) = omega arith in
          let z : 0 ≡ length xs - length xs = omega arith in
          rights_all n f xs more ∙ sym (append_none (replicate (length xs) f)) ∙ ap (λ m. replicate (length xs) f ++ take m xs) z ∙ ap (λ m. replicate m f ++ take (length xs - m) xs) e)
    ]

left_kept : (f : Logic) (ys : List Logic) → leftmost Zero ys ≡ f → leftmost Zero (one_right f ys) ≡ f
left_kept f [] h = h
left_kept f (y ∷ ys) h = refl

logical_rights : (n : ℕ) (xs : List Logic) → places n LogicalRight xs ≡ rights n Zero xs
unfolding rights
logical_rights zero xs = refl
logical_rights (suc n) xs = ap (one_right Zero) (logical_rights n xs)

pub logical_right : (n : ℕ) (xs : List Logic) → places n LogicalRight xs ≡ filled_right Zero n xs
logical_right n xs = logical_rights n xs ∙ rights_are n Zero xs

arithmetic_rights : (n : ℕ) (xs : List Logic) → (places n ArithmeticRight xs ≡ rights n (leftmost Zero xs) xs) × (leftmost Zero (rights n (leftmost Zero xs) xs) ≡ leftmost Zero xs)
unfolding rights
arithmetic_rights zero xs = (refl, refl)
arithmetic_rights (suc n) xs =
    let before = arithmetic_rights n xs in
    let f = leftmost Zero xs in
    (ap (one_place ArithmeticRight) before.0 ∙ ap (λ g. one_right g (rights n f xs)) before.1, left_kept f (rights n f xs) before.1)

pub arithmetic_right : (n : ℕ) (xs : List Logic) → places n ArithmeticRight xs ≡ filled_right (leftmost Zero xs) n xs
arithmetic_right n xs = (arithmetic_rights n xs).0 ∙ rights_are n (leftmost Zero xs) xs

-- ---- rotations

rotate_one : (k : ℕ) (xs : List Logic) → k < length xs → one_place RotateLeft (rotated k xs) ≡ rotated (suc k) xs
rotate_one k xs h =
    let y = get_or xs k Zero in
    ap (λ ys. one_place RotateLeft (ys ++ take k xs)) (split_suc xs k h)
    ∙ append_assoc (drop (suc k) xs) (take k xs) (y ∷ [])
    ∙ ap (λ ys. drop (suc k) xs ++ ys) (sym (take_suc xs k h))

rotated_round : (xs : List Logic) → rotated (length xs) xs ≡ xs
rotated_round xs = ap (λ ys. ys ++ take (length xs) xs) (drop_all xs (length xs) (omega arith)) ∙ take_all (length xs) xs (omega arith)

record Turned (n : ℕ) (xs : List Logic) : Type 0 where
  rounds : ℕ
  place : ℕ
  below : place < length xs
  sum : n ≡ rounds * length xs + place
  left : places n RotateLeft xs ≡ rotated place xs
  right : places n RotateRight xs ≡ rotated (length xs - place) xs

front_of : (zs ys : List Logic) → take (length zs) (zs ++ ys) ≡ zs
front_of [] ys = refl
front_of (z ∷ zs) ys = ap (λ xs. z ∷ xs) (front_of zs ys)

right_one : (w : Logic) (zs : List Logic) → one_place RotateRight (zs ++ w ∷ []) ≡ w ∷ zs
right_one w zs =
    let long : length (zs ++ w ∷ []) ≡ suc (length zs) = length-append zs (w ∷ []) ∙ omega arith in
    ap (λ f. one_right f (zs ++ w ∷ [])) (rightmost_new Zero w zs)
    ∙ ap (λ k. take k (w ∷ zs ++ w ∷ [])) long
    ∙ ap (λ ys. w ∷ ys) (front_of zs (w ∷ []))

rotate_back : (i : ℕ) (xs : List Logic) → i < length xs → one_place RotateRight (rotated (suc i) xs) ≡ rotated i xs
rotate_back i xs h =
    let w = get_or xs i Zero in
    ap (λ ys. one_place RotateRight (drop (suc i) xs ++ ys)) (take_suc xs i h)
    ∙ ap (one_place RotateRight) (sym (append_assoc (drop (suc i) xs) (take i xs) (w ∷ [])))
    ∙ right_one w (drop (suc i) xs ++ take i xs)
    ∙ ap (λ ys. ys ++ take i xs) (sym (split_suc xs i h))

turned : (n : ℕ) (xs : List Logic) → 0 < length xs → Turned n xs
turned zero xs some = record {
  rounds = 0;
  place = 0;
  below = some;
  sum = omega arith;
  left = sym (append_none xs);
  right = (let e : length xs ≡ length xs - 0 = omega arith in sym (rotated_round xs) ∙ ap (λ m. rotated m xs) e);
}
turned (suc n) xs some =
    let before = turned n xs some in
    let k : ℕ = before.place in
    let below : k < length xs = before.below in
    let sum : n ≡ before.rounds * length xs + k = before.sum in
    let i : ℕ = length xs - suc k in
    let j : length xs - k ≡ suc i = omega arith in
    let left : places (suc n) RotateLeft xs ≡ rotated (suc k) xs = ap (one_place RotateLeft) before.left ∙ rotate_one k xs below in
    let right : places (suc n) RotateRight xs ≡ rotated i xs = ap (one_place RotateRight) (before.right ∙ ap (λ m. rotated m xs) j) ∙ rotate_back i xs (omega arith) in
    elim (cases_lt (suc k) (length xs)) [
      | inl less ↦ record { rounds = before.rounds; place = suc k; below = less; sum = omega arith; left = left; right = right }
      | inr more ↦ (
          let e : suc k ≡ length xs = omega arith in
          let z : i ≡ 0 = omega arith in
          let l : length xs ≡ length xs - 0 = omega arith in
          let r : suc n ≡ suc before.rounds * length xs + 0 = grind arith in
          record {
            rounds = suc before.rounds;
            place = 0;
            below = some;
            sum = r;
            left = left ∙ ap (λ m. rotated m xs) e ∙ rotated_round xs ∙ sym (append_none xs);
            right = right ∙ ap (λ m. rotated m xs) z ∙ append_none xs ∙ sym (rotated_round xs) ∙ ap (λ m. rotated m xs) l;
          })
    ]

place_is : (n : ℕ) (xs : List Logic) (t : Turned n xs) → n % length xs ≡ t.place
place_is n xs t = ap (λ m. m % length xs) t.sum ∙ mod-mul-add t.rounds (length xs) t.place t.below

pub rotation_left : (n : ℕ) (xs : List Logic) → 0 < length xs → places n RotateLeft xs ≡ rotated (n % length xs) xs
rotation_left n xs some = let t = turned n xs some in t.left ∙ ap (λ m. rotated m xs) (sym (place_is n xs t))

pub rotation_right : (n : ℕ) (xs : List Logic) → 0 < length xs → places n RotateRight xs ≡ rotated (length xs - n % length xs) xs
rotation_right n xs some = let t = turned n xs some in t.right ∙ ap (λ m. rotated (length xs - m) xs) (sym (place_is n xs t))

pub nothing_left : (n : ℕ) → places n RotateLeft [] ≡ []
nothing_left zero = refl
nothing_left (suc n) = ap (one_place RotateLeft) (nothing_left n)

pub nothing_right : (n : ℕ) → places n RotateRight [] ≡ []
nothing_right zero = refl
nothing_right (suc n) = ap (one_place RotateRight) (nothing_right n)

-- ---- lengths

left_long : (f : Logic) (xs : List Logic) → length (one_left f xs) ≡ length xs
left_long f [] = refl
left_long f (x ∷ xs) = length-append xs (f ∷ []) ∙ omega arith

right_long : (f : Logic) (xs : List Logic) → length (one_right f xs) ≡ length xs
right_long f xs = length-take (length xs) (f ∷ xs) ∙ (let e : length (f ∷ xs) ≡ suc (length xs) = refl in omega arith)

one_long : (o : ShiftOperator) (xs : List Logic) → length (one_place o xs) ≡ length xs
one_long LogicalLeft xs = left_long Zero xs
one_long LogicalRight xs = right_long Zero xs
one_long ArithmeticLeft xs = left_long (rightmost Zero xs) xs
one_long ArithmeticRight xs = right_long (leftmost Zero xs) xs
one_long RotateLeft xs = left_long (leftmost Zero xs) xs
one_long RotateRight xs = right_long (rightmost Zero xs) xs

places_long : (n : ℕ) (o : ShiftOperator) (xs : List Logic) → length (places n o xs) ≡ length xs
places_long zero o xs = refl
places_long (suc n) o xs = one_long o (places n o xs) ∙ places_long n o xs

pub shifts_long : (o : ShiftOperator) (n : ℤ) (xs : List Logic) → length (shifted o n xs) ≡ length xs
shifts_long o (pos n) xs = places_long n o xs
shifts_long o (negsuc n) xs = places_long (suc n) (opposite o) xs

-- ---- tests

test_same : (m n : ℕ) → (m == n) ≡ true → m ≡ n
test_same m n h = grind (arith, nat_tests)

test_apart : (m n : ℕ) → (m == n) ≡ false → m ≡ n → ⊥
test_apart m n h e = grind (arith, nat_tests)

empty_is : {A : Type 0} (xs : List A) → length xs ≡ 0 → xs ≡ []
empty_is [] h = refl
empty_is (x ∷ xs) h = absurd (omega arith)

pub none_of : {A : Type 0} (xs : List A) → (length xs == 0) ≡ true → xs ≡ []
none_of xs h = empty_is xs (test_same (length xs) 0 h)

pub some_of : {A : Type 0} (xs : List A) → (length xs == 0) ≡ false → 0 < length xs
some_of xs h = let apart : length xs ≡ 0 → ⊥ = test_apart (length xs) 0 h in omega arith
