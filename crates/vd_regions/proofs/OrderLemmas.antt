-- Numbers in order, each once: two lists of the same numbers are one.
use Rattle.std.proofs.Common.{◌≡◌, ◌<◌, ◌⊎◌, ◌==◌, nat_lt, inl, inr, ℕ, suc, List, [], ◌∷◌, ◌+◌, length, if◌then◌else◌, refl, sym, ap, subst, ◌∙◌, arith}
use Rattle.std.specs.List.{Contains}
use Rattle.std.specs.List.Sorted.{IsStrictlyIncreasing}
use Rattle.std.proofs.lemmas.List.Elements.{All-contains_itself}
use Rattle.std.proofs.lemmas.List.Kept.{AllPairs-from_increasing, AllPairs-cons}
use Rattle.std.proofs.lemmas.Map.Keys.{IsStrictlyIncreasing-from_sorted, sorted_from_strictly_increasing, sorted_tail}
use Rattle.std.specs.Ordering.{nat_cmp}
use Rattle.std.proofs.lemmas.Bool.{cases_Bool, cases_order, eqb-true, eqb-false, ltb-true, ltb-false}
use Rattle.vd_regions.specs.InOrder.{put_once, in_order}
use Rattle.vd_regions.proofs.MemberLemmas.{no_member, cons_cases, cons_here, cons_there}

rest_rises : (x : ℕ) (xs : List ℕ) → IsStrictlyIncreasing (x ∷ xs) → IsStrictlyIncreasing xs
rest_rises x xs rises = IsStrictlyIncreasing-from_sorted xs (sorted_tail nat_cmp x xs (sorted_from_strictly_increasing (x ∷ xs) rises))

first_is_least : (x : ℕ) (xs : List ℕ) → IsStrictlyIncreasing (x ∷ xs) → (y : ℕ) → Contains xs y → x < y
first_is_least x xs rises y (k, within, is) =
    let lt : 0 < suc k = omega arith in
    let in_list : suc k < suc (length xs) = omega arith in
    subst (λ n. x < n) is (AllPairs-from_increasing (x ∷ xs) rises 0 (suc k) y lt in_list)

rises_with : (x : ℕ) (xs : List ℕ) → ((y : ℕ) → Contains xs y → x < y) → IsStrictlyIncreasing xs → IsStrictlyIncreasing (x ∷ xs)
rises_with x xs least rises k within =
    AllPairs-cons (λ a b. a < b) x xs (λ i d lt. least _ (All-contains_itself xs i d lt)) (AllPairs-from_increasing xs rises) k (k + 1) 0 (omega arith) within

-- two lists that rise and have the same numbers
pub same_in_order : (xs ys : List ℕ) → IsStrictlyIncreasing xs → IsStrictlyIncreasing ys → ((k : ℕ) → Contains xs k → Contains ys k)
    → ((k : ℕ) → Contains ys k → Contains xs k) → xs ≡ ys
same_in_order [] [] rises also there back = refl
same_in_order [] (y ∷ ys) rises also there back = absurd (no_member y (back y (cons_here y ys)))
same_in_order (x ∷ xs) [] rises also there back = absurd (no_member x (there x (cons_here x xs)))
same_in_order (x ∷ xs) (y ∷ ys) rises also there back =
    let same : x ≡ y = elim (cons_cases y ys x (there x (cons_here x xs))) [
      | inl e ↦ sym e
      | inr later ↦ elim (cons_cases x xs y (back y (cons_here y ys))) [
        | inl e ↦ e
        | inr after ↦ absurd (omega (arith, first_is_least y ys also x later, first_is_least x xs rises y after))
      ]
    ] in
    ap (λ n. n ∷ xs) same
    ∙ ap (λ zs. y ∷ zs) (same_in_order xs ys (rest_rises x xs rises) (rest_rises y ys also)
    (λ k c. elim (cons_cases y ys k (there k (cons_there x xs k c))) [
      | inl e ↦ absurd (omega (arith, e, same, first_is_least x xs rises k c))
      | inr r ↦ r
    ])
    (λ k c. elim (cons_cases x xs k (back k (cons_there y ys k c))) [
      | inl e ↦ absurd (omega (arith, e, same, first_is_least y ys also k c))
      | inr r ↦ r
    ]))

-- ---- a number more

from_put : (n : ℕ) (ms : List ℕ) (k : ℕ) → Contains (put_once n ms) k → (n ≡ k) ⊎ Contains ms k
from_put n [] k c = cons_cases n [] k c
from_put n (m ∷ ms) k c = elim (cases_Bool (n == m)) [
  | inl same ↦ inr (subst (λ zs. Contains zs k) (ap (λ b. if b then m ∷ ms else (if nat_lt n m then n ∷ (m ∷ ms) else m ∷ put_once n ms)) same) c)
  | inr other ↦
      let rest : Contains (if nat_lt n m then n ∷ (m ∷ ms) else m ∷ put_once n ms) k =
      subst (λ zs. Contains zs k) (ap (λ b. if b then m ∷ ms else (if nat_lt n m then n ∷ (m ∷ ms) else m ∷ put_once n ms)) other) c in
      elim (cases_Bool (nat_lt n m)) [
        | inl less ↦ cons_cases n (m ∷ ms) k (subst (λ zs. Contains zs k) (ap (λ b. if b then n ∷ (m ∷ ms) else m ∷ put_once n ms) less) rest)
        | inr more ↦ elim (cons_cases m (put_once n ms) k (subst (λ zs. Contains zs k) (ap (λ b. if b then n ∷ (m ∷ ms) else m ∷ put_once n ms) more) rest)) [
          | inl e ↦ inr (subst (Contains (m ∷ ms)) e (cons_here m ms))
          | inr r ↦ elim (from_put n ms k r) [ inl e ↦ inl e | inr d ↦ inr (cons_there m ms k d) ]
        ]
      ]
]

in_put : (n : ℕ) (ms : List ℕ) (k : ℕ) → (n ≡ k) ⊎ Contains ms k → Contains (put_once n ms) k
in_put n [] k (inl e) = subst (Contains (n ∷ [])) e (cons_here n [])
in_put n [] k (inr c) = absurd (no_member k c)
in_put n (m ∷ ms) k either = elim (cases_Bool (n == m)) [
  | inl same ↦ rw same (elim either [
    | inl e ↦ subst (Contains (m ∷ ms)) (sym (eqb-true n m same) ∙ e) (cons_here m ms)
    | inr c ↦ c
  ])
  | inr other ↦ rw other (elim (cases_Bool (nat_lt n m)) [
    | inl less ↦ rw less (elim either [
      | inl e ↦ subst (Contains (n ∷ (m ∷ ms))) e (cons_here n (m ∷ ms))
      | inr c ↦ cons_there n (m ∷ ms) k c
    ])
    | inr more ↦ rw more (elim either [
      | inl e ↦ cons_there m (put_once n ms) k (in_put n ms k (inl e))
      | inr c ↦ elim (cons_cases m ms k c) [
        | inl e ↦ subst (Contains (m ∷ put_once n ms)) e (cons_here m (put_once n ms))
        | inr r ↦ cons_there m (put_once n ms) k (in_put n ms k (inr r))
      ]
    ])
  ])
]

put_rises : (n : ℕ) (ms : List ℕ) → IsStrictlyIncreasing ms → IsStrictlyIncreasing (put_once n ms)
put_rises n [] rises = rises_with n [] (λ y c. absurd (no_member y c)) rises
put_rises n (m ∷ ms) rises = elim (cases_Bool (n == m)) [
  | inl same ↦ rw same rises
  | inr other ↦ rw other (elim (cases_Bool (nat_lt n m)) [
    | inl less ↦ rw less (rises_with n (m ∷ ms) (λ y c. elim (cons_cases m ms y c) [
      | inl e ↦ omega (arith, e, ltb-true n m less)
      | inr r ↦ omega (arith, ltb-true n m less, first_is_least m ms rises y r)
    ]) rises)
    | inr more ↦ rw more (rises_with m (put_once n ms) (λ y c. elim (from_put n ms y c) [
      | inl e ↦ let ne : n ≡ m → ⊥ = eqb-false n m other in elim (cases_less n m) [
        | inl lt ↦ absurd (omega (arith, lt, ltb-false n m more))
        | inr ge ↦ elim ge [ inl same ↦ absurd (ne same) | inr gt ↦ omega (arith, e, gt) ]
      ]
      | inr r ↦ first_is_least m ms rises y r
    ]) (put_rises n ms (rest_rises m ms rises)))
  ])
]
  where
    cases_less : (a b : ℕ) → (a < b) ⊎ ((a ≡ b) ⊎ (b < a))
    cases_less a b = elim (cases_order a b) [ inl e ↦ inr (inl e) | inr o ↦ elim o [ inl lt ↦ inl lt | inr gt ↦ inr (inr gt) ] ]

-- ---- all numbers of a list

pub from_order : (ns : List ℕ) (k : ℕ) → Contains (in_order ns) k → Contains ns k
from_order [] k c = absurd (no_member k c)
from_order (n ∷ ns) k c = elim (from_put n (in_order ns) k c) [
  | inl e ↦ subst (Contains (n ∷ ns)) e (cons_here n ns)
  | inr r ↦ cons_there n ns k (from_order ns k r)
]

pub to_order : (ns : List ℕ) (k : ℕ) → Contains ns k → Contains (in_order ns) k
to_order [] k c = absurd (no_member k c)
to_order (n ∷ ns) k c = in_put n (in_order ns) k (elim (cons_cases n ns k c) [ inl e ↦ inl e | inr r ↦ inr (to_order ns k r) ])

pub order_rises : (ns : List ℕ) → IsStrictlyIncreasing (in_order ns)
order_rises [] = λ k within. absurd (omega (arith, within))
order_rises (n ∷ ns) = put_rises n (in_order ns) (order_rises ns)
