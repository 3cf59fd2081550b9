-- Lists of items: fronts, rests, and what stands where others were written.
use Rattle.std.proofs.Common.{◌≡◌, ◌<◌, ◌≤◌, ℕ, zero, suc, ◌+◌, ◌-◌, refl, sym, ap, ◌∙◌, subst, arith}
use Rattle.std.specs.Prelude.{Ok}
use Rattle.vd_composites.specs.Composites.{Value, Items, none, item, count, joined, without, first_of, written}
use Rattle.vd_composites.specs.Parts.{misshapen, item_at, first_item}

pub count_joined : {L : Type 0} (vs ws : Items L) → count (joined vs ws) ≡ count vs + count ws
count_joined none ws = omega arith
count_joined (item v vs) ws = ap suc (count_joined vs ws) ∙ omega arith

pub joined_assoc : {L : Type 0} (us vs ws : Items L) → joined (joined us vs) ws ≡ joined us (joined vs ws)
joined_assoc none vs ws = refl
joined_assoc (item u us) vs ws = ap (item u) (joined_assoc us vs ws)

pub joined_none : {L : Type 0} (vs : Items L) → joined vs none ≡ vs
joined_none none = refl
joined_none (item v vs) = ap (item v) (joined_none vs)

pub count_first : {L : Type 0} (n : ℕ) (vs : Items L) → n ≤ count vs → count (first_of n vs) ≡ n
count_first zero vs h = refl
count_first (suc n) none h = absurd (omega arith)
count_first (suc n) (item v vs) h = ap suc (count_first n vs (omega arith))

-- fewer than asked are all
pub first_all : {L : Type 0} (n : ℕ) (vs : Items L) → count vs ≤ n → first_of n vs ≡ vs
first_all zero none h = refl
first_all zero (item v vs) h = absurd (omega arith)
first_all (suc n) none h = refl
first_all (suc n) (item v vs) h = ap (item v) (first_all n vs (omega arith))

pub first_joined : {L : Type 0} (vs ws : Items L) → first_of (count vs) (joined vs ws) ≡ vs
first_joined none ws = refl
first_joined (item v vs) ws = ap (item v) (first_joined vs ws)

pub without_joined : {L : Type 0} (vs ws : Items L) → without (count vs) (joined vs ws) ≡ ws
without_joined none ws = refl
without_joined (item v vs) ws = without_joined vs ws

pub split_at : {L : Type 0} (n : ℕ) (vs : Items L) → joined (first_of n vs) (without n vs) ≡ vs
split_at zero vs = refl
split_at (suc n) none = refl
split_at (suc n) (item v vs) = ap (item v) (split_at n vs)

pub without_none : {L : Type 0} (n : ℕ) → without {L = L} n none ≡ none
without_none zero = refl
without_none (suc n) = refl

pub without_more : {L : Type 0} (n m : ℕ) (vs : Items L) → without (n + m) vs ≡ without m (without n vs)
without_more {L} zero m vs = let e : zero + m ≡ m = omega arith in ap (λ k. without k vs) e
without_more {L} (suc n) m none = without_none (suc n + m) ∙ sym (without_none m)
without_more {L} (suc n) m (item v vs) = let e : suc n + m ≡ suc (n + m) = omega arith in ap (λ k. without k (item v vs)) e ∙ without_more n m vs

pub count_without : {L : Type 0} (n : ℕ) (vs : Items L) → n ≤ count vs → n + count (without n vs) ≡ count vs
count_without zero vs h = omega arith
count_without (suc n) none h = absurd (omega arith)
count_without (suc n) (item v vs) h = let e : n + count (without n vs) ≡ count vs = count_without n vs (omega arith) in omega arith

-- ---- the item at a place

pub item_in_front : {L : Type 0} (k : ℕ) (us vs : Items L) → k < count us → item_at k (joined us vs) ≡ item_at k us
item_in_front k none vs h = absurd (omega arith)
item_in_front zero (item u us) vs h = refl
item_in_front (suc k) (item u us) vs h = item_in_front k us vs (omega arith)

pub item_of_first : {L : Type 0} (k n : ℕ) (vs : Items L) → k < n → item_at k (first_of n vs) ≡ item_at k vs
item_of_first k zero vs h = absurd (omega arith)
item_of_first k (suc n) none h = refl
item_of_first zero (suc n) (item v vs) h = refl
item_of_first (suc k) (suc n) (item v vs) h = item_of_first k n vs (omega arith)

pub item_behind : {L : Type 0} (k : ℕ) (us vs : Items L) → item_at (count us + k) (joined us vs) ≡ item_at k vs
item_behind k us vs = ap first_item (without_more (count us) k (joined us vs) ∙ ap (without k) (without_joined us vs))

-- there is an item at each place below the count, and only there
pub item_there : {L : Type 0} (k : ℕ) (vs : Items L) (v : Value L) → item_at k vs ≡ Ok v → k < count vs
item_there {L} k none v h =
    let e : first_item (without {L = L} k none) ≡ misshapen = ap first_item (without_none k) in
    let f : misshapen {A = Value L} ≡ Ok v = sym e ∙ h in
    absurd cc
item_there zero (item u us) v h = omega arith
item_there (suc k) (item u us) v h = let below : k < count us = item_there k us v h in omega arith

-- ---- others written in

pub count_written : {L : Type 0} (n : ℕ) (new vs : Items L) → n + count new ≤ count vs → count (written n new vs) ≡ count vs
count_written n new vs h =
    let front : count (first_of n vs) ≡ n = count_first n vs (omega arith) in
    let rest : (n + count new) + count (without (n + count new) vs) ≡ count vs = count_without (n + count new) vs h in
    count_joined (first_of n vs) (joined new (without (n + count new) vs)) ∙ (let two : count (joined new (without (n + count new) vs)) ≡ count new + count (without (n + count new) vs) = count_joined new (without (n + count new) vs) in omega arith)

-- what is read at and behind the place
pub written_there : {L : Type 0} (n : ℕ) (new vs : Items L) → n ≤ count vs → without n (written n new vs) ≡ joined new (without (n + count new) vs)
written_there n new vs h =
    let front : count (first_of n vs) ≡ n = count_first n vs h in
    let back = joined new (without (n + count new) vs) in
    subst (λ k. without k (joined (first_of n vs) back) ≡ back) front (without_joined (first_of n vs) back)

pub before_written : {L : Type 0} (k n : ℕ) (new vs : Items L) → n ≤ count vs → k < n → item_at k (written n new vs) ≡ item_at k vs
before_written k n new vs h below =
    let front : count (first_of n vs) ≡ n = count_first n vs h in
    item_in_front k (first_of n vs) (joined new (without (n + count new) vs)) (omega arith) ∙ item_of_first k n vs below

pub behind_written : {L : Type 0} (k n : ℕ) (new vs : Items L) → n + count new ≤ count vs → n + count new ≤ k → item_at k (written n new vs) ≡ item_at k vs
behind_written k n new vs h beyond =
    let j : ℕ = k - (n + count new) in
    let e : n + (count new + j) ≡ k = omega arith in
    let f : (n + count new) + j ≡ k = omega arith in
    let there : without n (written n new vs) ≡ joined new (without (n + count new) vs) = written_there n new vs (omega arith) in
    subst (λ m. item_at m (written n new vs) ≡ item_at m vs) e
    (ap first_item (without_more n (count new + j) (written n new vs) ∙ ap (without (count new + j)) there)
    ∙ item_behind j new (without (n + count new) vs)
    ∙ ap first_item (sym (without_more (n + count new) j vs))
    ∙ ap (λ m. item_at m vs) (f ∙ sym e))

pub written_none : {L : Type 0} (n : ℕ) (vs : Items L) → written n none vs ≡ vs
written_none n vs = let e : n + 0 ≡ n = omega arith in ap (λ k. joined (first_of n vs) (without k vs)) e ∙ split_at n vs

-- what stands at a place, written there
pub written_back : {L : Type 0} (n : ℕ) (new vs : Items L) → first_of (count new) (without n vs) ≡ new → written n new vs ≡ vs
written_back n new vs e =
    ap (λ (us : Items _). joined (first_of n vs) (joined us (without (n + count new) vs))) (sym e)
    ∙ ap (λ (us : Items _). joined (first_of n vs) (joined (first_of (count new) (without n vs)) us)) (without_more n (count new) vs)
    ∙ ap (joined (first_of n vs)) (split_at (count new) (without n vs))
    ∙ split_at n vs
