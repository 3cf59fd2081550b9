-- What a sweep over choices in the order of their least values keeps.
use Rattle.std.proofs.Common.{◌≡◌, ◌≢◌, ℕ, ◌+◌, ◌<◌, ◌≤◌, ◌⊎◌, List, length, get_or, swap, IsPermutation, inl, inr, refl, sym, ap, subst, ◌∙◌, arith, ⊎_elim, min, max, take, length-take, Bool, IsTrue, ◌↔◌}
use Rattle.std.proofs.lemmas.Bool.{cases_eq, cases_lt}
use Rattle.std.proofs.lemmas.List.{get_or_default, get_or_past, get_or-take}
use Rattle.std.proofs.lemmas.List.Edits.{Swapped, swapped_from_swap}
use Rattle.std.proofs.lemmas.List.Sorted.{IsPermutation-keeps, IsPermutation-sym}
use Rattle.std.specs.List.Sorted.{IsNonDecreasingBy}
use Rattle.vd_choices.specs.declared.intervals.Interval.{Interval}
use Rattle.vd_choices.specs.Intervals.{Has, choice_at, IsGiven, IsCovered, Share, RepeatsEarlier, IsRepeated, IsFirstRepeated}

abbrev pub null_choice : Interval
null_choice = record { low = 1; high = 0 }

abbrev pub AreInOrder : List Interval → Type 0
AreInOrder choices = IsNonDecreasingBy (λ (choice : Interval). choice.low) choices

-- ---- values that two choices share

pub Share-from_ends : (a b : Interval) → max a.low b.low ≤ min a.high b.high → Share a b
Share-from_ends a b h = (max a.low b.low, (omega arith, omega arith), (omega arith, omega arith))

pub ends_from_Share : (a b : Interval) → Share a b → max a.low b.low ≤ min a.high b.high
ends_from_Share a b s = omega (arith, s.1.0, s.1.1, s.2.0, s.2.1)

Share-flip : (a b : Interval) → Share a b → Share b a
Share-flip a b s = (s.0, s.2, s.1)

-- ---- another order

-- where a swap of a and b takes the element at k
abbrev To : ℕ → ℕ → ℕ → ℕ → Type 0
To a b k m = ((k ≡ a) × (m ≡ b)) ⊎ (((k ≡ b) × (m ≡ a)) ⊎ ((k ≢ a) × (k ≢ b) × (m ≡ k)))

goes : {X : Type 0} (f g : ℕ → X) (a b k : ℕ) → Swapped f g a b → (k ≡ a) ⊎ (k ≢ a) → (k ≡ b) ⊎ (k ≢ b) → (m : ℕ) × To a b k m × (g m ≡ f k)
goes f g a b k s (inl e) y = (b, inl (e, refl), s.1 ∙ ap f (sym e))
goes f g a b k s (inr n) (inl e) = (a, inr (inl (e, refl)), s.0 ∙ ap f (sym e))
goes f g a b k s (inr n) (inr o) = (k, inr (inr (n, o, refl)), s.2 k n o)

moved_to : (l : List Interval) (a b k : ℕ) → a < length l → b < length l → (m : ℕ) × To a b k m × (choice_at (swap l a b) m ≡ choice_at l k)
moved_to l a b k p q = goes _ _ a b k (swapped_from_swap l (swap l a b) a b null_choice p q refl) (cases_eq k a) (cases_eq k b)

pub IsGiven-moved : (xs ys : List Interval) (v : ℕ) → IsPermutation xs ys → IsGiven xs v → IsGiven ys v
IsGiven-moved xs ys v moved given =
    IsPermutation-keeps xs (λ l. IsGiven l v) given
    (λ l a b p q h. let x = moved_to l a b h.0 p q in (x.0, subst (λ c. Has c v) (sym x.2) h.1)) ys moved

abbrev IsTwice : List Interval → Type 0
IsTwice l = (i : ℕ) × (j : ℕ) × (i ≢ j) × Share (choice_at l i) (choice_at l j)

twice_swapped : (l : List Interval) (a b : ℕ) → a < length l → b < length l → IsTwice l → IsTwice (swap l a b)
twice_swapped l a b p q h =
    let x = moved_to l a b h.0 p q in
    let y = moved_to l a b h.1 p q in
    let other : x.0 ≢ y.0 = λ same. h.2 (omega (arith, same, x.1, y.1)) in
    (x.0, y.0, other, subst (λ c. Share c (choice_at (swap l a b) y.0)) (sym x.2) (subst (λ c. Share (choice_at l h.0) c) (sym y.2) h.3))

twice_repeated : (l : List Interval) → IsTwice l → IsRepeated l
twice_repeated l h =
    ⊎_elim (λ (less : h.0 < h.1). let r : IsRepeated l = (h.1, (h.0, less, h.3)) in r)
    (λ (more : h.1 ≤ h.0). let other : h.1 < h.0 = omega (arith, h.2) in let r : IsRepeated l = (h.0, (h.1, other, Share-flip _ _ h.3)) in r) (cases_lt h.0 h.1)

pub IsRepeated-moved : (xs ys : List Interval) → IsPermutation xs ys → IsRepeated xs → IsRepeated ys
IsRepeated-moved xs ys moved h =
    twice_repeated ys (IsPermutation-keeps xs IsTwice (h.1.0, h.0, (λ same. omega (arith, same, h.1.1)), h.1.2) twice_swapped ys moved)

-- ---- places

pub read_at : (l : List Interval) (i : ℕ) (d : Interval) → i < length l → get_or l i d ≡ choice_at l i
read_at l i d h = get_or_default l i d null_choice h

pub Has-within : (l : List Interval) (k v : ℕ) → Has (choice_at l k) v → k < length l
Has-within l k v has =
    ⊎_elim (λ less. less)
    (λ past. let e : choice_at l k ≡ null_choice = get_or_past l k null_choice past in absurd (omega (arith, ap (λ (c : Interval). c.low) e, ap (λ (c : Interval). c.high) e, has.0, has.1)))
    (cases_lt k (length l))

order_at : (l : List Interval) (i j : ℕ) → AreInOrder l → i ≤ j → j < length l → (choice_at l i).low ≤ (choice_at l j).low
order_at l i j up le lt = up i j null_choice le lt

-- the choice that a loop is at, as it reads it
abbrev pub here : List Interval → ℕ → Interval
here l n = get_or l n (record { low = 0; high = 0 })

pub here-is : (l : List Interval) (n : ℕ) → n < length l → here l n ≡ choice_at l n
here-is l n h = read_at l n (record { low = 0; high = 0 }) h

-- ---- covering

-- The values of `within` below `next` are given, and the first n choices give none from there on.
pub record IsSwept (within : Interval) (l : List Interval) (n next : ℕ) : Type 0 where
  pub from : within.low ≤ next
  pub to : next ≤ within.high
  pub given : (v : ℕ) → within.low ≤ v → v < next → IsGiven l v
  pub passed : (k : ℕ) → k < n → (choice_at l k).high < next

pub swept_start : (within : Interval) (l : List Interval) → within.low ≤ within.high → IsSwept within l 0 within.low
swept_start within l h = record { from = omega arith; to = h; given = λ v a b. absurd (omega arith); passed = λ k a. absurd (omega arith) }

module _ (within : Interval) (l : List Interval) (n next : ℕ) (s : IsSwept within l n next) where
  pub swept_end : length l ≤ n → ¬ IsCovered within l
  swept_end all covered =
      let g = covered next (s.from, s.to) in
      omega (arith, s.passed g.0, Has-within l g.0 next g.1, g.1.1)

  module _ (x : Interval) (inside : n < length l) (is : x ≡ choice_at l n) where
    pub swept_gap : AreInOrder l → next < x.low → ¬ IsCovered within l
    swept_gap up gap covered =
        let g = covered next (s.from, s.to) in
        ⊎_elim (λ less. omega (arith, s.passed g.0 less, g.1.1))
        (λ more. omega (arith, order_at l n g.0 up more (Has-within l g.0 next g.1), g.1.0, ap (λ (c : Interval). c.low) is))
        (cases_lt g.0 n)

    has_here : (v : ℕ) → Has x v → IsGiven l v
    has_here v h = (n, subst (λ c. Has c v) is h)

    given_to : x.low ≤ next → (v : ℕ) → within.low ≤ v → v ≤ x.high → IsGiven l v
    given_to starts v low high = ⊎_elim (λ less. s.given v low less) (λ more. has_here v (omega arith, high)) (cases_lt v next)

    pub swept_whole : x.low ≤ next → within.high ≤ x.high → IsCovered within l
    swept_whole starts ends v h = given_to starts v h.0 (omega (arith, h.1))

    below_next : (m : ℕ) → next ≤ m → x.high < m → (k : ℕ) → k < n + 1 → (choice_at l k).high < m
    below_next m le high k less =
        ⊎_elim (λ before. omega (arith, s.passed k before))
        (λ at. let e : n ≡ k = omega arith in omega (arith, high, ap (λ (c : Interval). c.high) (is ∙ ap (choice_at l) e)))
        (cases_lt k n)

    pub swept_more : x.low ≤ next → next ≤ x.high → x.high < within.high → IsSwept within l (n + 1) (x.high + 1)
    swept_more starts on ends = record {
      from = omega (arith, s.from);
      to = omega arith;
      given = λ v a b. given_to starts v a (omega arith);
      passed = below_next (x.high + 1) (omega arith) (omega arith);
    }

    pub swept_same : x.high < next → IsSwept within l (n + 1) next
    swept_same high = record { from = s.from; to = s.to; given = s.given; passed = below_next next (omega arith) high }

-- ---- repeating

-- No two of the first n choices share a value. The last of them that isn't null reaches furthest.
pub record IsApart (l : List Interval) (n : ℕ) (last : Interval) : Type 0 where
  pub apart : (i j : ℕ) → i < j → j < n → ¬ Share (choice_at l i) (choice_at l j)
  pub reach : (k v : ℕ) → k < n → Has (choice_at l k) v → (last.low ≤ last.high) × (v ≤ last.high)
  pub is_one : (last.high < last.low) ⊎ ((j : ℕ) × (j < n) × (last ≡ choice_at l j))

pub apart_start : (l : List Interval) → IsApart l 0 null_choice
apart_start l = record { apart = λ i j a b. absurd (omega arith); reach = λ k v a h. absurd (omega arith); is_one = inl (omega arith) }

pub apart_end : (l : List Interval) (n : ℕ) (last : Interval) → IsApart l n last → length l ≤ n → ¬ IsRepeated l
apart_end l n last s all r = s.apart r.1.0 r.0 r.1.1 (omega (arith, Has-within l r.0 r.1.2.0 r.1.2.2)) r.1.2

module _ (l : List Interval) (n : ℕ) (last : Interval) (s : IsApart l n last) (x : Interval) (inside : n < length l) (is : x ≡ choice_at l n) where
  pub repeated_here : Share last x → IsRepeated l
  repeated_here h =
      ⊎_elim (λ null. absurd (omega (arith, h.1.0, h.1.1)))
      (λ (one : (j : ℕ) × (j < n) × (last ≡ choice_at l j)).
      let r : IsRepeated l = (n, (one.0, one.1, subst (λ c. Share (choice_at l one.0) c) is (subst (λ c. Share c x) one.2 h))) in r)
      s.is_one

  -- a real last choice begins no later than this one
  begins : AreInOrder l → last.low ≤ last.high → last.low ≤ x.low
  begins up real =
      ⊎_elim (λ null. absurd (omega arith))
      (λ (one : (j : ℕ) × (j < n) × (last ≡ choice_at l j)).
      omega (arith, order_at l one.0 n up (omega (arith, one.1)) inside, ap (λ (c : Interval). c.low) one.2, ap (λ (c : Interval). c.low) is))
      s.is_one

  share_low : AreInOrder l → last.low ≤ last.high → x.low ≤ last.high → x.low ≤ x.high → Share last x
  share_low up real meets here = (x.low, (begins up real, meets), (omega arith, here))

  apart_here : AreInOrder l → ¬ Share last x → (i : ℕ) → i < n → ¬ Share (choice_at l i) x
  apart_here up none i less h =
      let r = s.reach i h.0 less h.1 in
      none (share_low up r.0 (omega (arith, r.1, h.2.0)) (omega (arith, h.2.0, h.2.1)))

  apart_on : AreInOrder l → ¬ Share last x → (i j : ℕ) → i < j → j < n + 1 → ¬ Share (choice_at l i) (choice_at l j)
  apart_on up none i j less within h =
      ⊎_elim (λ before. s.apart i j less before h)
      (λ at. let e : j ≡ n = omega arith in apart_here up none i (omega arith) (subst (λ c. Share (choice_at l i) c) (ap (choice_at l) e ∙ sym is) h))
      (cases_lt j n)

  pub apart_more : AreInOrder l → ¬ Share last x → x.low ≤ x.high → IsApart l (n + 1) x
  apart_more up none here = record {
    apart = apart_on up none;
    reach = λ k v less h. (
      here,
      ⊎_elim
          (λ before. let r = s.reach k v before h in
          ⊎_elim (λ apart. omega (arith, r.1)) (λ meets. absurd (none (share_low up r.0 meets here))) (cases_lt last.high x.low))
          (λ at. let e : k ≡ n = omega arith in omega (arith, h.1, ap (λ (c : Interval). c.high) (ap (choice_at l) e ∙ sym is)))
          (cases_lt k n),
    );
    is_one = inr (n, omega arith, is);
  }

  pub apart_same : AreInOrder l → ¬ Share last x → x.high < x.low → IsApart l (n + 1) last
  apart_same up none null = record {
    apart = apart_on up none;
    reach = λ k v less h. ⊎_elim (λ before. s.reach k v before h)
        (λ at. let e : k ≡ n = omega arith in let g : Has x v = subst (λ c. Has c v) (ap (choice_at l) e ∙ sym is) h in absurd (omega (arith, g.0, g.1)))
        (cases_lt k n);
    is_one = ⊎_elim (λ null. inl null) (λ (one : (j : ℕ) × (j < n) × (last ≡ choice_at l j)). inr (one.0, omega (arith, one.1), one.2)) s.is_one;
  }

-- ---- the first of a text

repeats_within : (l : List Interval) (k : ℕ) → RepeatsEarlier l k → k < length l
repeats_within l k r = Has-within l k r.2.0 r.2.2

pub front : (n : ℕ) (l : List Interval) (k : ℕ) → k < n → RepeatsEarlier l k → IsRepeated (take n l)
front n l k less r =
    let a : choice_at (take n l) r.0 ≡ choice_at l r.0 = get_or-take n l r.0 null_choice (omega (arith, r.1)) in
    let b : choice_at (take n l) k ≡ choice_at l k = get_or-take n l k null_choice less in
    (k, (r.0, r.1, subst (λ c. Share c (choice_at (take n l) k)) (sym a) (subst (λ c. Share (choice_at l r.0) c) (sym b) r.2)))

pub of_front : (n : ℕ) (l : List Interval) → IsRepeated (take n l) → (k : ℕ) × (k < n) × RepeatsEarlier l k
of_front n l r =
    let less : r.0 < n = omega (arith, repeats_within (take n l) r.0 r.1, length-take n l) in
    let a : choice_at (take n l) r.1.0 ≡ choice_at l r.1.0 = get_or-take n l r.1.0 null_choice (omega (arith, r.1.1)) in
    let b : choice_at (take n l) r.0 ≡ choice_at l r.0 = get_or-take n l r.0 null_choice less in
    (r.0, less, (r.1.0, r.1.1, subst (λ c. Share c (choice_at l r.0)) a (subst (λ c. Share (choice_at (take n l) r.1.0) c) b r.1.2)))

-- The choices below `free` repeat no value, those below `bound` repeat one.
pub record IsHalved (l : List Interval) (free bound : ℕ) : Type 0 where
  pub less : free < bound
  pub to : bound ≤ length l
  pub none : ¬ IsRepeated (take free l)
  pub some : IsRepeated (take bound l)

pub halved_start : (l : List Interval) → IsRepeated l → IsHalved l 0 (length l)
halved_start l r =
    let within : r.0 < length l = repeats_within l r.0 r.1 in
    record {
      less = omega arith;
      to = omega arith;
      none = λ q. let w = of_front 0 l q in omega (arith, w.1);
      some = front (length l) l r.0 within r.1;
    }

pub halved_first : (l : List Interval) (free bound : ℕ) → IsHalved l free bound → bound ≤ free + 1 → IsFirstRepeated l free
halved_first l free bound h ends =
    let w = of_front bound l h.some in
    let here : w.0 ≡ free = ⊎_elim (λ less. absurd (h.none (front free l w.0 less w.2))) (λ more. omega (arith, w.1)) (cases_lt w.0 free) in
    (subst (RepeatsEarlier l) here w.2, λ i less r. h.none (front free l i less r))

pub halved_some : (l : List Interval) (free bound : ℕ) → IsHalved l free bound → IsRepeated l
halved_some l free bound h = let w = of_front bound l h.some in (w.0, w.2)

-- ---- what is known of the choices in order holds of them as they stand

pub IsCovered-either : (within : Interval) (xs ys zs : List Interval) {b : Bool} → IsPermutation xs ys → zs ≡ ys → (IsTrue b ↔ IsCovered within zs) → IsTrue b ↔ IsCovered within xs
IsCovered-either within xs ys zs moved same h =
    let back = IsPermutation-sym xs ys moved in (
      (λ t v inside. IsGiven-moved ys xs v back (subst (λ l. IsGiven l v) same (h.0 t v inside))),
      (λ covered. h.1 (λ v inside. subst (λ l. IsGiven l v) (sym same) (IsGiven-moved xs ys v moved (covered v inside)))),
    )

pub IsRepeated-either : (xs ys zs : List Interval) {b : Bool} → IsPermutation xs ys → zs ≡ ys → (IsTrue b ↔ IsRepeated zs) → IsTrue b ↔ IsRepeated xs
IsRepeated-either xs ys zs moved same h =
    let back = IsPermutation-sym xs ys moved in
    ((λ t. IsRepeated-moved ys xs back (subst IsRepeated same (h.0 t))), (λ r. h.1 (subst IsRepeated (sym same) (IsRepeated-moved xs ys moved r))))
