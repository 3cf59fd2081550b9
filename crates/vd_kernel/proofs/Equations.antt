-- Where neither sources nor actuals form a ring, the bound in the definition of driving and effective values changes nothing.
use Rattle.std.proofs.Common.{◌≡◌, ℕ, zero, suc, ◌+◌, ◌<◌, ◌≤◌, Bool, true, false, nat_lt, List, [], ◌∷◌, ◌++◌, length, Option, Some, None, map, refl, sym, ap, ◌∙◌, subst, ⊎_elim, arith}
use Rattle.std.specs.List.{AllByRecursion}
use Rattle.std.proofs.lemmas.Bool.{cases_lt, ltb-true, le-ltb, lt-ltb}
use Rattle.std.proofs.lemmas.List.{get_or_past}
use Rattle.vd_values.specs.declared.scalar.Scalar.{Scalar}
use Rattle.vd_kernel.specs.declared.assignments.Transaction.{Transaction}
use Rattle.vd_kernel.specs.declared.assignments.Source.{Source}
use Rattle.vd_kernel.specs.declared.assignments.Source.TheVariants.{Driver as ByDriver, Port as ByPort}
use Rattle.vd_kernel.specs.Drivers.{Driver}
use Rattle.vd_kernel.specs.Models.{Shape, Stimulus, signal_at, no_signal}
use Rattle.vd_kernel.specs.Values.{from_outside, sources_of, source_value, value_from, driving_within, driving, through, effective_within, effective}
use Rattle.vd_kernel.specs.Equations.{AreValues, IsInside, HasNoRing, MeetTheirEquations, HaveNoOthers}

same_over : {A : Type 0} (P : Source → Type 0) (f g : Source → A) → ((s : Source) → P s → f s ≡ g s) → (ss : List Source) → AllByRecursion P ss → map f ss ≡ map g ss
same_over P f g h [] z = refl
same_over P f g h (s ∷ ss) z = let a = h s z.0 in let b = same_over P f g h ss z.1 in cc

inside_append : (P : Source → Type 0) (ss ts : List Source) → AllByRecursion P ss → AllByRecursion P ts → AllByRecursion P (ss ++ ts)
inside_append P [] ts a b = b
inside_append P (s ∷ ss) ts a b = (a.0, inside_append P ss ts a.1 b)

outside_inside : (rank : ℕ → ℕ) (i : ℕ) (g : List Transaction) (o : Option ℕ) → AllByRecursion (IsInside rank i) (from_outside g o)
outside_inside rank i [] o = tt
outside_inside rank i (t ∷ ts) None = tt
outside_inside rank i (t ∷ ts) (Some d) = (tt, tt)

no_sources : (g : List Transaction) → sources_of no_signal g ≡ []
no_sources [] = refl
no_sources (t ∷ ts) = refl

through_same : (o : Option ℕ) (f g : ℕ → Scalar) (x y : Scalar) → ((a : ℕ) → o ≡ Some a → f a ≡ g a) → x ≡ y → through o f x ≡ through o g y
through_same None f g x y h e = e
through_same (Some a) f g x y h e = h a refl

-- How many of the first n numbers pass a test

abbrev one : Bool → ℕ
one true = 1
one false = 0

abbrev counted : (ℕ → Bool) → ℕ → ℕ
counted p zero = 0
counted p (suc n) = one (p n) + counted p n

one_more : (a b : Bool) → (a ≡ true → b ≡ true) → one a ≤ one b
one_more false b h = omega arith
one_more true true h = omega arith
one_more true false h = let e = h refl in cc

-- a test that lets more pass
counted_more : (p q : ℕ → Bool) → ((k : ℕ) → p k ≡ true → q k ≡ true) → (n : ℕ) → counted p n ≤ counted q n
counted_more p q h zero = omega arith
counted_more p q h (suc n) =
    let last = one_more (p n) (q n) (h n) in let others = counted_more p q h n in omega arith

-- and one more for certain
counted_less : (p q : ℕ → Bool) → ((k : ℕ) → p k ≡ true → q k ≡ true) → (n i : ℕ) → i < n → p i ≡ false → q i ≡ true → counted p n < counted q n
counted_less p q h zero i l e f = absurd (omega arith)
counted_less p q h (suc n) i l e f =
    let last = one_more (p n) (q n) (h n) in
    ⊎_elim
    (λ lt. let others = counted_less p q h n i lt e f in omega arith)
    (λ le.
    let same : i ≡ n = omega arith in
    let none : one (p n) ≡ 0 = ap (λ k. one (p k)) (sym same) ∙ ap one e in
    let some : one (q n) ≡ 1 = ap (λ k. one (q k)) (sym same) ∙ ap one f in
    let others = counted_more p q h n in omega arith)
    (cases_lt i n)

counted_all : (n : ℕ) → counted (λ k. true) n ≡ n
counted_all zero = refl
counted_all (suc n) = let h = counted_all n in omega arith

-- A rank fewer than there are signals, by counting the signals of lesser rank

module _ (rank : ℕ → ℕ) (m : Shape) where
  abbrev pub place : ℕ → ℕ
  place i = counted (λ k. nat_lt (rank k) (rank i)) (length m.signals)

  pub place_lt : (i j : ℕ) → i < length m.signals → rank i < rank j → place i < place j
  place_lt i j l h =
      counted_less _ _ (λ k e. let f = ltb-true (rank k) (rank i) e in lt-ltb (rank k) (rank j) (omega arith)) (length m.signals) i l (le-ltb (rank i) (rank i) (omega arith)) (lt-ltb (rank i) (rank j) h)

  pub place_within : (i : ℕ) → i < length m.signals → place i < length m.signals
  place_within i l =
      let h = counted_less (λ k. nat_lt (rank k) (rank i)) (λ k. true) (λ k e. refl) (length m.signals) i l (le-ltb (rank i) (rank i) (omega arith)) refl in
      let all = counted_all (length m.signals) in
      omega arith

  inside_place : (i : ℕ) → i < length m.signals → (ss : List Source) → AllByRecursion (IsInside rank i) ss → AllByRecursion (IsInside place i) ss
  inside_place i l [] z = tt
  inside_place i l (ByDriver d ∷ ss) z = (tt, inside_place i l ss z.1)
  inside_place i l (ByPort j ∷ ss) z = (place_lt i j l z.0, inside_place i l ss z.1)

  sources_placed : ((i : ℕ) → AllByRecursion (IsInside rank i) (signal_at m i).sources) → (i : ℕ) → AllByRecursion (IsInside place i) (signal_at m i).sources
  sources_placed h i =
      ⊎_elim
      (λ lt. inside_place i lt (signal_at m i).sources (h i))
      (λ le. subst (λ s. AllByRecursion (IsInside place i) s.sources) (sym (get_or_past m.signals i no_signal le)) tt)
      (cases_lt i (length m.signals))

pub record IsBounded (inwards outwards : ℕ → ℕ) (m : Shape) : Type 0 where
  pub inner : (i : ℕ) → i < length m.signals → inwards i < length m.signals
  pub sources : (i : ℕ) → AllByRecursion (IsInside inwards i) (signal_at m i).sources
  pub outer : (i : ℕ) → i < length m.signals → outwards i < length m.signals
  pub actual : (i a : ℕ) → a < length m.signals → (signal_at m i).actual ≡ Some a → outwards a < outwards i

bounded : (inwards outwards : ℕ → ℕ) (m : Shape) → HasNoRing inwards outwards m → IsBounded (place inwards m) (place outwards m) m
bounded inwards outwards m none =
    record {
      inner = place_within inwards m;
      sources = sources_placed inwards m none.sources;
      outer = place_within outwards m;
      actual = λ i a l e. place_lt outwards m a i l (none.actual i a e);
    }

module _ (inwards outwards : ℕ → ℕ) (m : Shape) (ranked : IsBounded inwards outwards m) (given : Stimulus) (ds : List Driver) where
  -- What the sources make of a signal

  abbrev made : (ℕ → Scalar) → ℕ → Scalar
  made own i = value_from (signal_at m i) (map (source_value ds own) (sources_of (signal_at m i) (given i)))

  nothing_at : (i : ℕ) → length m.signals ≤ i → signal_at m i ≡ no_signal
  nothing_at i h = get_or_past m.signals i no_signal h

  made_past : (own : ℕ → Scalar) (i : ℕ) → length m.signals ≤ i → made own i ≡ (signal_at m i).initial
  made_past own i h =
      ap (λ s. value_from s (map (source_value ds own) (sources_of s (given i)))) (nothing_at i h)
      ∙ ap (λ ss. value_from no_signal (map (source_value ds own) ss)) (no_sources (given i))
      ∙ sym (ap (λ s. s.initial) (nothing_at i h))

  all_inside : (i : ℕ) → AllByRecursion (IsInside inwards i) (sources_of (signal_at m i) (given i))
  all_inside i =
      inside_append (IsInside inwards i) (signal_at m i).sources _ (ranked.sources i) (outside_inside inwards i (given i) (signal_at m i).input)

  same_source : (own other : ℕ → Scalar) (i : ℕ) → ((j : ℕ) → inwards i < inwards j → own j ≡ other j) → (s : Source) → IsInside inwards i s → source_value ds own s ≡ source_value ds other s
  same_source own other i h (ByDriver d) z = refl
  same_source own other i h (ByPort j) z = h j z

  same_made : (own other : ℕ → Scalar) (i : ℕ) → ((j : ℕ) → inwards i < inwards j → own j ≡ other j) → made own i ≡ made other i
  same_made own other i h =
      ap (value_from (signal_at m i)) (same_over (IsInside inwards i) _ _ (same_source own other i h) (sources_of (signal_at m i) (given i)) (all_inside i))

  -- a rank beyond all ranks is that of no signal
  beyond : (i : ℕ) → length m.signals ≤ inwards i → length m.signals ≤ i
  beyond i h = ⊎_elim (λ lt. let w = ranked.inner i lt in absurd (omega arith)) (λ le. le) (cases_lt i (length m.signals))

  -- Driving values

  -- what meets the equation is the value within as many steps as there are ranks from here inwards
  only_within : (own : ℕ → Scalar) → ((i : ℕ) → own i ≡ made own i) → (k i : ℕ) → length m.signals ≤ k + inwards i → own i ≡ driving_within m given ds k i
  only_within own is zero i h = is i ∙ made_past own i (beyond i (omega arith))
  only_within own is (suc k) i h = is i ∙ same_made own (driving_within m given ds k) i (λ j l. only_within own is k j (omega arith))

  only_driving : (own : ℕ → Scalar) → ((i : ℕ) → own i ≡ made own i) → (i : ℕ) → own i ≡ driving m given ds i
  only_driving own is i = only_within own is (length m.signals) i (omega arith)

  -- once there are as many steps, one more changes nothing
  stable : (k i : ℕ) → length m.signals ≤ k + inwards i → driving_within m given ds (suc k) i ≡ driving_within m given ds k i
  stable zero i h = made_past (driving_within m given ds zero) i (beyond i (omega arith))
  stable (suc k) i h = same_made (driving_within m given ds (suc k)) (driving_within m given ds k) i (λ j l. stable k j (omega arith))

  driving_meets : (i : ℕ) → driving m given ds i ≡ made (driving m given ds) i
  driving_meets i = sym (stable (length m.signals) i (omega arith))

  -- Effective values

  through_past : (i : ℕ) → length m.signals ≤ i → (f : ℕ → Scalar) (x : Scalar) → through (signal_at m i).actual f x ≡ x
  through_past i h f x = ap (λ s. through s.actual f x) (nothing_at i h)

  effective_past : (k i : ℕ) → length m.signals ≤ i → effective_within m given ds k i ≡ driving m given ds i
  effective_past zero i h = refl
  effective_past (suc k) i h = through_past i h _ _

  effective_stable : (k i : ℕ) → outwards i < k → effective_within m given ds (suc k) i ≡ effective_within m given ds k i
  effective_stable zero i h = absurd (omega arith)
  effective_stable (suc k) i h =
      through_same (signal_at m i).actual _ _ _ _ (λ a e.
      ⊎_elim
      (λ lt. let l = ranked.actual i a lt e in effective_stable k a (omega arith))
      (λ le. effective_past (suc k) a le ∙ sym (effective_past k a le))
      (cases_lt a (length m.signals))) refl

  effective_meets : (i : ℕ) → effective m given ds i ≡ through (signal_at m i).actual (effective m given ds) (driving m given ds i)
  effective_meets i =
      ⊎_elim
      (λ lt. sym (effective_stable (length m.signals) i (ranked.outer i lt)))
      (λ le. effective_past (length m.signals) i le ∙ sym (through_past i le (effective m given ds) (driving m given ds i)))
      (cases_lt i (length m.signals))

  module _ (own outer : ℕ → Scalar) (values : AreValues m given ds own outer) where
    outer_past : (k i : ℕ) → length m.signals ≤ i → outer i ≡ effective_within m given ds k i
    outer_past k i le =
        values.outer_is i ∙ through_past i le outer (own i) ∙ only_driving own values.own_is i ∙ sym (effective_past k i le)

    outer_within : (k i : ℕ) → outwards i < k → outer i ≡ effective_within m given ds k i
    outer_within zero i h = absurd (omega arith)
    outer_within (suc k) i h =
        values.outer_is i
        ∙ through_same (signal_at m i).actual outer (effective_within m given ds k) (own i) (driving m given ds i) (λ a e.
        ⊎_elim
        (λ lt. let l = ranked.actual i a lt e in outer_within k a (omega arith))
        (λ le. outer_past k a le)
        (cases_lt a (length m.signals))) (only_driving own values.own_is i)

    only_effective : (i : ℕ) → outer i ≡ effective m given ds i
    only_effective i =
        ⊎_elim (λ lt. outer_within (length m.signals) i (ranked.outer i lt)) (outer_past (length m.signals) i) (cases_lt i (length m.signals))

-- the values that are defined meet the equations
pub meet_equations : MeetTheirEquations
meet_equations inwards outwards m none given ds =
    let b = bounded inwards outwards m none in
    record { own_is = driving_meets (place inwards m) (place outwards m) m b given ds; outer_is = effective_meets (place inwards m) (place outwards m) m b given ds }

-- and no others do
pub no_others : HaveNoOthers
no_others inwards outwards m none given ds own outer values i =
    let b = bounded inwards outwards m none in
    (only_driving (place inwards m) (place outwards m) m b given ds own values.own_is i, only_effective (place inwards m) (place outwards m) m b given ds own outer values i)
