-- A design that is sound is consistent: what its shape says.
use Rattle.std.proofs.Common.{◌≡◌, ℕ, zero, suc, ◌+◌, ◌<◌, ◌≤◌, Bool, true, false, List, [], ◌∷◌, ◌++◌, length, Option, Some, None, refl, sym, ap, ◌∙◌, subst, arith}
use Rattle.std.specs.Prelude.{◌==◌, ◌&&◌, IfSome, slice_get, slice_index_or, if◌then◌else◌}
use Rattle.std.specs.List.{AllByRecursion, AllZip}
use Rattle.std.proofs.lemmas.Int.{ints}
use Rattle.vd_values.specs.declared.scalar.Scalar.{Scalar}
use Rattle.vd_values.specs.declared.scalar.Scalar.TheVariants.{Integer, Literal, Time}
use Rattle.vd_kernel.specs.declared.assignments.Source.{Source}
use Rattle.vd_kernel.specs.declared.assignments.Source.TheVariants.{Driver, Port}
use Rattle.vd_kernel.specs.Models.{Signal, Shape, no_signal, signal_at}
use Rattle.vd_kernel.specs.Equations.{IsInside, HasNoRing}
use Rattle.vd_kernel.specs.Orders
use Rattle.vd_composites.specs.declared.scalars.ScalarType.{ScalarType}
use Rattle.vd_composites.specs.declared.scalars.ScalarType.TheVariants.{Enumeration}
use Rattle.vd_composites.specs.Ranges.{is_within}
use Rattle.vd_composites.specs.Scalars.{position_of, is_of, whole_range}
use Rattle.vd_environments.specs.Processes.{Running}
use Rattle.vd_meaning.specs.Building.{ScalarObject, PortSource, Placed, Made, same_scalar_type, is_among}
use Rattle.vd_meaning.specs.Elaborations.{drivers_of, ports_of, is_input, inputs_from, signals_from, shape_of}
use Rattle.vd_consistency.specs.Consistency.{IsSignalOf, IsSourceIn, IsInRange, drivers_among, places_of, tied_to, IsNewer, SaysTheSame, IsLogic, BeginsInType, BeginWithLogic, after_turns, IsFrom, AssignsWithin, OwnsDrivers, ShareOut, AssignsBelow, StaysBelow, StaysWaiting, IsConsistent, DesignsAreConsistent}
use Rattle.vd_consistency.specs.Invariants.{BeginsWell, HaveOlder, IsTied, StaysRunning, IsSound}
use Rattle.vd_consistency.proofs.Steps.{joined, weaker}
use Rattle.vd_consistency.proofs.Objects.{equal_numbers, one_type, is_below}
use Rattle.vd_consistency.proofs.Turning.{waits_for}
use Rattle.vd_consistency.proofs.Sound.{design_sound}

-- ---- sources, as lists

-- one more where a number is the one asked for
one_or_none : {A : Type 0} (R : A → Type 0) (b : Bool) (x : A) (xs : List A) → (b ≡ true → R x) → AllByRecursion R xs → AllByRecursion R (if b then x ∷ xs else xs)
one_or_none R true x xs h k = (h refl, k)
one_or_none R false x xs h k = k

drivers_keep : (R : Source → Type 0) (total : ℕ) → ((k : ℕ) → k < total → R (Driver k)) → (n k : ℕ) (ds : List ℕ) → k + length ds ≡ total → AllByRecursion R (drivers_of n k ds)
drivers_keep R total h n k [] e = tt
drivers_keep R total h n k (d ∷ ds) e = one_or_none R (d == n) (Driver k) (drivers_of n (suc k) ds) (λ f. h k (omega arith)) (drivers_keep R total h n (suc k) ds (omega arith))

ports_keep : (R : Source → Type 0) (T : PortSource → Type 0) (n : ℕ) → ((p : PortSource) → T p → p.of ≡ n → R (Port p.port)) → (ps : List PortSource) → AllByRecursion T ps → AllByRecursion R (ports_of n ps)
ports_keep R T n h [] k = tt
ports_keep R T n h (p ∷ ps) k = one_or_none R (p.of == n) (Port p.port) (ports_of n ps) (λ e. h p k.0 (equal_numbers p.of n e)) (ports_keep R T n h ps k.1)

tied_keep : (R : ℕ → Type 0) (T : PortSource → Type 0) (n : ℕ) → ((p : PortSource) → T p → p.of ≡ n → R p.port) → (ps : List PortSource) → AllByRecursion T ps → AllByRecursion R (tied_to n ps)
tied_keep R T n h [] k = tt
tied_keep R T n h (p ∷ ps) k = one_or_none R (p.of == n) p.port (tied_to n ps) (λ e. h p k.0 (equal_numbers p.of n e)) (tied_keep R T n h ps k.1)

drivers_then : (ss ts : List Source) → drivers_among (ss ++ ts) ≡ drivers_among ss ++ drivers_among ts
drivers_then [] ts = refl
drivers_then (Driver k ∷ ss) ts = λ i. k ∷ drivers_then ss ts i
drivers_then (Port j ∷ ss) ts = drivers_then ss ts

ports_then : (ss ts : List Source) → Orders.ports_of (ss ++ ts) ≡ Orders.ports_of ss ++ Orders.ports_of ts
ports_then [] ts = refl
ports_then (Driver k ∷ ss) ts = ports_then ss ts
ports_then (Port j ∷ ss) ts = λ i. j ∷ ports_then ss ts i

drivers_if : (b : Bool) (s : Source) (ss : List Source) → drivers_among (if b then s ∷ ss else ss) ≡ (if b then drivers_among (s ∷ ss) else drivers_among ss)
drivers_if true s ss = refl
drivers_if false s ss = refl

ports_if : (b : Bool) (s : Source) (ss : List Source) → Orders.ports_of (if b then s ∷ ss else ss) ≡ (if b then Orders.ports_of (s ∷ ss) else Orders.ports_of ss)
ports_if true s ss = refl
ports_if false s ss = refl

itself_if : {A : Type 0} (b : Bool) (x : A) → (if b then x else x) ≡ x
itself_if true x = refl
itself_if false x = refl

drivers_same : (n k : ℕ) (ds : List ℕ) → drivers_among (drivers_of n k ds) ≡ places_of n k ds
drivers_same n k [] = refl
drivers_same n k (d ∷ ds) =
    drivers_if (d == n) (Driver k) (drivers_of n (suc k) ds) ∙ (λ i. if d == n then k ∷ drivers_same n (suc k) ds i else drivers_same n (suc k) ds i)

no_drivers : (n : ℕ) (ps : List PortSource) → drivers_among (ports_of n ps) ≡ []
no_drivers n [] = refl
no_drivers n (p ∷ ps) = drivers_if (p.of == n) (Port p.port) (ports_of n ps) ∙ (λ i. if p.of == n then no_drivers n ps i else no_drivers n ps i) ∙ itself_if (p.of == n) []

no_ports : (n k : ℕ) (ds : List ℕ) → Orders.ports_of (drivers_of n k ds) ≡ []
no_ports n k [] = refl
no_ports n k (d ∷ ds) = ports_if (d == n) (Driver k) (drivers_of n (suc k) ds) ∙ (λ i. if d == n then no_ports n (suc k) ds i else no_ports n (suc k) ds i) ∙ itself_if (d == n) []

ports_same : (n : ℕ) (ps : List PortSource) → Orders.ports_of (ports_of n ps) ≡ tied_to n ps
ports_same n [] = refl
ports_same n (p ∷ ps) = ports_if (p.of == n) (Port p.port) (ports_of n ps) ∙ (λ i. if p.of == n then p.port ∷ ports_same n ps i else ports_same n ps i)

all_none : {A : Type 0} (xs : List A) → xs ++ [] ≡ xs
all_none [] = refl
all_none (x ∷ xs) = λ i. x ∷ all_none xs i

-- ---- a signal and its object, by a number

abbrev Stands : Option ScalarObject → Signal → Type 0
Stands (Some x) s = IsSignalOf x s
Stands None s = s ≡ no_signal

stands_at : (xs : List ScalarObject) (ss : List Signal) → AllZip IsSignalOf xs ss → (k : ℕ) → Stands (slice_get xs k) (slice_index_or ss k no_signal)
stands_at [] [] h k = refl
stands_at (x ∷ xs) (s ∷ ss) h zero = h.0
stands_at (x ∷ xs) (s ∷ ss) h (suc k) = stands_at xs ss h.1 k
stands_at [] (s ∷ ss) h k = absurd h
stands_at (x ∷ xs) [] h k = absurd h

begins_at : (xs : List ScalarObject) → AllByRecursion BeginsWell xs → (k : ℕ) → IfSome (slice_get xs k) BeginsWell
begins_at [] h k = tt
begins_at (x ∷ xs) h zero = h.0
begins_at (x ∷ xs) h (suc k) = begins_at xs h.1 k

-- ---- values of STD_ULOGIC

nine : (x : Scalar) → (is_of (Enumeration 9) x && is_within (whole_range (Enumeration 9)) (position_of x)) ≡ true → IsLogic x
nine (Literal p) e = (p, refl, grind (arith, ints))
nine (Integer i) e = absurd (cc)
nine (Time t) e = absurd (cc)

in_nine : (t : ScalarType) → same_scalar_type t (Enumeration 9) ≡ true → (x : Scalar) → (is_of t x && is_within (whole_range t) (position_of x)) ≡ true → IsLogic x
in_nine t e x h = nine x (subst (λ t. (is_of t x && is_within (whole_range t) (position_of x)) ≡ true) (one_type t (Enumeration 9) e) h)

-- ---- drivers

if_some : (R S : Running → Type 0) → ((p : Running) → R p → S p) → (o : Option Running) → IfSome o R → IfSome o S
if_some R S k None h = tt
if_some R S k (Some p) h = k p h

share_ends : (first total : ℕ) (ps : List Placed) → ShareOut first total ps → first ≤ total
share_ends first total [] h = omega arith
share_ends first total (p ∷ ps) h = let e = share_ends (first + h.0) total ps h.2 in omega arith

from_below : (first count total k : ℕ) → first + count ≤ total → IsFrom first count k → k < total
from_below first count total k i h = let j = h.is_within in let e = h.is in omega arith

stays : (first count total : ℕ) → first + count ≤ total → (p : Placed) → OwnsDrivers first count p.running → StaysBelow total p
stays first count total i p h rs =
    if_some (AssignsWithin first count) (AssignsBelow total) (λ q j r. weaker _ _ (λ a k. from_below first count total a.driver i k) _ (j r)) (after_turns (Some p.running) rs) (h rs)

all_stay : (first total : ℕ) (ps : List Placed) → ShareOut first total ps → AllByRecursion (StaysBelow total) ps
all_stay first total [] h = tt
all_stay first total (p ∷ ps) h = (stays first h.0 total (share_ends (first + h.0) total ps h.2) p h.1, all_stay (first + h.0) total ps h.2)

all_wait : (ss : List ScalarObject) (ps : List Placed) → AllByRecursion (λ p. StaysRunning ss p.running) ps → AllByRecursion (StaysWaiting (length ss)) ps
all_wait ss [] h = tt
all_wait ss (p ∷ ps) h =
    ((λ rs. waits_for (is_among ss) p.running.env.drivers (λ n. n < length ss) (is_below ss) p.running (h.0 (is_among ss) (λ x i. i)) rs), all_wait ss ps h.1)

-- ---- all signals, by their numbers

abbrev From : (ℕ → Signal → Type 0) → ℕ → List Signal → Type 0
From R n [] = Unit {0}
From R n (s ∷ ss) = R n s × From R (suc n) ss

at_number : (R : ℕ → Signal → Type 0) (total : ℕ) → ((k : ℕ) → total ≤ k → R k no_signal) → (ss : List Signal) (n : ℕ) → n + length ss ≡ total → From R n ss → (k : ℕ) → R (n + k) (slice_index_or ss k no_signal)
at_number R total none [] n e h k = none (n + k) (omega arith)
at_number R total none (s ∷ ss) n e h zero = subst (λ i. R i s) (let f : n ≡ n + 0 = omega arith in f) h.0
at_number R total none (s ∷ ss) n e h (suc k) =
    subst (λ i. R i (slice_index_or ss k no_signal)) (let f : suc n + k ≡ n + suc k = omega arith in f)
    (at_number R total none ss (suc n) (let f : suc n + length ss ≡ total = omega arith in f) h.1 k)

if_actual : (R : ℕ → Type 0) (o : Option ℕ) → IfSome o R → (a : ℕ) → o ≡ Some a → R a
if_actual R o h a e = subst (λ o. IfSome o R) e h

module _ (made : Made) where
  abbrev shape : Shape
  shape = shape_of made

  abbrev total : ℕ
  total = length made.signals

  same_length : (xs : List ScalarObject) (n out : ℕ) → length (signals_from made n out xs) ≡ length xs
  same_length [] n out = refl
  same_length (x ∷ xs) n out = ap suc (same_length xs (suc n) (if is_input x then suc out else out))

  counts : length shape.signals ≡ total
  counts = same_length made.signals 0 (length made.driven)

  signals_stand : (xs : List ScalarObject) (n out : ℕ) → AllZip IsSignalOf xs (signals_from made n out xs)
  signals_stand [] n out = tt
  signals_stand (x ∷ xs) n out = (record { initial = refl; is_resolved = refl; actual = refl; is_out = refl }, signals_stand xs (suc n) (if is_input x then suc out else out))

  stands : (n : ℕ) → Stands (slice_get made.signals n) (signal_at shape n)
  stands n = stands_at made.signals shape.signals (signals_stand made.signals 0 (length made.driven)) n

  at_each : (R : ℕ → Signal → Type 0) → ((k : ℕ) → total ≤ k → R k no_signal) → From R 0 shape.signals → (n : ℕ) → R n (signal_at shape n)
  at_each R none k n =
      subst (λ i. R i (signal_at shape n)) (let f : 0 + n ≡ n = omega arith in f)
      (at_number R total none shape.signals 0 (let e = counts in let f : 0 + length shape.signals ≡ total = omega arith in f) k n)

  -- ---- sources

  abbrev sources_at : ℕ → List Source
  sources_at n = drivers_of n 0 made.driven ++ ports_of n made.sources

  by_sources : (R : ℕ → List Source → Type 0) → ((i : ℕ) → R i (sources_at i)) → (xs : List ScalarObject) (n out : ℕ) → From (λ i s. R i s.sources) n (signals_from made n out xs)
  by_sources R h [] n out = tt
  by_sources R h (x ∷ xs) n out = (h n, by_sources R h xs (suc n) (if is_input x then suc out else out))

  sources_each : (R : ℕ → List Source → Type 0) → ((i : ℕ) → R i (sources_at i)) → ((k : ℕ) → total ≤ k → R k []) → (n : ℕ) → R n (signal_at shape n).sources
  sources_each R h none n = at_each (λ i s. R i s.sources) none (by_sources R h made.signals 0 (length made.driven)) n

  drivers_say : (n : ℕ) → drivers_among (sources_at n) ≡ places_of n 0 made.driven
  drivers_say n =
      drivers_then (drivers_of n 0 made.driven) (ports_of n made.sources) ∙ (λ i. drivers_among (drivers_of n 0 made.driven) ++ no_drivers n made.sources i)
      ∙ all_none (drivers_among (drivers_of n 0 made.driven)) ∙ drivers_same n 0 made.driven

  ports_say : (n : ℕ) → Orders.ports_of (sources_at n) ≡ tied_to n made.sources
  ports_say n =
      ports_then (drivers_of n 0 made.driven) (ports_of n made.sources) ∙ (λ i. no_ports n 0 made.driven i ++ Orders.ports_of (ports_of n made.sources)) ∙ ports_same n made.sources

  out_of_range : {A : Type 0} (n : ℕ) → n < length shape.signals → total ≤ n → A
  out_of_range n i j = let e = counts in absurd (omega arith)

  -- ---- inputs

  inputs_in : (xs : List ScalarObject) (n : ℕ) → n + length xs ≡ total → AllByRecursion (λ i. i < length shape.signals) (inputs_from n xs)
  inputs_in [] n e = tt
  inputs_in (x ∷ xs) n e =
      one_or_none (λ i. i < length shape.signals) (is_input x) n (inputs_from (suc n) xs) (λ f. let c = counts in omega arith) (inputs_in xs (suc n) (omega arith))

  abbrev InputAt : ℕ → List ℕ → ℕ → ℕ → Type 0
  InputAt out inputs i k = (j : ℕ) × (k ≡ out + j) × (slice_get inputs j ≡ Some i)

  first_input : (b : Bool) (n out k : ℕ) (rest : List ℕ) → (if b then Some out else None) ≡ Some k → InputAt out (if b then n ∷ rest else rest) (n + 0) k
  first_input true n out k rest e = let f : out ≡ k = cc in (0, (let g : k ≡ out + 0 = omega arith in g), ap Some (let g : n ≡ n + 0 = omega arith in g))
  first_input false n out k rest e = absurd (cc)

  later_input : (b : Bool) (n out i k : ℕ) (rest : List ℕ) → InputAt (if b then suc out else out) rest (suc n + i) k → InputAt out (if b then n ∷ rest else rest) (n + suc i) k
  later_input true n out i k rest h =
      let f = h.1 in (suc h.0, (let g : k ≡ out + suc h.0 = omega arith in g), h.2 ∙ ap Some (let g : suc n + i ≡ n + suc i = omega arith in g))
  later_input false n out i k rest h = (h.0, h.1, h.2 ∙ ap Some (let g : suc n + i ≡ n + suc i = omega arith in g))

  input_at : (xs : List ScalarObject) (n out i k : ℕ) → (slice_index_or (signals_from made n out xs) i no_signal).input ≡ Some k → InputAt out (inputs_from n xs) (n + i) k
  input_at [] n out i k e = absurd (cc)
  input_at (x ∷ xs) n out zero k e = first_input (is_input x) n out k (inputs_from (suc n) xs) e
  input_at (x ∷ xs) n out (suc i) k e =
      later_input (is_input x) n out i k (inputs_from (suc n) xs) (input_at xs (suc n) (if is_input x then suc out else out) i k e)

  abbrev Outside : List Signal → ℕ → ℕ → ℕ → Type 0
  Outside ss n i k = (j : ℕ) × (i ≡ n + j) × ((slice_index_or ss j no_signal).input ≡ Some k)

  outside_later : (s : Signal) (ss : List Signal) (n i k l : ℕ) → k ≡ l → Outside ss (suc n) i k → Outside (s ∷ ss) n i l
  outside_later s ss n i k l e h = let f = h.1 in (suc h.0, (let g : i ≡ n + suc h.0 = omega arith in g), h.2 ∙ ap Some e)

  by_input : (x : ScalarObject) (xs : List ScalarObject) (n out i : ℕ)
      → ((o j : ℕ) → slice_get (inputs_from (suc n) xs) j ≡ Some i → Outside (signals_from made (suc n) o xs) (suc n) i (o + j))
      → (b : Bool) → is_input x ≡ b → (j : ℕ) → slice_get (if b then n ∷ inputs_from (suc n) xs else inputs_from (suc n) xs) j ≡ Some i → Outside (signals_from made n out (x ∷ xs)) n i (out + j)
  by_input x xs n out i later true f zero g =
      let k : n ≡ i = cc in
      (0, (let l : i ≡ n + 0 = omega arith in l), ap (λ b. if b then Some out else None) f ∙ ap Some (let l : out ≡ out + 0 = omega arith in l))
  by_input x xs n out i later true f (suc j) g =
      outside_later _ (signals_from made (suc n) (if is_input x then suc out else out) xs) n i (suc out + j) (out + suc j) (let l : suc out + j ≡ out + suc j = omega arith in l)
      (subst (λ o. Outside (signals_from made (suc n) o xs) (suc n) i (suc out + j)) (ap (λ b. if b then suc out else out) (sym f)) (later (suc out) j g))
  by_input x xs n out i later false f j g =
      outside_later _ (signals_from made (suc n) (if is_input x then suc out else out) xs) n i (out + j) (out + j) refl
      (subst (λ o. Outside (signals_from made (suc n) o xs) (suc n) i (out + j)) (ap (λ b. if b then suc out else out) (sym f)) (later out j g))

  outside_at : (xs : List ScalarObject) (n out j i : ℕ) → slice_get (inputs_from n xs) j ≡ Some i → Outside (signals_from made n out xs) n i (out + j)
  outside_at [] n out j i e = absurd (cc)
  outside_at (x ∷ xs) n out j i e = by_input x xs n out i (λ o k g. outside_at xs (suc n) o k i g) (is_input x) refl j e

  module _ (h : IsSound made) where
    -- ---- numbers

    sources_in : (i : ℕ) → AllByRecursion (IsSourceIn shape) (sources_at i)
    sources_in i =
        joined (IsSourceIn shape) (drivers_of i 0 made.driven) (ports_of i made.sources)
        (drivers_keep (IsSourceIn shape) (length made.driven) (λ k j. j) i 0 made.driven (let f : 0 + length made.driven ≡ length made.driven = omega arith in f))
        (ports_keep (IsSourceIn shape) (IsTied made.signals) i (λ p t e. let c = counts in let j : p.port < total = t.there in omega arith) made.sources h.of_sources)

    sources_inside : (i : ℕ) → AllByRecursion (IsInside (λ n. n) i) (sources_at i)
    sources_inside i =
        joined (IsInside (λ n. n) i) (drivers_of i 0 made.driven) (ports_of i made.sources)
        (drivers_keep (IsInside (λ n. n) i) (length made.driven) (λ k j. tt) i 0 made.driven (let f : 0 + length made.driven ≡ length made.driven = omega arith in f))
        (ports_keep (IsInside (λ n. n) i) (IsTied made.signals) i (λ p t e. let j : p.of < p.port = t.newer in omega arith) made.sources h.of_sources)

    abbrev ActualIn : ℕ → Signal → Type 0
    ActualIn i s = (a : ℕ) → s.actual ≡ Some a → (a < i) × (a < length shape.signals)

    by_actuals : (xs : List ScalarObject) (n out : ℕ) → n + length xs ≡ total → HaveOlder n xs → From ActualIn n (signals_from made n out xs)
    by_actuals [] n out e k = tt
    by_actuals (x ∷ xs) n out e k =
        ((λ a f. let i : a < n = if_actual (λ a. a < n) x.actual k.0 a f in let c = counts in (i, omega arith)), by_actuals xs (suc n) (if is_input x then suc out else out) (omega arith) k.1)

    actual_in : (n : ℕ) → ActualIn n (signal_at shape n)
    actual_in n =
        at_each ActualIn (λ k i a e. absurd (cc)) (by_actuals made.signals 0 (length made.driven) (let f : 0 + length made.signals ≡ total = omega arith in f) h.of_actuals) n

    in_range : IsInRange shape
    in_range =
        record {
          driven = weaker (λ n. n < total) (λ n. n < length shape.signals) (λ n i. let c = counts in omega arith) made.driven h.of_driven;
          inputs = inputs_in made.signals 0 (let f : 0 + length made.signals ≡ total = omega arith in f);
          sources = sources_each (λ i ss. AllByRecursion (IsSourceIn shape) ss) sources_in (λ k i. tt);
          actual = λ n a e. (actual_in n a e).1;
        }

    ranked : HasNoRing (λ n. n) (λ n. n) shape
    ranked =
        record {
          sources = sources_each (λ i ss. AllByRecursion (IsInside (λ n. n) i) ss) sources_inside (λ k i. tt);
          actual = λ n a e. (actual_in n a e).0;
        }

    same : SaysTheSame made.sources shape
    same =
        record {
          drivers = sources_each (λ i ss. i < length shape.signals → drivers_among ss ≡ places_of i 0 made.driven) (λ i j. drivers_say i) (λ k i j. out_of_range k j i);
          newer = weaker (IsTied made.signals) (IsNewer shape) (λ p t. record { newer = t.newer; there = let c = counts in let i : p.port < total = t.there in omega arith }) made.sources h.of_sources;
          ports = sources_each (λ i ss. i < length shape.signals → Orders.ports_of ss ≡ tied_to i made.sources) (λ i j. ports_say i) (λ k i j. out_of_range k j i);
          inputs = λ n k e.
              let r = input_at made.signals 0 (length made.driven) n k e in
              (r.0, r.1, r.2 ∙ ap Some (let f : 0 + n ≡ n = omega arith in f));
          outside = λ n j e.
              let r = outside_at made.signals 0 (length made.driven) j n e in
              let f = r.1 in
              subst (λ i. (signal_at shape i).input ≡ Some (length made.driven + j)) (let g : r.0 ≡ n = omega arith in g) r.2;
        }

    -- ---- values that signals begin with

    logic_by : (o : Option ScalarObject) (s : Signal) → Stands o s → IfSome o BeginsWell → s.is_resolved ≡ true → IsLogic s.initial
    logic_by (Some x) s t b e = subst IsLogic (sym t.initial) (in_nine x.of_type (b.logic (sym t.is_resolved ∙ e)) x.initial b.in_type)
    logic_by None s t b e = let f : false ≡ true = ap (λ s. s.is_resolved) (sym t) ∙ e in absurd (cc)

    itself : (n : ℕ) → (signal_at shape n).is_resolved ≡ true → IsLogic (signal_at shape n).initial
    itself n e = logic_by (slice_get made.signals n) (signal_at shape n) (stands n) (begins_at made.signals h.of_signals n) e

    -- a port and its signal
    port_logic : (o q : Option ScalarObject) (s t : Signal) → Stands o s → Stands q t → IfSome o BeginsWell → IfSome q BeginsWell
        → ((x y : ScalarObject) → o ≡ Some x → q ≡ Some y → same_scalar_type x.of_type y.of_type ≡ true) → (q ≡ None → ⊥) → t.is_resolved ≡ true → (o ≡ None → ⊥) → IsLogic s.initial
    port_logic (Some x) (Some y) s t j k b c f g e l =
        subst IsLogic (sym j.initial) (in_nine x.of_type
        (subst (λ u. same_scalar_type u (Enumeration 9) ≡ true) (sym (one_type x.of_type y.of_type (f x y refl refl))) (c.logic (sym k.is_resolved ∙ e))) x.initial b.in_type)
    port_logic (Some x) None s t j k b c f g e l = absurd (g refl)
    port_logic None q s t j k b c f g e l = absurd (l refl)

    is_some_at : (xs : List ScalarObject) (k : ℕ) → k < length xs → slice_get xs k ≡ None → ⊥
    is_some_at [] k i e = absurd (omega arith)
    is_some_at (x ∷ xs) zero i e = cc
    is_some_at (x ∷ xs) (suc k) i e = is_some_at xs k (omega arith) e

    tied_logic : (n : ℕ) → (signal_at shape n).is_resolved ≡ true → (p : PortSource) → IsTied made.signals p → p.of ≡ n → IsLogic (signal_at shape p.port).initial
    tied_logic n e p t f =
        let i : p.of < p.port = t.newer in
        let j : p.port < total = t.there in
        port_logic (slice_get made.signals p.port) (slice_get made.signals p.of) (signal_at shape p.port) (signal_at shape p.of) (stands p.port) (stands p.of)
        (begins_at made.signals h.of_signals p.port) (begins_at made.signals h.of_signals p.of) t.one_type (is_some_at made.signals p.of (omega arith))
        (subst (λ k. (signal_at shape k).is_resolved ≡ true) (sym f) e) (is_some_at made.signals p.port j)

    abbrev PortsLogic : ℕ → List Source → Type 0
    PortsLogic i ss = (signal_at shape i).is_resolved ≡ true → AllByRecursion (λ j. IsLogic (signal_at shape j).initial) (Orders.ports_of ss)

    logic : BeginWithLogic shape
    logic =
        record {
          itself = itself;
          sources = sources_each PortsLogic
              (λ i e. subst (λ js. AllByRecursion (λ j. IsLogic (signal_at shape j).initial) js) (sym (ports_say i)) (tied_keep (λ j. IsLogic (signal_at shape j).initial) (IsTied made.signals) i (tied_logic i e) made.sources h.of_sources))
              (λ k i e. tt);
        }

    pub sound_is_consistent : IsConsistent made
    sound_is_consistent =
        record {
          signals = signals_stand made.signals 0 (length made.driven);
          in_range = in_range;
          same = same;
          ranked = ranked;
          ring_free = record { inwards = λ n. n; outwards = λ n. n; ranked = record { sources = ranked.sources; actual = ranked.actual } };
          begin = weaker BeginsWell BeginsInType (λ x b. b.in_type) made.signals h.of_signals;
          logic = logic;
          own = h.of_drivers;
          below = all_stay 0 (length made.driven) made.processes h.of_drivers;
          waits = all_wait made.signals made.processes h.of_processes;
        }

pub all_designs : DesignsAreConsistent
all_designs r tree top made e = sound_is_consistent made (design_sound r tree top made e)
