-- How an order of signals grows by signals that are ready, and when it is whole.
use Rattle.std.proofs.Common.{◌≡◌, ℕ, zero, suc, ◌+◌, ◌-◌, ◌<◌, ◌≤◌, Bool, true, false, List, [], ◌∷◌, ◌++◌, length, set, take, Option, Some, None, refl, sym, ap, ◌∙◌, subst, ⊎_elim, arith, length-set, get_or-set_same, get_or-set_other}
use Rattle.std.specs.Prelude.{slice_index, slice_index_or, option_to_list}
use Rattle.std.specs.List.{AllByRecursion, list_all}
use Rattle.std.proofs.Math.Seq.{get_or-append_seam, take-append_seam}
use Rattle.std.proofs.lemmas.Bool.{cases_lt, cases_eq, and_parts}
use Rattle.std.proofs.lemmas.List.{get_or_past, get_or_append_left, length_push}
use Rattle.vd_kernel.specs.declared.assignments.Source.{Source}
use Rattle.vd_kernel.specs.declared.assignments.Source.TheVariants.{Driver as ByDriver, Port as ByPort}
use Rattle.vd_kernel.specs.declared.orders.Along.{Along}
use Rattle.vd_kernel.specs.declared.orders.Along.TheVariants.{Sources, Actuals}
use Rattle.vd_kernel.specs.Models.{Signal, no_signal, signal_at}
use Rattle.vd_kernel.specs.Equations.{IsInside}
use Rattle.vd_kernel.specs.Orders.{shape_of, IsRingFree, ports_of, needs, is_placed, is_ready, StandsBefore, IsSorted, IsOrder, IsPlacing, IsWalked}
use Rattle.vd_kernel.proofs.Equations.{place, place_lt, place_within}

pub weaker : {X : Type 0} (P Q : X → Type 0) → ((x : X) → P x → Q x) → (xs : List X) → AllByRecursion P xs → AllByRecursion Q xs
weaker P Q h [] a = tt
weaker P Q h (x ∷ xs) a = (h x a.0, weaker P Q h xs a.1)

all_from_test : {X : Type 0} (p : X → Bool) (xs : List X) → list_all p xs ≡ true → AllByRecursion (λ x. p x ≡ true) xs
all_from_test p [] e = tt
all_from_test p (x ∷ xs) e = let a = and_parts (p x) (list_all p xs) e in (a.0, all_from_test p xs a.1)

test_from_all : {X : Type 0} (p : X → Bool) (xs : List X) → AllByRecursion (λ x. p x ≡ true) xs → list_all p xs ≡ true
test_from_all p [] a = refl
test_from_all p (x ∷ xs) a = let b = a.0 in let c = test_from_all p xs a.1 in cc

-- what stands below the end of the list, whatever is past it
pub placed_within : (placed : List Bool) (i : ℕ) → slice_index_or placed i false ≡ true → is_placed placed i ≡ true
placed_within [] i e = cc
placed_within (b ∷ bs) zero e = e
placed_within (b ∷ bs) (suc i) e = placed_within bs i e

-- what a list holds whose parts were written through a slice of all of it
pub written_back : {X : Type 0} (n : ℕ) (new rest : List X) → length new ≡ n → take n (new ++ rest) ≡ new
written_back n new rest e = ap (λ k. take k (new ++ rest)) (sym e) ∙ take-append_seam new rest

-- at each place of a list with one more number
push_at : (P : ℕ → ℕ → Type 0) (order : List ℕ) (i : ℕ) → ((k : ℕ) → k < length order → P k (slice_index order k)) → P (length order) i → (k : ℕ) → k < length (order ++ i ∷ []) → P k (slice_index (order ++ i ∷ []) k)
push_at P order i old new k h =
    ⊎_elim
    (λ lt. subst (P k) (sym (get_or_append_left order (i ∷ []) 0 k lt)) (old k lt))
    (λ le.
    let long = length_push order i in
    let e : length order ≡ k = omega arith in
    let Q : ℕ → Type 0 = λ n. P n (slice_index (order ++ i ∷ []) n) in
    let R : ℕ → Type 0 = λ v. P (length order) v in
    subst Q e (subst R (sym (get_or-append_seam order i [] 0)) new))
    (cases_lt k (length order))

stands_more : (order : List ℕ) (i k j : ℕ) → k ≤ length order → StandsBefore order k j → StandsBefore (order ++ i ∷ []) k j
stands_more order i k j h s =
    let l = s.1 in
    (s.0, l, get_or_append_left order (i ∷ []) 0 s.0 (omega arith) ∙ s.2)

stands_later : (order : List ℕ) (k m j : ℕ) → k ≤ m → StandsBefore order k j → StandsBefore order m j
stands_later order k m j h s = let l = s.1 in (s.0, omega arith, s.2)

module _ (along : Along) (signals : List Signal) where
  abbrev at : ℕ → Signal
  at i = slice_index_or signals i no_signal

  sorted_more : (placed : List Bool) (order : List ℕ) (i : ℕ) → IsPlacing along signals placed order → i < length signals → is_ready along placed (at i) ≡ true → IsSorted along signals (order ++ i ∷ [])
  sorted_more placed order i p h r =
      let n = length signals in
      let more = order ++ i ∷ [] in
      let Behind : ℕ → ℕ → Type 0 = λ k v. AllByRecursion (λ j. j < n → StandsBefore more k j) (needs along (at v)) in
      record {
        within = push_at (λ k v. v < n) order i p.sorted.within h;
        behind =
            push_at Behind order i
            (λ k l. weaker (λ j. j < n → StandsBefore order k j) (λ j. j < n → StandsBefore more k j) (λ j f w. stands_more order i k j (omega arith) (f w)) (needs along (at (slice_index order k))) (p.sorted.behind k l))
            (weaker (λ j. is_placed placed j ≡ true) (λ j. j < n → StandsBefore more (length order) j) (λ j e w. stands_more order i (length order) j (omega arith) (p.known j w e)) (needs along (at i)) (all_from_test (is_placed placed) (needs along (at i)) r));
      }

  -- a signal that is ready goes behind the order
  pub place_more : (placed : List Bool) (order : List ℕ) (i : ℕ) → IsPlacing along signals placed order → i < length signals → is_ready along placed (at i) ≡ true → IsPlacing along signals (set placed i true) (order ++ i ∷ [])
  place_more placed order i p h r =
      record {
        sorted = sorted_more placed order i p h r;
        long = length-set placed i true ∙ p.long;
        known = λ j w e.
            let long = length_push order i in
            ⊎_elim
            (λ same. (length order, omega arith, get_or-append_seam order i [] 0 ∙ sym same))
            (λ ne. stands_later (order ++ i ∷ []) (length order) (length (order ++ i ∷ [])) j (omega arith) (stands_more order i (length order) j (omega arith) (p.known j w (sym (get_or-set_other placed i j true true ne) ∙ e))))
            (cases_eq j i);
      }

  -- Walks

  ready_stays : (old new : List Bool) → ((i : ℕ) → is_placed old i ≡ true → is_placed new i ≡ true) → (s : Signal) → is_ready along old s ≡ true → is_ready along new s ≡ true
  ready_stays old new stay s r =
      test_from_all (is_placed new) (needs along s) (weaker (λ j. is_placed old j ≡ true) (λ j. is_placed new j ≡ true) stay (needs along s) (all_from_test (is_placed old) (needs along s) r))

  pub walked_none : (old : List Bool) → IsWalked along signals old old 0
  walked_none old = record { stay = λ i e. e; ready = λ i h r. absurd (omega arith) }

  next_ready : (old new : List Bool) (i : ℕ) → ((j : ℕ) → j < i → is_ready along old (at j) ≡ true → is_placed new j ≡ true) → (is_ready along old (at i) ≡ true → is_placed new i ≡ true) → (j : ℕ) → j < i + 1 → is_ready along old (at j) ≡ true → is_placed new j ≡ true
  next_ready old new i before here j h r =
      ⊎_elim
      (λ lt. before j lt r)
      (λ le.
      let e : i ≡ j = omega arith in
      let P : ℕ → Type 0 = λ k. is_ready along old (at k) ≡ true → is_placed new k ≡ true in
      subst P e here r)
      (cases_lt j i)

  -- past a signal that is placed already
  pub walked_placed : (old new : List Bool) (i : ℕ) → IsWalked along signals old new i → is_placed new i ≡ true → IsWalked along signals old new (i + 1)
  walked_placed old new i w e = record { stay = w.stay; ready = next_ready old new i w.ready (λ r. e) }

  -- past one that isn't ready
  pub walked_unready : (old new : List Bool) (i : ℕ) → IsWalked along signals old new i → is_ready along new (at i) ≡ false → IsWalked along signals old new (i + 1)
  walked_unready old new i w e =
      record { stay = w.stay; ready = next_ready old new i w.ready (λ r. let f = ready_stays old new w.stay (at i) r in cc) }

  stays_set : (new : List Bool) (i j : ℕ) → i < length new → is_placed new j ≡ true → is_placed (set new i true) j ≡ true
  stays_set new i j h e =
      ⊎_elim
      (λ same. ap (is_placed (set new i true)) same ∙ get_or-set_same new i true true h)
      (λ ne. get_or-set_other new i j true true ne ∙ e)
      (cases_eq j i)

  -- and past one that is placed now
  pub walked_set : (old new : List Bool) (i : ℕ) → IsWalked along signals old new i → i < length new → IsWalked along signals old (set new i true) (i + 1)
  walked_set old new i w h =
      record {
        stay = λ j e. stays_set new i j h (w.stay j e);
        ready = next_ready old (set new i true) i (λ j l r. stays_set new i j h (w.ready j l r)) (λ r. get_or-set_same new i true true h);
      }

  -- Depths

  -- how deep each signal stands above all that it needs
  pub record IsDeep (depth : ℕ → ℕ) : Type 0 where
    pub within : (i : ℕ) → i < length signals → depth i < length signals
    pub above : (i : ℕ) → i < length signals → AllByRecursion (λ j. j < length signals → depth j < depth i) (needs along (at i))

  -- one walk more places the signals of one depth more
  pub deeper : (depth : ℕ → ℕ) → IsDeep depth → (old new : List Bool) → length old ≡ length signals → IsWalked along signals old new (length signals) → (p : ℕ) → ((i : ℕ) → i < length signals → depth i < p → is_placed old i ≡ true) → (i : ℕ) → i < length signals → depth i < p + 1 → is_placed new i ≡ true
  deeper depth deep old new long w p h i l d =
      let n = length signals in
      w.ready i l (test_from_all (is_placed old) (needs along (at i)) (weaker (λ j. j < n → depth j < depth i) (λ j. is_placed old j ≡ true) (λ j f.
      ⊎_elim
      (λ lt. let g = f lt in h j lt (omega arith))
      (λ le. get_or_past old j true (omega arith))
      (cases_lt j n)) (needs along (at i)) (deep.above i l)))

  -- and where it places none, all are placed
  pub at_rest : (depth : ℕ → ℕ) → IsDeep depth → (old : List Bool) → length old ≡ length signals → IsWalked along signals old old (length signals) → (p i : ℕ) → i < length signals → depth i < p → is_placed old i ≡ true
  at_rest depth deep old long w zero i l d = absurd (omega arith)
  at_rest depth deep old long w (suc p) i l d =
      deeper depth deep old old long w p (at_rest depth deep old long w p) i l (omega arith)

  pub whole : (placed : List Bool) (order : List ℕ) → IsPlacing along signals placed order → ((i : ℕ) → i < length signals → is_placed placed i ≡ true) → IsOrder along signals order
  whole placed order p all = record { sorted = p.sorted; whole = λ i l. p.known i l (all i l) }

-- The depths of a design without rings

from_inside : (rank : ℕ → ℕ) (i : ℕ) (ss : List Source) → AllByRecursion (IsInside rank i) ss → AllByRecursion (λ j. rank i < rank j) (ports_of ss)
from_inside rank i [] z = tt
from_inside rank i (ByDriver d ∷ ss) z = from_inside rank i ss z.1
from_inside rank i (ByPort j ∷ ss) z = (z.0, from_inside rank i ss z.1)

from_actual : (P : ℕ → Type 0) (o : Option ℕ) → ((a : ℕ) → o ≡ Some a → P a) → AllByRecursion P (option_to_list o)
from_actual P None h = tt
from_actual P (Some a) h = (h a refl, tt)

pub depths : (along : Along) (signals : List Signal) → IsRingFree (shape_of signals) → (depth : ℕ → ℕ) × IsDeep along signals depth
depths Sources signals free =
    let m = shape_of signals in
    let n = length signals in
    let rank = free.inwards in
    let depth : ℕ → ℕ = λ i. n - 1 - place rank m i in (
      depth,
      record {
        within = λ i l. let w = place_within rank m i l in omega arith;
        above = λ i l.
            weaker (λ j. rank i < rank j) (λ j. j < n → depth j < depth i)
            (λ j r lt. let up = place_lt rank m i j l r in let w = place_within rank m j lt in omega arith)
            (ports_of (signal_at m i).sources) (from_inside rank i (signal_at m i).sources (free.ranked.sources i));
      },
    )
depths Actuals signals free =
    let m = shape_of signals in
    let n = length signals in
    let rank = free.outwards in (
      place rank m,
      record {
        within = λ i l. place_within rank m i l;
        above = λ i l.
            from_actual (λ j. j < n → place rank m j < place rank m i) (signal_at m i).actual (λ a e lt. place_lt rank m a i lt (free.ranked.actual i a e));
      },
    )
