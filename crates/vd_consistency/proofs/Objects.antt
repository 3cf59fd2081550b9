-- Signals and processes that are added to a design that is sound.
use Rattle.std.proofs.Common.{◌≡◌, ℕ, zero, suc, ◌+◌, ◌<◌, ◌≤◌, Bool, true, false, List, [], ◌∷◌, ◌++◌, length, Option, Some, None, map, refl, sym, ap, subst, ◌∙◌, append_assoc, append-nil, length-append, arith}
use Rattle.std.specs.Prelude.{◌==◌, nat_lt, not, ◌&&◌, ◌||◌, Ok, Err, IfOk, IfSome, slice_get, if◌then◌else◌}
use Rattle.std.specs.List.{AllByRecursion}
use Rattle.vd_values.specs.declared.scalar.Scalar.{Scalar}
use Rattle.vd_trees.specs.declared.paths.Scope.{Scope}
use Rattle.vd_composites.specs.declared.scalars.ScalarType.{ScalarType}
use Rattle.vd_composites.specs.declared.scalars.ScalarType.TheVariants.{Integers, Enumeration, Times}
use Rattle.vd_composites.specs.Stops.{◌>>=◌}
use Rattle.vd_composites.specs.Ranges.{is_within}
use Rattle.vd_composites.specs.Scalars.{position_of, is_of, whole_range}
use Rattle.vd_composites.specs.Composites.{Value, One, Array, Fields, Items, none, item, leaves, all_leaves}
use Rattle.vd_environments.specs.Got.{Got, senseless}
use Rattle.vd_environments.specs.Environments.{ScalarSignal, of_the_type, Indicated}
use Rattle.vd_environments.specs.Processes.{Process, Running, Elaborated, elaborated}
use Rattle.vd_meaning.specs.Layouts.{Leaf, numbered, all_numbered}
use Rattle.vd_meaning.specs.Building.{ScalarObject, PortSource, Placed, Made, Built, evaluated, layout_of, same_scalar_type, first_value, first_values, first_of_object, is_such, is_among, Start, scalar_objects, is_out_at, signals_of, State, with_object, plain_start, placed, with_process, with_processes}
use Rattle.vd_meaning.specs.Instances.{added}
use Rattle.vd_consistency.specs.Consistency.{OwnsDrivers, ShareOut}
use Rattle.vd_consistency.specs.Invariants.{AreOf, AllAreOf, HasSignals, IsNumberOf, IsRunning, IsProcess, KeepsProcess, StaysRunning, BeginsWell, HaveOlder, IsTied, AreSound, IsSound, IsState, Grows, IsGrown, Builds}
use Rattle.vd_consistency.proofs.Steps.{after, either, joined, weaker}
use Rattle.vd_consistency.proofs.Running.{denoting_keeps, has_more}
use Rattle.vd_consistency.proofs.Turning.{IsElaborated, elaborated_keeps, owns}

-- ---- types

same_number : (n : ℕ) → (n == n) ≡ true
same_number n = grind arith

pub type_itself : (t : ScalarType) → same_scalar_type t t ≡ true
type_itself Integers = refl
type_itself Times = refl
type_itself (Enumeration n) = same_number n

pub equal_numbers : (m n : ℕ) → (m == n) ≡ true → m ≡ n
equal_numbers m n e = grind arith

false_is : {A : Type 0} → false ≡ true → A
false_is e = absurd (cc)

pub one_type : (t u : ScalarType) → same_scalar_type t u ≡ true → t ≡ u
one_type Integers Integers e = refl
one_type Times Times e = refl
one_type (Enumeration m) (Enumeration n) e = ap Enumeration (equal_numbers m n e)
one_type Integers Times e = false_is e
one_type Integers (Enumeration n) e = false_is e
one_type Times Integers e = false_is e
one_type Times (Enumeration n) e = false_is e
one_type (Enumeration m) Integers e = false_is e
one_type (Enumeration m) Times e = false_is e

-- ---- signals of a list, and of a longer one

pub longer : (ss ts : List ScalarObject) (k : ℕ) (t : ScalarType) → is_such (slice_get ss k) t ≡ true → is_such (slice_get (ss ++ ts) k) t ≡ true
longer [] ts k t h = false_is h
longer (s ∷ ss) ts zero t h = h
longer (s ∷ ss) ts (suc k) t h = longer ss ts k t h

pub is_number : (ss : List ScalarObject) (k : ℕ) (t : ScalarType) → is_such (slice_get ss k) t ≡ true → k < length ss
is_number [] k t h = false_is h
is_number (s ∷ ss) zero t h = omega arith
is_number (s ∷ ss) (suc k) t h = let i = is_number ss k t h in omega arith

pub as_it_was : (ss ts : List ScalarObject) (k : ℕ) → k < length ss → slice_get (ss ++ ts) k ≡ slice_get ss k
as_it_was [] ts k h = absurd (omega arith)
as_it_was (s ∷ ss) ts zero h = refl
as_it_was (s ∷ ss) ts (suc k) h = as_it_was ss ts k (omega arith)

pub is_its_type : (ss : List ScalarObject) (k : ℕ) (t : ScalarType) (x : ScalarObject) → is_such (slice_get ss k) t ≡ true → slice_get ss k ≡ Some x → x.of_type ≡ t
is_its_type ss k t x h e = one_type x.of_type t (subst (λ o. is_such o t ≡ true) e h)

pub grown_by : (m : Made) (xs : List ScalarObject) → Grows m (record m { signals = m.signals ++ xs })
grown_by m xs x h = longer m.signals xs x.number x.of_type h

-- from a place on there are signals of the types of some leaves
abbrev pub AreAt : List ScalarObject → ℕ → List Leaf → Type 0
AreAt all k [] = Unit {0}
AreAt all k (leaf ∷ rest) = (is_such (slice_get all k) leaf.of_type ≡ true) × AreAt all (suc k) rest

behind_one : (s : ScalarObject) (all : List ScalarObject) (k : ℕ) (ls : List Leaf) → AreAt all k ls → AreAt (s ∷ all) (suc k) ls
behind_one s all k [] h = tt
behind_one s all k (leaf ∷ rest) h = (h.0, behind_one s all (suc k) rest h.1)

behind_all : (ss xs : List ScalarObject) (ls : List Leaf) → AreAt xs 0 ls → AreAt (ss ++ xs) (length ss) ls
behind_all [] xs ls h = h
behind_all (s ∷ ss) xs ls h = behind_one s (ss ++ xs) (length ss) ls (behind_all ss xs ls h)

-- numbers from there on are those of such signals
module _ (all : List ScalarObject) (out : ℕ → Bool) where
  abbrev numbering : ℕ → Leaf → ScalarSignal
  numbering n leaf = record { number = n; of_type = leaf.of_type; is_out = out n }

  mutual
    numbered_of : (v : Value Leaf) (k : ℕ) (rest : List Leaf) → AreAt all k (leaves v ++ rest) → AreOf (is_among all) (numbered numbering k v).it × AreAt all (numbered numbering k v).next rest
    numbered_of (One leaf) k rest h = (h.0, h.1)
    numbered_of (Array b vs) k rest h = all_numbered_of vs k rest h
    numbered_of (Fields vs) k rest h = all_numbered_of vs k rest h

    all_numbered_of : (vs : Items Leaf) (k : ℕ) (rest : List Leaf) → AreAt all k (all_leaves vs ++ rest) → AllAreOf (is_among all) (all_numbered numbering k vs).it × AreAt all (all_numbered numbering k vs).next rest
    all_numbered_of none k rest h = (tt, h)
    all_numbered_of (item v vs) k rest h =
        let i = numbered_of v k (all_leaves vs ++ rest) (subst (AreAt all k) (append_assoc (leaves v) (all_leaves vs) rest) h) in
        let j = all_numbered_of vs (numbered numbering k v).next rest i.1 in
        ((i.0, j.0), j.1)

-- ---- what objects begin with

pub record BeginsOne (leaf : Leaf) (x : Scalar) : Type 0 where
  pub in_type : (is_of leaf.of_type x && is_within (whole_range leaf.of_type) (position_of x)) ≡ true
  pub logic : leaf.make.is_resolved ≡ true → same_scalar_type leaf.of_type (Enumeration 9) ≡ true

abbrev pub Begin : List Leaf → List Scalar → Type 0
Begin [] [] = Unit {0}
Begin (leaf ∷ rest) (x ∷ xs) = BeginsOne leaf x × Begin rest xs
Begin _ _ = ⊥

abbrev pub Begins : Indicated → Value Scalar → Type 0
Begins i v = Begin (leaves (layout_of i)) (leaves v)

pub where_true : {A E : Type 0} (S : A → Type 0) (b : Bool) (x y : Rattle.std.specs.Prelude.Result A E) → (b ≡ true → IfOk x S) → IfOk y S → IfOk (if b then x else y) S
where_true S true x y h k = h refl
where_true S false x y h k = k

resolved_then : (r s : Bool) → (not r || s) ≡ true → r ≡ true → s ≡ true
resolved_then true s e h = e
resolved_then false s e h = false_is h

first_one : (leaf : Leaf) (x : Scalar) → IfOk (first_value leaf x) (λ y. BeginsOne leaf x)
first_one leaf x =
    where_true (λ y. BeginsOne leaf x) (not leaf.make.is_resolved || same_scalar_type leaf.of_type (Enumeration 9)) (of_the_type leaf.of_type x) senseless (λ e.
    where_true (λ y. BeginsOne leaf x) (is_of leaf.of_type x && is_within (whole_range leaf.of_type) (position_of x)) (Ok x) senseless (λ f.
    record { in_type = f; logic = resolved_then leaf.make.is_resolved _ e }) tt) tt

first_all : (ls : List Leaf) (xs : List Scalar) → IfOk (first_values ls xs) (λ ys. Begin ls xs)
first_all [] [] = tt
first_all (leaf ∷ rest) (x ∷ xs) =
    after (λ y. BeginsOne leaf x) (λ ys. Begin (leaf ∷ rest) (x ∷ xs)) (first_value leaf x) _ (first_one leaf x) (λ y h.
    after (λ ys. Begin rest xs) (λ ys. Begin (leaf ∷ rest) (x ∷ xs)) (first_values rest xs) _ (first_all rest xs) (λ ys k. (h, k)))
first_all [] (x ∷ xs) = tt
first_all (leaf ∷ rest) [] = tt

pub first_begins : (i : Indicated) (v : Value Scalar) → IfOk (first_of_object i v) (λ w. Begins i w × (w ≡ v))
first_begins i v = after (λ ys. Begins i v) (λ w. Begins i w × (w ≡ v)) (first_values (leaves (layout_of i)) (leaves v)) _ (first_all (leaves (layout_of i)) (leaves v)) (λ ys h. (h, refl))

-- ---- objects

pub record Starts (n : ℕ) (leaf : Leaf) (s : Start) : Type 0 where
  pub begins : BeginsOne leaf s.initial
  pub older : IfSome s.actual (λ a. a < n)

-- a start for each leaf, where there are so many signals
abbrev pub AllStart : ℕ → List Leaf → List Start → Type 0
AllStart n [] [] = Unit {0}
AllStart n (leaf ∷ rest) (s ∷ ss) = Starts n leaf s × AllStart n rest ss
AllStart n _ _ = ⊥

pub plain_starts : (n : ℕ) (ls : List Leaf) (xs : List Scalar) → Begin ls xs → AllStart n ls (map plain_start xs)
plain_starts n [] [] h = tt
plain_starts n (leaf ∷ rest) (x ∷ xs) h = (record { begins = h.0; older = tt }, plain_starts n rest xs h.1)
plain_starts n [] (x ∷ xs) h = absurd h
plain_starts n (leaf ∷ rest) [] h = absurd h

objects_begin : (scope : Scope) (name : List ℕ) (n : ℕ) (ls : List Leaf) (ss : List Start) → AllStart n ls ss → AllByRecursion BeginsWell (scalar_objects scope name ls ss)
objects_begin scope name n [] [] h = tt
objects_begin scope name n (leaf ∷ rest) (s ∷ ss) h = (record { in_type = h.0.begins.in_type; logic = h.0.begins.logic }, objects_begin scope name n rest ss h.1)
objects_begin scope name n [] (s ∷ ss) h = absurd h
objects_begin scope name n (leaf ∷ rest) [] h = absurd h

objects_at : (scope : Scope) (name : List ℕ) (n : ℕ) (ls : List Leaf) (ss : List Start) → AllStart n ls ss → AreAt (scalar_objects scope name ls ss) 0 ls
objects_at scope name n [] [] h = tt
objects_at scope name n (leaf ∷ rest) (s ∷ ss) h = (type_itself leaf.of_type, behind_one _ _ 0 rest (objects_at scope name n rest ss h.1))
objects_at scope name n [] (s ∷ ss) h = absurd h
objects_at scope name n (leaf ∷ rest) [] h = absurd h

still_older : (m n : ℕ) → m ≤ n → (o : Option ℕ) → IfSome o (λ a. a < m) → IfSome o (λ a. a < n)
still_older m n i (Some a) h = omega arith
still_older m n i None h = tt

objects_older : (scope : Scope) (name : List ℕ) (n k : ℕ) → n ≤ k → (ls : List Leaf) (ss : List Start) → AllStart n ls ss → HaveOlder k (scalar_objects scope name ls ss)
objects_older scope name n k i [] [] h = tt
objects_older scope name n k i (leaf ∷ rest) (s ∷ ss) h = (still_older n k i s.actual h.0.older, objects_older scope name n (suc k) (omega arith) rest ss h.1)
objects_older scope name n k i [] (s ∷ ss) h = absurd h
objects_older scope name n k i (leaf ∷ rest) [] h = absurd h

-- ---- a longer list of signals is sound

older_joined : (k : ℕ) (ss xs : List ScalarObject) → HaveOlder k ss → HaveOlder (k + length ss) xs → HaveOlder k (ss ++ xs)
older_joined k [] xs h j = subst (λ n. HaveOlder n xs) (let e : k + 0 ≡ k = omega arith in e) j
older_joined k (s ∷ ss) xs h j = (h.0, older_joined (suc k) ss xs h.1 (subst (λ n. HaveOlder n xs) (let e : k + suc (length ss) ≡ suc k + length ss = omega arith in e) j))

pub tied_longer : (ss xs : List ScalarObject) (s : PortSource) → IsTied ss s → IsTied (ss ++ xs) s
tied_longer ss xs s h =
    let older : s.of < s.port = h.newer in
    let inside : s.port < length ss = h.there in
    record {
      newer = older;
      there = omega (arith, length-append ss xs);
      one_type = λ x y e f. h.one_type x y (sym (as_it_was ss xs s.port inside) ∙ e) (sym (as_it_was ss xs s.of (omega arith)) ∙ f);
    }

pub longer_sound : (ss xs : List ScalarObject) (sources : List PortSource) (driven : List ℕ) (processes : List Placed) → AreSound ss sources driven processes
    → AllByRecursion BeginsWell xs → HaveOlder (length ss) xs → AreSound (ss ++ xs) sources driven processes
longer_sound ss xs sources driven processes h b o =
    record {
      of_driven = weaker (λ n. n < length ss) (λ n. n < length (ss ++ xs)) (λ n i. omega (arith, length-append ss xs)) driven h.of_driven;
      of_sources = weaker (IsTied ss) (IsTied (ss ++ xs)) (tied_longer ss xs) sources h.of_sources;
      of_actuals = older_joined 0 ss xs h.of_actuals (subst (λ n. HaveOlder n xs) (let e : length ss ≡ 0 + length ss = omega arith in e) o);
      of_signals = joined BeginsWell ss xs h.of_signals b;
      of_drivers = h.of_drivers;
      of_processes = weaker (λ p. StaysRunning ss p.running) (λ p. StaysRunning (ss ++ xs) p.running) (λ p k Q more. k Q (λ x i. more x (longer ss xs x.number x.of_type i))) processes h.of_processes;
    }

-- ---- an object more

module _ (scope : Scope) (name : List ℕ) (i : Indicated) (starts : List Start) (s : State) (h : IsState s) (k : AllStart (length s.made.signals) (leaves (layout_of i)) starts) where
  abbrev pub new_ones : List ScalarObject
  new_ones = scalar_objects scope name (leaves (layout_of i)) starts

  pub new_at : AreAt (s.made.signals ++ new_ones) (length s.made.signals) (leaves (layout_of i))
  new_at = behind_all s.made.signals new_ones (leaves (layout_of i)) (objects_at scope name (length s.made.signals) (leaves (layout_of i)) starts k)

  pub new_signals_of : AreOf (is_among (s.made.signals ++ new_ones)) (signals_of i s.made starts)
  new_signals_of =
      (numbered_of (s.made.signals ++ new_ones) (is_out_at starts (length s.made.signals)) (layout_of i) (length s.made.signals) []
      (subst (AreAt (s.made.signals ++ new_ones) (length s.made.signals)) (sym (append-nil (leaves (layout_of i)))) new_at)).0

  pub new_sound : IsSound (record s.made { signals = s.made.signals ++ new_ones })
  new_sound =
      longer_sound s.made.signals new_ones s.made.sources s.made.driven s.made.processes h.sound
      (objects_begin scope name (length s.made.signals) (leaves (layout_of i)) starts k)
      (objects_older scope name (length s.made.signals) (length s.made.signals) (omega arith) (leaves (layout_of i)) starts k)

  new_has : HasSignals (is_among (s.made.signals ++ new_ones)) s.env
  new_has = has_more (is_among s.made.signals) (is_among (s.made.signals ++ new_ones)) s.env (grown_by s.made new_ones) h.has

  pub object_keeps : (d : ℕ) → IsGrown s.made (with_object scope d name i starts s)
  object_keeps d =
      record {
        state = record {
          has = record { denoted = (denoting_keeps (is_among (s.made.signals ++ new_ones)) d _ s.env new_signals_of new_has).denoted };
          sound = new_sound;
        };
        grows = grown_by s.made new_ones;
      }

  pub added_keeps : IsGrown s.made (added scope name i starts s)
  added_keeps = record { state = record { has = record { denoted = new_has.denoted }; sound = new_sound }; grows = grown_by s.made new_ones }

-- ---- processes

share_one_more : (first total count : ℕ) (ps : List Placed) (p : Placed) → ShareOut first total ps → OwnsDrivers total count p.running → ShareOut first (total + count) (ps ++ p ∷ [])
share_one_more first total count [] p h k = (count, subst (λ n. OwnsDrivers n count p.running) (sym h) k, ap (λ n. n + count) h)
share_one_more first total count (q ∷ ps) p h k = (h.0, h.1, share_one_more (first + h.0) total count ps p h.2 k)

pub is_below : (ss : List ScalarObject) (n : ℕ) → IsNumberOf (is_among ss) n → n < length ss
is_below ss n h = let i = is_number ss h.signal.number h.signal.of_type h.is_of in let e = h.is in omega arith

own_drivers : (P : ScalarSignal → Bool) (drivers : ℕ → Option ℕ) (p : Running) → IsRunning P drivers p → IsRunning P p.env.drivers p
own_drivers P drivers p h = record { of_env = record { has = h.of_env.has; drives = refl }; of_body = h.of_body; of_rest = h.of_rest; of_list = h.of_list }

placed_sound : (scope : Scope) (q : Elaborated) (m : Made) → IsSound m → IsElaborated (is_among m.signals) (length m.driven) q → IsSound (placed scope q m)
placed_sound scope q m h k =
    record {
      of_driven = joined (λ n. n < length m.signals) m.driven q.driven h.of_driven (weaker (IsNumberOf (is_among m.signals)) (λ n. n < length m.signals) (is_below m.signals) q.driven k.drives);
      of_sources = h.of_sources;
      of_actuals = h.of_actuals;
      of_signals = h.of_signals;
      of_drivers = subst (λ n. ShareOut 0 n (placed scope q m).processes) (sym (length-append m.driven q.driven))
          (share_one_more 0 (length m.driven) (length q.driven) m.processes (record { running = q.running; scope = scope }) h.of_drivers
          (owns (is_among m.signals) (length m.driven) q.driven q.running (k.running (is_among m.signals) (λ x i. i))));
      of_processes = joined (λ p. StaysRunning m.signals p.running) m.processes (record { running = q.running; scope = scope } ∷ []) h.of_processes
          ((λ Q more. own_drivers Q _ q.running (k.running Q more)), tt);
    }

pub evaluated_keeps : {A B : Type 0} (R : A → Type 0) (S : B → Type 0) (scope : Scope) (g : Got A) (f : A → Built B) → IfOk g R → ((x : A) → R x → IfOk (f x) S) → IfOk (evaluated scope g >>= f) S
evaluated_keeps R S scope (Ok x) f h k = k x h
evaluated_keeps R S scope (Err s) f h k = tt

pub evaluated_any : {A B : Type 0} (S : B → Type 0) (scope : Scope) (g : Got A) (f : A → Built B) → ((x : A) → IfOk (f x) S) → IfOk (evaluated scope g >>= f) S
evaluated_any S scope (Ok x) f k = k x
evaluated_any S scope (Err s) f k = tt

pub itself : (s : State) → IsState s → IsGrown s.made s
itself s h = record { state = h; grows = λ x k. k }

pub further : (m : Made) (s : State) → IsGrown m s → (f : Built State) → Builds s.made f → Builds m f
further m s h (Ok t) k = record { state = k.state; grows = λ x j. k.grows x (h.grows x j) }
further m s h (Err e) k = tt

pub builds_then : (m : Made) (g : Built State) (f : State → Built State) → Builds m g → ((s : State) → IsState s → Builds s.made (f s)) → Builds m (g >>= f)
builds_then m (Ok s) f h k = further m s h (f s) (k s h.state)
builds_then m (Err e) f h k = tt

pub process_keeps : (scope : Scope) (p : Process) (s : State) → IsState s → IsProcess (is_among s.made.signals) p → Builds s.made (with_process scope p s)
process_keeps scope p s h k =
    either (IsGrown s.made) (nat_lt (length s.made.processes) 100000) _ _
    (evaluated_keeps (IsElaborated (is_among s.made.signals) (length s.made.driven)) (IsGrown s.made) scope (elaborated (length s.made.driven) p s.env) _
    (elaborated_keeps (is_among s.made.signals) (length s.made.driven) p k s.env h.has) (λ q j.
    record { state = record { has = h.has; sound = placed_sound scope q s.made h.sound j }; grows = λ x i. i }))
    tt

pub processes_keep : (scope : Scope) (ps : List Process) → AllByRecursion KeepsProcess ps → (s : State) → IsState s → Builds s.made (with_processes scope ps s)
processes_keep scope [] k s h = itself s h
processes_keep scope (p ∷ ps) k s h = builds_then s.made (with_process scope p s) (with_processes scope ps) (process_keeps scope p s h (k.0 (is_among s.made.signals))) (processes_keep scope ps k.1)
