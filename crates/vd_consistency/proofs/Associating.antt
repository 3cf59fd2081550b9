-- Generics, ports, associations and instances in a design that is sound.
use Rattle.std.proofs.Common.{◌≡◌, ℕ, zero, suc, ◌+◌, ◌<◌, ◌≤◌, Bool, true, false, List, [], ◌∷◌, ◌++◌, length, Option, Some, None, refl, sym, subst, arith}
use Rattle.std.specs.Prelude.{◌==◌, ◌&&◌, is_some, Ok, IfOk, IfSome, slice_get, if◌then◌else◌}
use Rattle.std.specs.List.{AllByRecursion}
use Rattle.vd_values.specs.declared.scalar.Scalar.{Scalar}
use Rattle.vd_trees.specs.declared.paths.Scope.{Scope}
use Rattle.vd_composites.specs.Composites.{leaves}
use Rattle.vd_environments.specs.Got.{senseless}
use Rattle.vd_environments.specs.Environments.{ScalarSignal, Env, Indicated}
use Rattle.vd_meaning.specs.Facets.{Objects}
use Rattle.vd_meaning.specs.Layouts.{Leaf, Counted}
use Rattle.vd_meaning.specs.Building.{Mode, Input, Output, BothWays, ScalarObject, PortSource, Made, Built, evaluated, looking, inside_instance, counted, layout_of, size_of_object, same_scalar_type, first_of_object, is_such, is_among, Start, plain_start, seen_in, is_out_at, signals_of, State, with_object}
use Rattle.vd_meaning.specs.NodeFacets.{ElementMode, View, Ports, Actual}
use Rattle.vd_meaning.specs.Instances.{names_formal, named_actual, nth_actual, or_placed, unless_open, actual_for, generic_value, with_generic, with_generics_of, with_generics, Port, default_value, port_indicated, port_modes, modes_of_port, some_port, ports_named, ports_of, open_starts, tied_start, tied_starts, port_sources, have_one_type, tied_port, open_port}
use Rattle.vd_consistency.specs.Invariants.{HasSignals, KeepsMeaning, IsTied, AreSound, IsState, IsGrown}
use Rattle.vd_consistency.proofs.Steps.{after, after_any, joined}
use Rattle.vd_consistency.proofs.Running.{denoting_keeps}
use Rattle.vd_consistency.proofs.Objects.{one_type, is_number, is_its_type, longer, AreAt, Begin, Begins, first_begins, Starts, AllStart, plain_starts, where_true, new_ones, new_at, new_signals_of, object_keeps, added_keeps, evaluated_keeps, evaluated_any, itself, further, builds_then, process_keeps}

-- ---- actuals

abbrev pub IfKeeps : Option Actual → Type 0
IfKeeps x = IfSome x (λ a. KeepsMeaning a.meaning)

choice : (b : Bool) (x y : Option Actual) → IfKeeps x → IfKeeps y → IfKeeps (if b then x else y)
choice true x y h k = h
choice false x y h k = k

named_keeps : (d : ℕ) (as' : List Actual) → AllByRecursion (λ a. KeepsMeaning a.meaning) as' → IfKeeps (named_actual d as')
named_keeps d [] h = tt
named_keeps d (a ∷ as') h = choice (names_formal d a) (Some a) (named_actual d as') h.0 (named_keeps d as' h.1)

nth_keeps : (k : ℕ) (as' : List Actual) → AllByRecursion (λ a. KeepsMeaning a.meaning) as' → IfKeeps (nth_actual k as')
nth_keeps k [] h = tt
nth_keeps zero (a ∷ as') h = choice (is_some a.formal) None (Some a) tt h.0
nth_keeps (suc k) (a ∷ as') h = nth_keeps k as' h.1

or_keeps : (x y : Option Actual) → IfKeeps x → IfKeeps y → IfKeeps (or_placed x y)
or_keeps None y h k = k
or_keeps (Some a) y h k = h

open_keeps : (x : Option Actual) → IfKeeps x → IfKeeps (unless_open x)
open_keeps None h = tt
open_keeps (Some a) h = choice a.meaning.is_open None (Some a) tt h

pub actual_keeps : (k d : ℕ) (as' : List Actual) → AllByRecursion (λ a. KeepsMeaning a.meaning) as' → IfKeeps (actual_for k d as')
actual_keeps k d as' h = open_keeps _ (or_keeps (named_actual d as') (nth_actual k as') (named_keeps d as' h) (nth_keeps k as' h))

-- ---- generics

module _ (P : ScalarSignal → Bool) (outer inner : Scope) (e : Env) (actual : ℕ → ℕ → Option Actual) where
  generic_keeps : (d : ℕ) (o : Objects) (x : Option Actual) (f : Env) → HasSignals P f → IfOk (with_generic outer inner e d o x f) (HasSignals P)
  generic_keeps d o x f h =
      evaluated_any (HasSignals P) inner (o.indicated f) _ (λ i.
      after_any (HasSignals P) (generic_value outer inner e f o.default i x) _ (λ v. denoting_keeps P d _ f tt h))

  generics_of_keep : (o : Objects) (k : ℕ) (ds : List ℕ) (f : Env) → HasSignals P f → IfOk (with_generics_of outer inner e actual o k ds f) (HasSignals P)
  generics_of_keep o k [] f h = h
  generics_of_keep o k (d ∷ ds) f h =
      after (HasSignals P) (HasSignals P) (with_generic outer inner e d o (actual k d) f) _ (generic_keeps d o (actual k d) f h) (generics_of_keep o (suc k) ds)

  pub generics_keep : (k : ℕ) (os : List Objects) (f : Env) → HasSignals P f → IfOk (with_generics outer inner e actual k os f) (HasSignals P)
  generics_keep k [] f h = h
  generics_keep k (o ∷ os) f h =
      after (HasSignals P) (HasSignals P) (with_generics_of outer inner e actual o k o.numbers f) _ (generics_of_keep o k o.numbers f h) (generics_keep (k + length o.numbers) os)

-- ---- ports

-- it begins with a value for each of its scalar signals, and each has a mode
pub record IsPort (p : Port) : Type 0 where
  pub begins : Begin (leaves (layout_of p.indicated)) p.initial
  pub modes : length p.modes ≡ length (leaves (layout_of p.indicated))

equal_lengths : (m n : ℕ) → (m == n) ≡ true → m ≡ n
equal_lengths m n e = grind arith

modes_keep : (views : List View) (mode : ElementMode) (i : Indicated) → IfOk (modes_of_port views mode i) (λ ms. length ms ≡ length (leaves (layout_of i)))
modes_keep views mode i =
    where_true (λ ms. length ms ≡ length (leaves (layout_of i))) (length (port_modes views mode i) == size_of_object i) (Ok (port_modes views mode i)) senseless
    (λ e. equal_lengths (length (port_modes views mode i)) (size_of_object i) e) tt

abbrev ArePorts : Counted (List Port) → Type 0
ArePorts c = AllByRecursion IsPort c.it

module _ (views : List View) (inner : Scope) (f : Env) where
  port_keeps : (p : Ports) (d : ℕ) (name : List ℕ) (m : Made) → IfOk (some_port views inner f p d name m) (λ c. IsPort c.it)
  port_keeps p d name m =
      evaluated_any (λ c. IsPort c.it) inner (port_indicated views p f) _ (λ i.
      after_any (λ c. IsPort c.it) (counted (size_of_object i) m) _ (λ counting.
      after_any (λ c. IsPort c.it) (default_value inner f p.objects.default i) _ (λ v.
      evaluated_keeps (λ w. Begins i w × (w ≡ v)) (λ c. IsPort c.it) inner (first_of_object i v) _ (first_begins i v) (λ w b.
      evaluated_keeps (λ ms. length ms ≡ length (leaves (layout_of i))) (λ c. IsPort c.it) inner (modes_of_port views p.mode i) _ (modes_keep views p.mode i) (λ modes e.
      record { begins = b.0; modes = e })))))

  named_ports : (p : Ports) (ds : List ℕ) (names : List (List ℕ)) (m : Made) → IfOk (ports_named views inner f p ds names m) ArePorts
  named_ports p [] names m = tt
  named_ports p (d ∷ ds) [] m = tt
  named_ports p (d ∷ ds) (name ∷ names) m =
      after (λ c. IsPort c.it) ArePorts (some_port views inner f p d name m) _ (port_keeps p d name m) (λ x h.
      after ArePorts ArePorts (ports_named views inner f p ds names (record m { counted = x.next })) _ (named_ports p ds names (record m { counted = x.next })) (λ xs k. (h, k)))

  pub ports_keep : (ps : List Ports) (m : Made) → IfOk (ports_of views inner f ps m) ArePorts
  ports_keep [] m = tt
  ports_keep (p ∷ ps) m =
      after ArePorts ArePorts (ports_named views inner f p p.objects.numbers p.names m) _ (named_ports p p.objects.numbers p.names m) (λ x h.
      after ArePorts ArePorts (ports_of views inner f ps (record m { counted = x.next })) _ (ports_keep ps (record m { counted = x.next })) (λ xs k. joined IsPort x.it xs.it h k))

-- ---- what ports begin with

open_all : (n : ℕ) (ls : List Leaf) (ms : List Mode) (xs : List Scalar) → Begin ls xs → length ms ≡ length ls → AllStart n ls (open_starts ms xs)
open_all n [] [] [] h e = tt
open_all n (leaf ∷ rest) (m ∷ ms) (x ∷ xs) h e = (record { begins = h.0; older = tt }, open_all n rest ms xs h.1 (omega arith))
open_all n [] (m ∷ ms) xs h e = absurd (omega arith)
open_all n (leaf ∷ rest) [] xs h e = absurd (omega arith)
open_all n [] [] (x ∷ xs) h e = absurd h
open_all n (leaf ∷ rest) (m ∷ ms) [] h e = absurd h

-- the types of some leaves
abbrev pub HaveTypes : List Leaf → List ScalarSignal → Type 0
HaveTypes [] [] = Unit {0}
HaveTypes (leaf ∷ rest) (n ∷ ns) = (n.of_type ≡ leaf.of_type) × HaveTypes rest ns
HaveTypes _ _ = ⊥

pub and_first : (b c : Bool) → (b && c) ≡ true → b ≡ true
and_first true c e = refl
and_first false c e = absurd (cc)

pub and_second : (b c : Bool) → (b && c) ≡ true → c ≡ true
and_second true c e = e
and_second false c e = absurd (cc)

pub have_types : (ls : List Leaf) (ns : List ScalarSignal) → have_one_type ls ns ≡ true → HaveTypes ls ns
have_types [] [] e = tt
have_types (leaf ∷ rest) (n ∷ ns) e =
    (sym (one_type leaf.of_type n.of_type (and_first (same_scalar_type leaf.of_type n.of_type) (have_one_type rest ns) e)), have_types rest ns (and_second (same_scalar_type leaf.of_type n.of_type) (have_one_type rest ns) e))
have_types [] (n ∷ ns) e = absurd (cc)
have_types (leaf ∷ rest) [] e = absurd (cc)

-- scalar signals of a design
abbrev pub AreAmong : List ScalarObject → List ScalarSignal → Type 0
AreAmong signals ns = AllByRecursion (λ n. is_among signals n ≡ true) ns

module _ (m : Made) where
  tied_one : (mode : Mode) (leaf : Leaf) (x : Scalar) (n : ScalarSignal) → Rattle.vd_consistency.proofs.Objects.BeginsOne leaf x → is_among m.signals n ≡ true → Starts (length m.signals) leaf (tied_start m mode x n)
  tied_one Input leaf x n b h = record { begins = b; older = is_number m.signals n.number n.of_type h }
  tied_one Output leaf x n b h = record { begins = b; older = tt }
  tied_one BothWays leaf x n b h = record { begins = b; older = is_number m.signals n.number n.of_type h }

  tied_all : (ls : List Leaf) (ms : List Mode) (xs : List Scalar) (ns : List ScalarSignal) → Begin ls xs → length ms ≡ length ls → HaveTypes ls ns → AreAmong m.signals ns
      → AllStart (length m.signals) ls (tied_starts m ms xs ns)
  tied_all [] [] [] [] b e t h = tt
  tied_all (leaf ∷ rest) (mode ∷ ms) (x ∷ xs) (n ∷ ns) b e t h = (tied_one mode leaf x n b.0 h.0, tied_all rest ms xs ns b.1 (omega arith) t.1 h.1)
  tied_all [] [] [] (n ∷ ns) b e t h = absurd t
  tied_all [] [] (x ∷ xs) ns b e t h = absurd b
  tied_all [] (mode ∷ ms) xs ns b e t h = absurd (omega arith)
  tied_all (leaf ∷ rest) [] xs ns b e t h = absurd (omega arith)
  tied_all (leaf ∷ rest) (mode ∷ ms) [] ns b e t h = absurd b
  tied_all (leaf ∷ rest) (mode ∷ ms) (x ∷ xs) [] b e t h = absurd t

  -- ---- sources

  module _ (more : List ScalarObject) where
    tied_to : (k : ℕ) (leaf : Leaf) (n : ScalarSignal) → length m.signals ≤ k → is_such (slice_get (m.signals ++ more) k) leaf.of_type ≡ true → n.of_type ≡ leaf.of_type → is_among m.signals n ≡ true
        → IsTied (m.signals ++ more) (record { port = k; of = n.number })
    tied_to k leaf n i a t h =
        let older : n.number < length m.signals = is_number m.signals n.number n.of_type h in
        record {
          newer = omega arith;
          there = is_number (m.signals ++ more) k leaf.of_type a;
          one_type = λ x y e f.
              let p : x.of_type ≡ leaf.of_type = is_its_type (m.signals ++ more) k leaf.of_type x a e in
              let q : y.of_type ≡ n.of_type = is_its_type (m.signals ++ more) n.number n.of_type y (longer m.signals more n.number n.of_type h) f in
              let r : x.of_type ≡ y.of_type = cc in
              subst (λ u. same_scalar_type x.of_type u ≡ true) r (Rattle.vd_consistency.proofs.Objects.type_itself x.of_type);
        }

    sources_tied : (k : ℕ) (ls : List Leaf) (ms : List Mode) (ns : List ScalarSignal) → length m.signals ≤ k → AreAt (m.signals ++ more) k ls → HaveTypes ls ns → AreAmong m.signals ns
        → AllByRecursion (IsTied (m.signals ++ more)) (port_sources k ms ns)
    sources_tied k (leaf ∷ rest) (Input ∷ ms) (n ∷ ns) i a t h = sources_tied (suc k) rest ms ns (omega arith) a.1 t.1 h.1
    sources_tied k (leaf ∷ rest) (Output ∷ ms) (n ∷ ns) i a t h = (tied_to k leaf n i a.0 t.0 h.0, sources_tied (suc k) rest ms ns (omega arith) a.1 t.1 h.1)
    sources_tied k (leaf ∷ rest) (BothWays ∷ ms) (n ∷ ns) i a t h = (tied_to k leaf n i a.0 t.0 h.0, sources_tied (suc k) rest ms ns (omega arith) a.1 t.1 h.1)
    sources_tied k ls [] ns i a t h = tt
    sources_tied k ls (Input ∷ ms) [] i a t h = tt
    sources_tied k ls (Output ∷ ms) [] i a t h = tt
    sources_tied k ls (BothWays ∷ ms) [] i a t h = tt
    sources_tied k [] (Input ∷ ms) (n ∷ ns) i a t h = absurd t
    sources_tied k [] (Output ∷ ms) (n ∷ ns) i a t h = absurd t
    sources_tied k [] (BothWays ∷ ms) (n ∷ ns) i a t h = absurd t

-- ---- ports that are associated

pub open_port_keeps : (inner : Scope) (p : Port) (xs : List Scalar) → IsPort p → Begin (leaves (layout_of p.indicated)) xs → (s : State) → IsState s → IsGrown s.made (open_port inner p xs s)
open_port_keeps inner p xs k b s h =
    object_keeps inner p.name p.indicated (open_starts p.modes xs) s h (open_all (length s.made.signals) (leaves (layout_of p.indicated)) p.modes xs b k.modes) p.number

more_sources : (signals : List ScalarObject) (old new : List PortSource) (driven : List ℕ) (processes : List Rattle.vd_meaning.specs.Building.Placed) → AreSound signals old driven processes
    → AllByRecursion (IsTied signals) new → AreSound signals (old ++ new) driven processes
more_sources signals old new driven processes h k =
    record { of_driven = h.of_driven; of_sources = joined (IsTied signals) old new h.of_sources k; of_actuals = h.of_actuals; of_signals = h.of_signals; of_drivers = h.of_drivers; of_processes = h.of_processes }

pub tied_port_keeps : (inner : Scope) (p : Port) (ns : List ScalarSignal) → IsPort p → (s : State) → IsState s → HaveTypes (leaves (layout_of p.indicated)) ns → AreAmong s.made.signals ns
    → IsGrown s.made (tied_port inner p ns s)
tied_port_keeps inner p ns k s h t a =
    let starts = tied_starts s.made p.modes p.initial ns in
    let b : AllStart (length s.made.signals) (leaves (layout_of p.indicated)) starts = tied_all s.made (leaves (layout_of p.indicated)) p.modes p.initial ns k.begins k.modes t a in
    let o = object_keeps inner p.name p.indicated starts s h b p.number in
    record {
      state = record {
        has = o.state.has;
        sound = more_sources _ s.made.sources (port_sources (length s.made.signals) p.modes ns) s.made.driven s.made.processes o.state.sound
            (sources_tied s.made (new_ones inner p.name p.indicated starts s h b) (length s.made.signals) (leaves (layout_of p.indicated)) p.modes ns (omega arith) (new_at inner p.name p.indicated starts s h b) t a);
      };
      grows = o.grows;
    }
