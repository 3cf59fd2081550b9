-- Instances in a design that is sound: associations, implicit signals, the hierarchy.
use Rattle.std.proofs.Common.{◌≡◌, ℕ, suc, ◌+◌, Bool, true, false, List, [], ◌∷◌, ◌++◌, length, Option, Some, None, map, refl, subst}
use Rattle.std.specs.Prelude.{◌==◌, ◌&&◌, Ok, Err, IfOk, IfSome, if◌then◌else◌}
use Rattle.std.specs.List.{AllByRecursion, list_all}
use Rattle.vd_values.specs.declared.scalar.Scalar.{Scalar}
use Rattle.vd_trees.specs.declared.paths.Scope.{Scope}
use Rattle.vd_kernel.specs.declared.assignments.Delay.TheVariants.{Inertial}
use Rattle.vd_composites.specs.Stops.{◌>>=◌}
use Rattle.vd_composites.specs.Composites.{Value, One, Array, Fields, Items, none, item, bounds_of, leaves, all_leaves}
use Rattle.vd_composites.specs.Subtypes.{Subtype, fit, default_of}
use Rattle.vd_environments.specs.Got.{Got, got, senseless}
use Rattle.vd_environments.specs.Environments.{ScalarSignal, Signals, Env, Indicated}
use Rattle.vd_meaning.specs.Facets.{Meaning, at_once}
use Rattle.vd_meaning.specs.Layouts.{Leaf, numbered, all_numbered}
use Rattle.vd_meaning.specs.Building.{Made, Built, evaluated, looking, inside_instance, counted, layout_of, size_of_object, first_of_object, is_among, plain_start, is_out_at, signals_of, State}
use Rattle.vd_meaning.specs.NodeFacets.{View, Ports, Actual, Instance}
use Rattle.vd_meaning.specs.Instances.{Port, scalar_limits, same_length, have_one_type, as_long, ties, is_signal, is_implicit, implicit_name, target_named, implicit_process, added, with_implicit}
use Rattle.vd_meaning.specs.Hierarchies.{EntityText, port_actual, implicit_subtype, if_implicit, for_names, for_implicit, count_implicit, make_implicit, implicit_scalars, port_scalars, Associating, with_signal_actual, with_value_actual, with_implicit_actual, associated, all_associated}
use Rattle.vd_consistency.specs.Invariants.{AreOf, HasSignals, KeepsMeaning, IsState, IsGrown, Builds, KeepsInstance}
use Rattle.vd_consistency.proofs.Steps.{after, after_any, either}
use Rattle.vd_consistency.proofs.Parting.{leaves_of}
use Rattle.vd_consistency.proofs.Doing.{driving_keeps}
use Rattle.vd_consistency.proofs.Running.{has_more}
use Rattle.vd_consistency.proofs.Objects.{Begins, first_begins, plain_starts, where_true, new_signals_of, added_keeps, evaluated_keeps, evaluated_any, itself, further, builds_then, process_keeps}
use Rattle.vd_consistency.proofs.Associating.{IfKeeps, actual_keeps, IsPort, HaveTypes, have_types, AreAmong, and_first, and_second, open_port_keeps, tied_port_keeps}

-- ---- the signals of an actual

abbrev IsActual : Made → Port → Signals → Type 0
IsActual m p v = HaveTypes (leaves (layout_of p.indicated)) (leaves v) × AreAmong m.signals (leaves v)

as_long_types : (p : Port) (v : Signals) → IfOk (as_long p v) (λ x. HaveTypes (leaves (layout_of p.indicated)) (leaves v))
as_long_types p v =
    after_any (λ x. HaveTypes (leaves (layout_of p.indicated)) (leaves v)) (same_length (bounds_of (layout_of p.indicated)) (bounds_of v)) _ (λ y.
    where_true (λ x. HaveTypes (leaves (layout_of p.indicated)) (leaves v)) (have_one_type (leaves (layout_of p.indicated)) (leaves v)) (Ok tt) senseless
    (λ e. have_types (leaves (layout_of p.indicated)) (leaves v) e) tt)

ties_types : (p : Port) (s : Got Subtype) (v : Signals) → IfOk (ties p s v) (λ x. HaveTypes (leaves (layout_of p.indicated)) (leaves v))
ties_types p s v = after_any (λ x. HaveTypes (leaves (layout_of p.indicated)) (leaves v)) (scalar_limits p.indicated.subtype s) _ (λ x. as_long_types p v)

signals_tied : (m : Made) (p : Port) (s : Got Subtype) (g : Got Signals) → IfOk g (AreOf (is_among m.signals)) → IfOk (g >>= λ signals. ties p s signals >>= λ x. Ok signals) (IsActual m p)
signals_tied m p s (Ok v) h =
    after (λ x. HaveTypes (leaves (layout_of p.indicated)) (leaves v)) (IsActual m p) (ties p s v) _ (ties_types p s v) (λ x t. (t, leaves_of (is_among m.signals) v h))
signals_tied m p s (Err e) h = tt

-- ---- the signals of implicit actuals

types_joined : (ls rest : List Leaf) (ns more : List ScalarSignal) → HaveTypes ls ns → HaveTypes rest more → HaveTypes (ls ++ rest) (ns ++ more)
types_joined [] rest [] more h k = k
types_joined (leaf ∷ ls) rest (n ∷ ns) more h k = (h.0, types_joined ls rest ns more h.1 k)
types_joined [] rest (n ∷ ns) more h k = absurd h
types_joined (leaf ∷ ls) rest [] more h k = absurd h

module _ (out : ℕ → Bool) where
  abbrev numbering : ℕ → Leaf → ScalarSignal
  numbering n leaf = record { number = n; of_type = leaf.of_type; is_out = out n }

  mutual
    numbered_types : (v : Value Leaf) (k : ℕ) → HaveTypes (leaves v) (leaves (numbered numbering k v).it)
    numbered_types (One leaf) k = (refl, tt)
    numbered_types (Array b vs) k = all_numbered_types vs k
    numbered_types (Fields vs) k = all_numbered_types vs k

    all_numbered_types : (vs : Items Leaf) (k : ℕ) → HaveTypes (all_leaves vs) (all_leaves (all_numbered numbering k vs).it)
    all_numbered_types none k = tt
    all_numbered_types (item v vs) k =
        types_joined (leaves v) (all_leaves vs) _ _ (numbered_types v k) (all_numbered_types vs (numbered numbering k v).next)

renumbered_types : (ls : List Leaf) (n : ℕ) (xs : List ScalarSignal) → HaveTypes ls xs → HaveTypes ls (implicit_scalars n xs)
renumbered_types [] n [] h = tt
renumbered_types (leaf ∷ rest) n (x ∷ xs) h = (h.0, renumbered_types rest (suc n) xs h.1)
renumbered_types [] n (x ∷ xs) h = absurd h
renumbered_types (leaf ∷ rest) n [] h = absurd h

all_among : (P : ScalarSignal → Bool) (ns : List ScalarSignal) → list_all P ns ≡ true → AllByRecursion (λ n. P n ≡ true) ns
all_among P [] e = tt
all_among P (n ∷ ns) e = (and_first (P n) (list_all P ns) e, all_among P ns (and_second (P n) (list_all P ns) e))

-- ---- associations

pub record IsAssociating (m : Made) (x : Associating) : Type 0 where
  pub grown : IsGrown m x.state

module _ (outer inner : Scope) where
  implicit_keeps : (p : Port) → IsPort p → (x : Associating) → IsState x.state → IfOk (with_implicit_actual outer inner p x) (IsAssociating x.state.made)
  implicit_keeps p k x h =
      let ns = implicit_scalars x.next (port_scalars p x.state.made) in
      where_true (IsAssociating x.state.made) (list_all (is_among x.state.made.signals) (implicit_scalars x.next (port_scalars p x.state.made))) _ _ (λ e.
      record {
        grown = tied_port_keeps inner p (implicit_scalars x.next (port_scalars p x.state.made)) k x.state h
            (renumbered_types (leaves (layout_of p.indicated)) x.next (port_scalars p x.state.made)
            (numbered_types (is_out_at (map plain_start p.initial) (length x.state.made.signals)) (layout_of p.indicated) (length x.state.made.signals)))
            (all_among (is_among x.state.made.signals) (implicit_scalars x.next (port_scalars p x.state.made)) e);
      }) tt

  signal_keeps : (e : Env) (p : Port) → IsPort p → (a : Actual) → KeepsMeaning a.meaning → (s : State) → IsState s → HasSignals (is_among s.made.signals) e → Builds s.made (with_signal_actual outer inner e p a s)
  signal_keeps e p k a j s h i =
      evaluated_keeps (IsActual s.made p) (IsGrown s.made) outer (a.meaning.name.signals e >>= λ signals. ties p (a.meaning.name.subtype e) signals >>= λ x. Ok signals) _
      (signals_tied s.made p (a.meaning.name.subtype e) (a.meaning.name.signals e) (j.of_name.signals (is_among s.made.signals) e i))
      (λ v t. tied_port_keeps inner p (leaves v) k s h t.0 t.1)

  begins_after : (p : Port) (g : Got (Value Scalar)) → IfOk (g >>= first_of_object p.indicated) (λ v. Begins p.indicated v)
  begins_after p (Ok v) =
      first_only p.indicated v (first_of_object p.indicated v) (first_begins p.indicated v) where
        first_only : (i : Indicated) (v : Value Scalar) (g : Got (Value Scalar)) → IfOk g (λ w. Begins i w × (w ≡ v)) → IfOk g (λ w. Begins i w)
        first_only i v (Ok w) h = h.0
        first_only i v (Err s) h = tt
  begins_after p (Err s) = tt

  value_keeps : (e : Env) (p : Port) → IsPort p → (a : Actual) → (s : State) → IsState s → Builds s.made (with_value_actual outer inner e p a s)
  value_keeps e p k a s h =
      evaluated_keeps (λ v. Begins p.indicated v) (IsGrown s.made) outer (a.meaning.value (Ok p.indicated.subtype) e >>= λ v. got (fit p.indicated.subtype v) >>= first_of_object p.indicated) _
      (after_any (λ v. Begins p.indicated v) (a.meaning.value (Ok p.indicated.subtype) e) _ (λ v. begins_after p (got (fit p.indicated.subtype v))))
      (λ v b. open_port_keeps inner p (leaves v) k b s h)

  associating : (x : Associating) (g : Built State) → Builds x.state.made g → IfOk (g >>= λ s. Ok (record x { state = s })) (IsAssociating x.state.made)
  associating x (Ok s) h = record { grown = h }
  associating x (Err e) h = tt

  associated_keeps : (e : Env) (p : Port) → IsPort p → (a : Option Actual) → IfKeeps a → (x : Associating) → IsState x.state → HasSignals (is_among x.state.made.signals) e
      → IfOk (associated outer inner e p a x) (IsAssociating x.state.made)
  associated_keeps e p k None j x h i = record { grown = open_port_keeps inner p p.initial k k.begins x.state h }
  associated_keeps e p k (Some a) j x h i =
      either (IsAssociating x.state.made) (is_signal e a) _ _ (associating x (with_signal_actual outer inner e p a x.state) (signal_keeps e p k a j x.state h i))
      (either (IsAssociating x.state.made) (is_implicit e (Some a)) _ _ (implicit_keeps p k x h) (associating x (with_value_actual outer inner e p a x.state) (value_keeps e p k a x.state h)))

  then_associating : (m : Made) (x : Associating) → IsAssociating m x → (g : Built Associating) → IfOk g (IsAssociating x.state.made) → IfOk g (IsAssociating m)
  then_associating m x h (Ok y) k = record { grown = further m x.state h.grown (Ok y.state) k.grown }
  then_associating m x h (Err e) k = tt

  pub all_keep : (e : Env) (x : Instance) → KeepsInstance x → (k : ℕ) (ps : List Port) → AllByRecursion IsPort ps → (s : Associating) → IsState s.state → HasSignals (is_among s.state.made.signals) e
      → IfOk (all_associated outer inner e x k ps s) (IsAssociating s.state.made)
  all_keep e x j k [] ports s h i = record { grown = itself s.state h }
  all_keep e x j k (p ∷ ps) ports s h i =
      after (IsAssociating s.state.made) (IsAssociating s.state.made) (associated outer inner (looking s.state.made e) p (port_actual x k p.number) s) _
      (associated_keeps (looking s.state.made e) p ports.0 (port_actual x k p.number) (actual_keeps k p.number x.ports j.ports) s h (record { denoted = i.denoted })) (λ t g.
      then_associating s.state.made t g (all_associated outer inner e x (suc k) ps t)
      (all_keep e x j (suc k) ps ports.1 t g.grown.state (has_more (is_among s.state.made.signals) (is_among t.state.made.signals) e g.grown.grows i)))

-- ---- what is done for each implicit signal of an instance

if_state : (m : Made) (b : Bool) (x y : Built State) → Builds m x → Builds m y → Builds m (if b then x else y)
if_state m true x y h k = h
if_state m false x y h k = k

module _ (go : Ports → List ℕ → Actual → State → Built State)
    (steps : (p : Ports) (name : List ℕ) (a : Actual) → KeepsMeaning a.meaning → (s : State) → IsState s → Builds s.made (go p name a s)) (x : Instance) (j : KeepsInstance x) where
  one_implicit : (p : Ports) (name : List ℕ) (a : Option Actual) → IfKeeps a → (s : State) → IsState s → Builds s.made (if_implicit go p name a s)
  one_implicit p name None k s h = itself s h
  one_implicit p name (Some a) k s h = if_state s.made (is_implicit s.env (Some a)) (go p name a s) (Ok s) (steps p name a k s h) (itself s h)

  names_keep : (p : Ports) (k : ℕ) (ds : List ℕ) (names : List (List ℕ)) (s : State) → IsState s → Builds s.made (for_names go x p k ds names s)
  names_keep p k [] names s h = itself s h
  names_keep p k (d ∷ ds) [] s h = itself s h
  names_keep p k (d ∷ ds) (name ∷ names) s h =
      builds_then s.made (if_implicit go p name (port_actual x k d) s) _ (one_implicit p name (port_actual x k d) (actual_keeps k d x.ports j.ports) s h) (names_keep p (suc k) ds names)

  pub all_implicit : (k : ℕ) (ps : List Ports) (s : State) → IsState s → Builds s.made (for_implicit go x k ps s)
  all_implicit k [] s h = itself s h
  all_implicit k (p ∷ ps) s h =
      builds_then s.made (for_names go x p k p.objects.numbers p.names s) _ (names_keep p k p.objects.numbers p.names s h) (all_implicit (k + length p.objects.numbers) ps)

-- a design with another count
recounted : (s : State) → IsState s → (n : ℕ) → IsGrown s.made (record s { made = record s.made { counted = n } })
recounted s h n = record { state = record { has = h.has; sound = h.sound }; grows = λ x k. k }

pub counted_keeps : (n : ℕ) (m : Made) (S : State → Type 0) (f : Made → Built State) → ((k : ℕ) → IfOk (f (record m { counted = k })) S) → IfOk (counted n m >>= f) S
counted_keeps n m S f k = within (Rattle.std.specs.Prelude.nat_lt 1000000 (m.counted + n)) where
  within : (b : Bool) → IfOk ((if b then Err (Rattle.vd_meaning.specs.Building.Limited Rattle.vd_bytes.specs.declared.answers.Limit.TheVariants.Signals) else Ok (record m { counted = m.counted + n })) >>= f) S
  within true = tt
  within false = k (m.counted + n)

-- their processes drive them alone
pub with_implicit_keeps : (scope : Scope) (name : List ℕ) (i : Indicated) (m : Meaning) → KeepsMeaning m → Begins i (default_of i.subtype) → (s : State) → IsState s → Builds s.made (with_implicit scope name i m s)
with_implicit_keeps scope name i m k' b s h =
    let starts = map plain_start (leaves (default_of i.subtype)) in
    let k = plain_starts (length s.made.signals) (leaves (layout_of i)) (leaves (default_of i.subtype)) b in
    let g = added_keeps scope name i starts s h k in
    further s.made (added scope name i starts s) g (with_implicit scope name i m s)
    (process_keeps scope (implicit_process i (signals_of i s.made starts) m) (added scope name i starts s) g.state
    (record {
      declarations = tt;
      settling = λ drivers e j. j;
      statements = driving_keeps (target_named i (signals_of i s.made starts)) Inertial (at_once m.value);
      sensitivity = λ e j. k'.of_reads (is_among (added scope name i starts s).made.signals) e j;
      targets = λ e j. (new_signals_of scope name i starts s h k, tt);
    }))

module _ (views : List View) (scope : Scope) (entity : EntityText) (x : Instance) where
  pub count_keeps : (p : Ports) (name : List ℕ) (a : Actual) → KeepsMeaning a.meaning → (s : State) → IsState s → Builds s.made (count_implicit views scope entity x p name a s)
  count_keeps p name a j s h =
      evaluated_any (IsGrown s.made) scope (implicit_subtype views entity x p s.env) _ (λ i.
      counted_keeps (size_of_object i) s.made (IsGrown s.made) _ (λ k. recounted s h k))

  pub make_keeps : (p : Ports) (name : List ℕ) (a : Actual) → KeepsMeaning a.meaning → (s : State) → IsState s → Builds s.made (make_implicit views scope entity x p name a s)
  make_keeps p name a j s h =
      evaluated_any (IsGrown s.made) scope (implicit_subtype views entity x p s.env) _ (λ i.
      evaluated_keeps (λ v. Begins i (default_of i.subtype)) (IsGrown s.made) scope (first_of_object i (default_of i.subtype)) _ (default_begins i) (λ v b.
      with_implicit_keeps scope (implicit_name x.label name) i a.meaning j b s h)) where
        default_begins : (i : Indicated) → IfOk (first_of_object i (default_of i.subtype)) (λ v. Begins i (default_of i.subtype))
        default_begins i = whole (first_of_object i (default_of i.subtype)) (first_begins i (default_of i.subtype)) where
          whole : (g : Got (Value Scalar)) → IfOk g (λ w. Begins i w × (w ≡ default_of i.subtype)) → IfOk g (λ v. Begins i (default_of i.subtype))
          whole (Ok w) k = subst (λ v. Begins i v) k.1 k.0
          whole (Err e) k = tt
