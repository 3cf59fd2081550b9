-- A node of any kind keeps a design sound, where its parts do: a case for each kind; and so do trees.
use Rattle.std.proofs.Common.{◌≡◌, ℕ, zero, suc, Bool, true, false, List, [], ◌∷◌, None, map, refl}
use Rattle.std.specs.Prelude.{Ok, Err, IfOk, if◌then◌else◌}
use Rattle.std.specs.List.{AllByRecursion}
use Rattle.vd_values.specs.declared.scalar.Scalar.{Scalar}
use Rattle.vd_bytes.specs.declared.places.Place.{Place}
use Rattle.vd_trees.specs.declared.paths.Scope.{Scope}
use Rattle.vd_trees.specs.declared.paths.Label.{Label}
use Rattle.vd_forest.specs.Forest.{Forest, nothing, more}
use Rattle.vd_resolved.specs.declared.node.Resolved.{Resolved}
use Rattle.vd_composites.specs.Stops.{◌>>=◌}
use Rattle.vd_composites.specs.Composites.{Value, leaves}
use Rattle.vd_environments.specs.Got.{Got}
use Rattle.vd_environments.specs.Environments.{Env, Indicated, literals_of}
use Rattle.vd_environments.specs.Commands.{run}
use Rattle.vd_environments.specs.Processes.{declared_end}
use Rattle.vd_meaning.specs.Tables.{Table}
use Rattle.vd_meaning.specs.Names.{number_or}
use Rattle.vd_meaning.specs.Facets.{Meaning, no_meaning, ByEquality, value_of}
use Rattle.vd_meaning.specs.Statements.{truth_of, values_of_range}
use Rattle.vd_meaning.specs.Declarations.{initial_value}
use Rattle.vd_meaning.specs.Meanings.{node_meaning, made}
use Rattle.vd_meaning.specs.Kinds
use Rattle.vd_meaning.specs.Building.{Made, Built, inside_generate, layout_of, size_of_object, first_of_object, is_among, State, plain_start, with_signal}
use Rattle.vd_meaning.specs.NodeFacets.{Actual, Elaborating, nothing_to_do, one_after_other, Unit', Part, of_meaning, nth, from, last_of, gathered}
use Rattle.vd_meaning.specs.Hierarchies.{label_of}
use Rattle.vd_meaning.specs.Parts
use Rattle.vd_consistency.specs.Invariants.{IsEnv, KeepsMeaning, IsState, IsGrown, Builds, KeepsInstance, KeepsElaborating, KeepsUnit, KeepsPartFacets, KeepsPart}
use Rattle.vd_consistency.proofs.Steps.{joined}
use Rattle.vd_consistency.proofs.Running.{denoting_keeps, run_keeps}
use Rattle.vd_consistency.proofs.Naming.{none_keeps}
use Rattle.vd_consistency.proofs.Cases.{kind_keeps}
use Rattle.vd_consistency.proofs.Turning.{declared_end_keeps}
use Rattle.vd_consistency.proofs.Objects.{Begins, first_begins, plain_starts, object_keeps, evaluated_keeps, evaluated_any, itself, builds_then, processes_keep}
use Rattle.vd_consistency.proofs.Elaborating.{counted_keeps}
use Rattle.vd_consistency.proofs.Nesting.{left_keeps}

abbrev pub PartsKeep : List Part → Type 0
PartsKeep ps = AllByRecursion KeepsPart ps

nothing_keeps : KeepsElaborating nothing_to_do
nothing_keeps h hs scope s i = itself s i

pub meaning_keeps : (m : Meaning) → KeepsMeaning m → KeepsPart (of_meaning m)
meaning_keeps m k =
    record {
      of_meaning = k;
      of_actuals = tt;
      of_declaring = nothing_keeps;
      of_region = nothing_keeps;
      of_ahead = λ label. nothing_keeps;
      of_elaborating = λ label. nothing_keeps;
      of_otherwise = λ label f h. h;
      of_cases = λ label selector. nothing_keeps;
      of_units = tt;
    }

pub nth_keeps : (k : ℕ) (ps : List Part) → PartsKeep ps → KeepsPart (nth k ps)
nth_keeps k [] h = meaning_keeps no_meaning none_keeps
nth_keeps zero (p ∷ ps) h = h.0
nth_keeps (suc k) (p ∷ ps) h = nth_keeps k ps h.1

from_keeps : (k : ℕ) (ps : List Part) → PartsKeep ps → PartsKeep (from k ps)
from_keeps zero ps h = h
from_keeps (suc k) [] h = tt
from_keeps (suc k) (p ∷ ps) h = from_keeps k ps h.1

pub units_keep : (ps : List Part) → PartsKeep ps → AllByRecursion KeepsUnit (gathered (λ p. p.units) ps)
units_keep [] h = tt
units_keep (p ∷ ps) h = joined KeepsUnit p.units (gathered (λ p. p.units) ps) h.0.of_units (units_keep ps h.1)

-- what all nodes gather from their parts
gathering_keeps : (m : Meaning) → KeepsMeaning m → (ps : List Part) → PartsKeep ps → KeepsPart (Parts.gathering m ps)
gathering_keeps m k ps h =
    record {
      of_meaning = k;
      of_actuals = tt;
      of_declaring = nothing_keeps;
      of_region = nothing_keeps;
      of_ahead = λ label. nothing_keeps;
      of_elaborating = λ label. nothing_keeps;
      of_otherwise = λ label f h. h;
      of_cases = λ label selector. nothing_keeps;
      of_units = units_keep ps h;
    }

actuals_keep : (ps : List Part) → PartsKeep ps
    → AllByRecursion (λ (a : Actual). KeepsMeaning a.meaning) (map (λ p. record { formal = Parts.formal_in p.meaning.association p.formal; meaning = p.meaning }) ps)
actuals_keep [] h = tt
actuals_keep (p ∷ ps) h = (h.0.of_meaning, actuals_keep ps h.1)

-- ---- what is done one after the other

all_keep : (fs : List Elaborating) → AllByRecursion KeepsElaborating fs → KeepsElaborating (one_after_other fs)
all_keep [] k h hs scope s i = itself s i
all_keep (f ∷ fs) k h hs scope s i = builds_then s.made (f h scope s) _ (k.0 h hs scope s i) (all_keep fs k.1 h hs scope)

each_keeps : (f : Part → Elaborating) → ((p : Part) → KeepsPart p → KeepsElaborating (f p)) → (ps : List Part) → PartsKeep ps → AllByRecursion KeepsElaborating (map f ps)
each_keeps f k [] h = tt
each_keeps f k (p ∷ ps) h = (k p h.0, each_keeps f k ps h.1)

region_keeps : (ps qs : List Part) → PartsKeep ps → PartsKeep qs → KeepsElaborating (Parts.region_of ps qs)
region_keeps ps qs j k h hs scope s i =
    builds_then s.made (one_after_other (map (λ p. p.declaring) ps) h scope s) _ (all_keep _ (each_keeps (λ p. p.declaring) (λ p x. x.of_declaring) ps j) h hs scope s i) (λ t b.
    builds_then t.made (one_after_other (map (λ p. p.ahead []) qs) h scope t) _ (all_keep _ (each_keeps (λ p. p.ahead []) (λ p x. x.of_ahead []) qs k) h hs scope t b)
    (all_keep _ (each_keeps (λ p. p.elaborating []) (λ p x. x.of_elaborating []) qs k) h hs scope))

-- ---- declarations

commanded_keeps : (m : Meaning) → KeepsMeaning m → KeepsElaborating (Parts.commanded m)
commanded_keeps m k h hs scope s i =
    evaluated_keeps (IsEnv (is_among s.made.signals) s.env.drivers) (IsGrown s.made) scope (declared_end (run (m.command None) s.env).end) _
    (declared_end_keeps (is_among s.made.signals) s.env.drivers (run (m.command None) s.env).end
    (run_keeps (is_among s.made.signals) s.env.drivers (m.command None) (k.of_command None (is_among s.made.signals)) s.env (record { has = i.has; drives = refl })).end)
    (λ e j. record { state = record { has = j.has; sound = i.sound }; grows = λ x y. y })

begins_first : (i : Indicated) (g : Got (Value Scalar)) → IfOk (g >>= first_of_object i) (λ v. Begins i v)
begins_first i (Ok v) = whole (first_of_object i v) (first_begins i v) where
  whole : (g : Got (Value Scalar)) → IfOk g (λ w. Begins i w × (w ≡ v)) → IfOk g (λ w. Begins i w)
  whole (Ok w) k = k.0
  whole (Err e) k = tt
begins_first i (Err s) = tt

signal_keeps : (scope : Scope) (d : ℕ) (name : List ℕ) (i : Indicated) (v : Value Scalar) → Begins i v → (s : State) → IsState s → IsGrown s.made (with_signal scope d name i v s)
signal_keeps scope d name i v b s h = object_keeps scope name i (map plain_start (leaves v)) s h (plain_starts _ (leaves (layout_of i)) (leaves v) b) d

new_signal_keeps : (subtype initial : Meaning) (d : ℕ) (name : List ℕ) → KeepsElaborating (Parts.new_signal subtype initial d name)
new_signal_keeps subtype initial d name h hs scope s i =
    evaluated_any (IsGrown s.made) scope (subtype.indicated s.env) _ (λ x.
    counted_keeps (size_of_object x) s.made (IsGrown s.made) _ (λ k.
    evaluated_keeps (λ v. Begins x v) (IsGrown s.made) scope (initial_value initial x s.env >>= first_of_object x) _ (begins_first x (initial_value initial x s.env)) (λ v b.
    let g = signal_keeps scope d name x v b (record s { made = record s.made { counted = k } }) (record { has = i.has; sound = i.sound }) in
    record { state = g.state; grows = g.grows })))

new_signals_keep : (subtype initial : Meaning) (ds : List ℕ) (names : List (List ℕ)) → KeepsElaborating (Parts.new_signals subtype initial ds names)
new_signals_keep subtype initial [] names h hs scope s i = itself s i
new_signals_keep subtype initial (d ∷ ds) [] h hs scope s i = itself s i
new_signals_keep subtype initial (d ∷ ds) (name ∷ names) h hs scope s i =
    builds_then s.made (Parts.new_signal subtype initial d name h scope s) _ (new_signal_keeps subtype initial d name h hs scope s i) (new_signals_keep subtype initial ds names h hs scope)

-- ---- generates

generated_keeps : (p : Part) → KeepsPart p → (label : Label) → KeepsElaborating (Parts.generated p label)
generated_keeps p k label h hs scope s i = left_keeps s i (p.region h (inside_generate label scope) s) (k.of_region h hs (inside_generate label scope) s i)

if_state : (m : Made) (b : Bool) (x y : Built State) → Builds m x → Builds m y → Builds m (if b then x else y)
if_state m true x y h k = h
if_state m false x y h k = k

holds_keeps : (test : Meaning) (f g : Elaborating) → KeepsElaborating f → KeepsElaborating g → KeepsElaborating (Parts.if_holds test f g)
holds_keeps test f g j k h hs scope s i = evaluated_any (IsGrown s.made) scope (truth_of test s.env) _ (λ b. if_state s.made b (f h scope s) (g h scope s) (j h hs scope s i) (k h hs scope s i))

where_keeps : (b : Bool) (f : Elaborating) → KeepsElaborating f → KeepsElaborating (if b then f else nothing_to_do)
where_keeps true f k = k
where_keeps false f k = nothing_keeps

otherwise_keeps : (ps : List Part) → PartsKeep ps → (label : List ℕ) (f : Elaborating) → KeepsElaborating f → KeepsElaborating (Parts.all_otherwise ps label f)
otherwise_keeps [] h label f k = k
otherwise_keeps (p ∷ ps) h label f k = h.0.of_otherwise label (Parts.all_otherwise ps label f) (otherwise_keeps ps h.1 label f k)

covering_keeps : (ps : List Part) → PartsKeep ps → (label : List ℕ) (selector : Env → Got (Value Scalar)) → KeepsElaborating (Parts.first_covering ps label selector)
covering_keeps [] k label selector h hs scope s i = evaluated_any (IsGrown s.made) scope (selector s.env) _ (λ v. itself s i)
covering_keeps (p ∷ ps) k label selector h hs scope s i =
    evaluated_any (IsGrown s.made) scope (selector s.env >>= λ v. p.meaning.covers ByEquality v s.env) _ (λ b.
    if_state s.made b (Parts.generated p (label_of label) h scope s) (Parts.first_covering ps label selector h scope s)
    (generated_keeps p k.0 (label_of label) h hs scope s i) (covering_keeps ps k.1 label selector h hs scope s i))

parameter_state : (d : ℕ) (i : Indicated) (v : Value Scalar) (s : State) → IsState s → IsState (Parts.with_parameter d i v s)
parameter_state d i v s h = record { has = denoting_keeps (is_among s.made.signals) d _ s.env tt h.has; sound = h.sound }

values_keep : (body : Part) → KeepsPart body → (name : List ℕ) (d : ℕ) (i : Indicated) (vs : List (Value Scalar)) → KeepsElaborating (Parts.for_values body name d i vs)
values_keep body k name d i [] h hs scope s j = itself s j
values_keep body k name d i (v ∷ vs) h hs scope s j =
    evaluated_any (IsGrown s.made) scope (Parts.index_label name (literals_of i.make) v) _ (λ label.
    builds_then s.made (Parts.generated body label h scope (Parts.with_parameter d i v s)) _
    (generated_keeps body k label h hs scope (Parts.with_parameter d i v s) (parameter_state d i v s j)) (values_keep body k name d i vs h hs scope))

for_keeps : (body : Part) → KeepsPart body → (range : Meaning) (name : List ℕ) (d : ℕ) → KeepsElaborating (Parts.for_generate body range name d)
for_keeps body k range name d h hs scope s j =
    evaluated_any (IsGrown s.made) scope (values_of_range range s.env) _ (λ vs.
    evaluated_any (IsGrown s.made) scope (Parts.parameter_type range.mark s.env) _ (λ i.
    left_keeps s j (Parts.for_values body name d i vs h scope s) (values_keep body k name d i vs h hs scope s j)))

-- ---- instances

instance_of_parts : (label : List ℕ) (ps : List Part) → PartsKeep ps → KeepsInstance (Parts.instance_with label ps)
instance_of_parts label ps h = record { ports = (nth_keeps 3 ps h).of_actuals }

-- ---- a case for each kind

module _ (m : Meaning) (k : KeepsMeaning m) (ps : List Part) (h : PartsKeep ps) where
  abbrev Facets : List Actual → Elaborating → Elaborating → (List ℕ → Elaborating) → (List ℕ → Elaborating) → Type 0
  Facets actuals declaring region ahead elaborating =
      KeepsPartFacets m actuals declaring region ahead elaborating (λ _ f. f) (λ _ _. nothing_to_do) (gathered (λ p. p.units) ps)

  declares : (f : Elaborating) → KeepsElaborating f → Facets [] f nothing_to_do (λ _. nothing_to_do) (λ _. nothing_to_do)
  declares f j = record { of_meaning = k; of_actuals = tt; of_declaring = j; of_region = nothing_keeps; of_ahead = λ label. nothing_keeps; of_elaborating = λ label. nothing_keeps; of_otherwise = λ label f i. i; of_cases = λ label selector. nothing_keeps; of_units = units_keep ps h }

  regions : (f : Elaborating) → KeepsElaborating f → Facets [] nothing_to_do f (λ _. nothing_to_do) (λ _. nothing_to_do)
  regions f j = record { of_meaning = k; of_actuals = tt; of_declaring = nothing_keeps; of_region = j; of_ahead = λ label. nothing_keeps; of_elaborating = λ label. nothing_keeps; of_otherwise = λ label f i. i; of_cases = λ label selector. nothing_keeps; of_units = units_keep ps h }

  states : (f g : List ℕ → Elaborating) → ((label : List ℕ) → KeepsElaborating (f label)) → ((label : List ℕ) → KeepsElaborating (g label)) → Facets [] nothing_to_do nothing_to_do f g
  states f g i j = record { of_meaning = k; of_actuals = tt; of_declaring = nothing_keeps; of_region = nothing_keeps; of_ahead = i; of_elaborating = j; of_otherwise = λ label f i. i; of_cases = λ label selector. nothing_keeps; of_units = units_keep ps h }

  alternates : (f : List ℕ → Elaborating → Elaborating) (g : List ℕ → (Env → Got (Value Scalar)) → Elaborating)
      → ((label : List ℕ) (e : Elaborating) → KeepsElaborating e → KeepsElaborating (f label e)) → ((label : List ℕ) (selector : Env → Got (Value Scalar)) → KeepsElaborating (g label selector))
      → KeepsPartFacets m [] nothing_to_do nothing_to_do (λ _. nothing_to_do) (λ _. nothing_to_do) f g (gathered (λ p. p.units) ps)
  alternates f g i j = record { of_meaning = k; of_actuals = tt; of_declaring = nothing_keeps; of_region = nothing_keeps; of_ahead = λ label. nothing_keeps; of_elaborating = λ label. nothing_keeps; of_otherwise = i; of_cases = j; of_units = units_keep ps h }

  units : (us : List Unit') → AllByRecursion KeepsUnit us → KeepsPartFacets m [] nothing_to_do nothing_to_do (λ _. nothing_to_do) (λ _. nothing_to_do) (λ _ f. f) (λ _ _. nothing_to_do) us
  units us j = record { of_meaning = k; of_actuals = tt; of_declaring = nothing_keeps; of_region = nothing_keeps; of_ahead = λ label. nothing_keeps; of_elaborating = λ label. nothing_keeps; of_otherwise = λ label f i. i; of_cases = λ label selector. nothing_keeps; of_units = j }

module _ (n : Resolved) (m : Meaning) (k : KeepsMeaning m) (ps : List Part) (h : PartsKeep ps) where
  part : (i : ℕ) → KeepsPart (nth i ps)
  part i = nth_keeps i ps h

  basis : KeepsPart (Parts.gathering m ps)
  basis = gathering_keeps m k ps h

  pub part_keeps : (x : Parts.Kind) → KeepsPart (Parts.part_of x n m ps)
  part_keeps Parts.Gathering = basis
  part_keeps Parts.Leaf' = basis
  part_keeps Parts.Formal = basis
  part_keeps Parts.Choice' = basis
  part_keeps Parts.Inner = basis
  part_keeps Parts.SelectedText = gathering_keeps (record m { text = (last_of ps).meaning.text }) k ps h
  part_keeps Parts.Map =
      record { of_meaning = k; of_actuals = actuals_keep ps h; of_declaring = nothing_keeps; of_region = nothing_keeps; of_ahead = λ label. nothing_keeps; of_elaborating = λ label. nothing_keeps; of_otherwise = λ label f i. i; of_cases = λ label selector. nothing_keeps; of_units = units_keep ps h }
  part_keeps (Parts.Word mode) = basis
  part_keeps Parts.ViewWord = basis
  part_keeps Parts.PortList = basis
  part_keeps Parts.ViewPorts = basis
  part_keeps Parts.GenericList = basis
  part_keeps Parts.ViewPart = basis
  part_keeps Parts.ViewText = basis
  part_keeps Parts.Signals' = declares m k ps h _ (new_signals_keep (nth 1 ps).meaning (nth 2 ps).meaning (nth 0 ps).meaning.numbers (nth 0 ps).meaning.texts)
  part_keeps Parts.Declared = declares m k ps h _ (commanded_keeps m k)
  part_keeps Parts.Declarations = declares m k ps h _ (all_keep _ (each_keeps (λ p. p.declaring) (λ p x. x.of_declaring) ps h))
  part_keeps Parts.Processes' = states m k ps h _ _ (λ label. nothing_keeps) (λ label h hs scope s i. processes_keep scope m.processes k.of_processes s i)
  part_keeps Parts.Labelled = states m k ps h _ _ (λ label. (part 1).of_ahead (nth 0 ps).meaning.text) (λ label. (part 1).of_elaborating (nth 0 ps).meaning.text)
  part_keeps Parts.Instantiation =
      states m k ps h _ _ (λ label x xs scope s i. xs.ahead scope (Parts.instance_with label ps) (instance_of_parts label ps h) s i)
      (λ label x xs scope s i. xs.instance scope (Parts.instance_with label ps) (instance_of_parts label ps h) s i)
  part_keeps Parts.IfGenerate =
      states m k ps h _ _ (λ label. nothing_keeps) (λ label.
      holds_keeps (nth 0 ps).meaning (Parts.generated (nth 1 ps) (label_of label)) ((nth 2 ps).otherwise label (Parts.where_there (nth 3 ps) (Parts.generated (nth 3 ps) (label_of label))))
      (generated_keeps (nth 1 ps) (part 1) (label_of label))
      ((part 2).of_otherwise label _ (where_keeps (nth 3 ps).meaning.is_present (Parts.generated (nth 3 ps) (label_of label)) (generated_keeps (nth 3 ps) (part 3) (label_of label)))))
  part_keeps Parts.Elsifs = alternates m k ps h _ _ (otherwise_keeps ps h) (λ label selector. nothing_keeps)
  part_keeps Parts.Elsif =
      alternates m k ps h _ _ (λ label f j. holds_keeps (nth 0 ps).meaning (Parts.generated (nth 1 ps) (label_of label)) f (generated_keeps (nth 1 ps) (part 1) (label_of label)) j) (λ label selector. nothing_keeps)
  part_keeps Parts.ForGenerate =
      states m k ps h _ _ (λ label. nothing_keeps) (λ label. for_keeps (nth 2 ps) (part 2) (nth 1 ps).meaning label (number_or (made n (nth 0 ps).meaning)))
  part_keeps Parts.CaseGenerate = states m k ps h _ _ (λ label. nothing_keeps) (λ label. (part 1).of_cases label (value_of (nth 0 ps).meaning))
  part_keeps Parts.Alternatives = alternates m k ps h _ _ (λ label f j. j) (λ label selector. covering_keeps ps h label selector)
  part_keeps Parts.Alternative = regions (record m { covers = (nth 0 ps).meaning.covers }) k ps h _ (part 1).of_region
  part_keeps Parts.Body = regions m k ps h _ (region_keeps (nth 0 ps ∷ []) (from 1 ps) (part 0, tt) (from_keeps 1 ps h))
  part_keeps Parts.Statements = regions m k ps h _ (region_keeps [] ps tt h)
  part_keeps Parts.Entity = units m k ps h _ (tt, tt)
  part_keeps Parts.Architecture =
      units m k ps h _ ((λ x xs scope s i. builds_then s.made ((nth 2 ps).declaring x scope s) _ ((part 2).of_declaring x xs scope s i) ((part 3).of_region x xs scope)), tt)
  part_keeps Parts.Package = units m k ps h _ (record { of_declaring = (part 2).of_declaring; of_declarations = (part 2).of_meaning.of_declarations }, tt)
  part_keeps Parts.PackageBody = units m k ps h _ (record { of_declaring = (part 1).of_declaring; of_declarations = (part 1).of_meaning.of_declarations }, tt)
  part_keeps Parts.PackageInstance = units m k ps h _ (record { of_declaring = nothing_keeps; of_declarations = tt }, tt)

-- ---- trees

module _ (t : Table) where
  meanings_keep : (ps : List Part) → PartsKeep ps → AllByRecursion KeepsMeaning (map (λ p. p.meaning) ps)
  meanings_keep [] h = tt
  meanings_keep (p ∷ ps) h = (h.0.of_meaning, meanings_keep ps h.1)

  pub node_keeps : (n : Resolved) (text : List ℕ) (place : Place) (ps : List Part) → PartsKeep ps → KeepsPart (Parts.node_part t n text place ps)
  node_keeps n text place ps h =
      part_keeps n (node_meaning t n text place (map (λ p. p.meaning) ps)) (kind_keeps t n text (map (λ p. p.meaning) ps) (meanings_keep ps h) (Kinds.kind n.form)) ps h (Parts.kind n.form)

  pub trees_keep : (f : Forest Resolved) → PartsKeep (Parts.parts t f)
  trees_keep nothing = tt
  trees_keep (more n text place inner next) = (node_keeps n text place (Parts.parts t inner) (trees_keep inner), trees_keep next)
