-- Values on a stack, and defaults.
use Rattle.std.proofs.Common.{◌≡◌, ℕ, zero, suc, ◌+◌, Bool, true, false, List, [], ◌∷◌, ◌++◌, refl, sym, ap, ◌∙◌, arith}
use Rattle.std.proofs.lemmas.List.{reverse-append}
use Rattle.std.specs.Prelude.{Result, Ok, Err, IfOk, if◌then◌else◌}
use Rattle.vd_values.specs.declared.scalar.Scalar.{Scalar}
use Rattle.vd_values.specs.declared.scalar.StopKind.{StopKind}
use Rattle.vd_composites.specs.declared.scalars.ScalarSubtype.{ScalarSubtype}
use Rattle.vd_composites.specs.declared.ranges.Bounds.{Bounds}
use Rattle.vd_composites.specs.Parts.{array_of}
use Rattle.vd_composites.specs.Stops.{OrStop}
use Rattle.vd_composites.specs.Ranges.{length_of, lies_within, from_left}
use Rattle.std.specs.Prelude.{◌==◌}
use Rattle.vd_composites.specs.Composites.{Value, Array, Fields, Items, none, item, items_of, count, joined, first_of, without, repeated}
use Rattle.vd_composites.specs.Subtypes.{Subtypes, no_more, and_more, default_of, defaults_of}
use Rattle.vd_composites.specs.Concatenations.{array_on}
use Rattle.vd_composites.proofs.ItemLemmas.{count_joined, first_joined, without_joined, joined_assoc}
use Rattle.vd_subtypes.specs.declared.subtypes.Node.TheVariants.{Record as RecordNode}
use Rattle.vd_subtypes.specs.Nodes.{first_fields, without_fields, read}
use Rattle.vd_subtypes.specs.Stacks.{from_top, null_on, TakesRecord, Begins}

made_same : (a b : Bool) (w v : Value Scalar) (e f : StopKind) → (let g : OrStop (Value Scalar) = (if a then (if b then Ok w else Err e) else Err f) in g ≡ Ok v) → v ≡ w
made_same true true w v e f h = cc
made_same true false w v e f h = absurd cc
made_same false b w v e f h = absurd cc

pub null_is : (index : ScalarSubtype) (v : Value Scalar) → array_on index none ≡ Ok v → v ≡ null_on index
null_is index v h = made_same (lies_within index.range (from_left index.range.left index.range.down 0)) (0 == length_of (from_left index.range.left index.range.down 0)) (null_on index) v _ _ h

pub first_defaults : (n : ℕ) (ss : Subtypes) → defaults_of (first_fields n ss) ≡ first_of n (defaults_of ss)
first_defaults zero ss = refl
first_defaults (suc n) no_more = refl
first_defaults (suc n) (and_more s ss) = ap (item (default_of s)) (first_defaults n ss)

pub without_defaults : (n : ℕ) (ss : Subtypes) → defaults_of (without_fields n ss) ≡ without n (defaults_of ss)
without_defaults zero ss = refl
without_defaults (suc n) no_more = refl
without_defaults (suc n) (and_more s ss) = without_defaults n ss

pub record_begins : (n : ℕ) (old new : List (Value Scalar)) (v : Value Scalar) → TakesRecord n old new v → Begins (RecordNode n) old new v
record_begins n old new v t ns e =
    let one : v ≡ Fields (defaults_of (first_fields n (read ns))) = t.0 ∙ ap (λ vs. Fields (first_of n vs)) e ∙ ap Fields (sym (first_defaults n (read ns))) in
    let two : from_top new ≡ defaults_of (without_fields n (read ns)) = t.1 ∙ ap (without n) e ∙ sym (without_defaults n (read ns)) in
    λ i. item (one i) (two i)

pub top_taken : (xs : List (Value Scalar)) (v : Value Scalar) → from_top (xs ++ v ∷ []) ≡ item v (from_top xs)
top_taken xs v = ap items_of (reverse-append xs (v ∷ []))

-- all were taken from the top
pub takes_record : (n : ℕ) (old new : List (Value Scalar)) (vs : Items Scalar) (v : Value Scalar) → count vs ≡ n → joined vs (from_top new) ≡ from_top old → v ≡ Fields vs → TakesRecord n old new v
takes_record n old new vs v many same is = (
  is ∙ ap Fields (sym (first_joined vs (from_top new)) ∙ ap (λ k. first_of k (joined vs (from_top new))) many ∙ ap (first_of n) same),
  sym (without_joined vs (from_top new)) ∙ ap (λ k. without k (joined vs (from_top new))) many ∙ ap (without n) same,
)

pub if_ok_map : {A E : Type 0} (r : Result A E) (P Q : A → Type 0) → ((v : A) → P v → Q v) → IfOk r P → IfOk r Q
if_ok_map (Ok v) P Q f h = f v h
if_ok_map (Err e) P Q f h = tt

repeated_joined : (n : ℕ) (v : Value Scalar) → joined (repeated n v) (item v none) ≡ repeated (suc n) v
repeated_joined zero v = refl
repeated_joined (suc n) v = ap (item v) (repeated_joined n v)

pub repeated_more : (n : ℕ) (v : Value Scalar) (old new : Items Scalar) → old ≡ repeated n v → new ≡ joined old (item v none) → new ≡ repeated (n + 1) v
repeated_more n v old new e f = let s : suc n ≡ n + 1 = omega arith in f ∙ ap (λ vs. joined vs (item v none)) e ∙ repeated_joined n v ∙ ap (λ k. repeated k v) s

one_made : (a : Bool) (w v : Value Scalar) (e : StopKind) → (let g : OrStop (Value Scalar) = (if a then Ok w else Err e) in g ≡ Ok v) → v ≡ w
one_made true w v e h = cc
one_made false w v e h = absurd cc

pub array_is : (b : Bounds) (vs : Items Scalar) (v : Value Scalar) → array_of b vs ≡ Ok v → v ≡ Array b vs
array_is b vs v h = one_made (count vs == length_of b) (Array b vs) v _ h

-- one more was taken from the top
pub one_taken : (n : ℕ) (old new : List (Value Scalar)) (vs ws all : Items Scalar) (v : Value Scalar) → count vs ≡ n → joined vs (from_top old) ≡ all → old ≡ new ++ v ∷ [] → ws ≡ joined vs (item v none) →
    (count ws ≡ n + 1) × (joined ws (from_top new) ≡ all)
one_taken n old new vs ws all v many same top is = (
  ap count is ∙ count_joined vs (item v none) ∙ (let one : count (item v none) ≡ 1 = refl in omega arith),
  ap (λ us. joined us (from_top new)) is ∙ joined_assoc vs (item v none) (from_top new) ∙ ap (joined vs) (sym (ap from_top top ∙ top_taken new v)) ∙ same,
)

pub ok_value : (w v : Value Scalar) → (let g : OrStop (Value Scalar) = Ok w in g ≡ Ok v) → v ≡ w
ok_value w v h = cc
