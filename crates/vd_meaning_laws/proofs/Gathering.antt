-- Aggregates of parts that are only evaluated.
use Rattle.std.proofs.Common.{◌≡◌, ℕ, suc, ℤ, Bool, true, false, not, List, [], ◌∷◌, ◌++◌, Option, map, filter, refl}
use Rattle.std.specs.Prelude.{◌||◌, if◌then◌else◌, Ok}
use Rattle.std.specs.List.{list_any}
use Rattle.std.specs.Ordering.{int_eq}
use Rattle.vd_composites.specs.declared.ranges.Bounds.{Bounds}
use Rattle.vd_composites.specs.declared.scalars.ScalarSubtype.{ScalarSubtype}
use Rattle.vd_composites.specs.Stops.{◌>>=◌}
use Rattle.vd_composites.specs.Composites.{items_of}
use Rattle.vd_composites.specs.Subtypes.{Subtype, Scalars, Arrays, Records, Subtypes, number_of, fit}
use Rattle.vd_composites.specs.Concatenations.{array_on}
use Rattle.vd_composites.specs.Aggregates.{named_bounds, bounds_with_others, array_from, record_from, numbers_from}
use Rattle.vd_environments.specs.Got.{Got, got}
use Rattle.vd_environments.specs.Environments.{Env, only_global}
use Rattle.vd_meaning.specs.Operators.{marked}
use Rattle.vd_meaning.specs.Names.{bounds_of_subtype}
use Rattle.vd_meaning.specs.Facets.{Meaning, Association}
use Rattle.vd_meaning.specs.Brackets.{for_each, is_positional, is_for_others, has_choices, positional_count, all_ranges, ranges_of, with_positions, indexes_of, array_pairs, array_with_others, array_with_choices, each_element, known_direction, array_aggregate, fields_of, named_fields, fields_left, field_at, record_pairs, record_aggregate, aggregate_of, aggregate, bracketed_value, bracketed_known}
use Rattle.vd_meaning_laws.specs.Places.{as_value}
use Rattle.vd_meaning_laws.proofs.Seeing.{known_same}

each_same : (subtype : ℤ → Got Subtype) (m : Meaning) (e : Env) (is : List ℤ) → for_each subtype m e is ≡ for_each subtype (as_value m) e is
each_same subtype m e [] = refl
each_same subtype m e (i ∷ is) =
    λ k. subtype i >>= λ s. m.value (Ok s) e >>= λ v. got (fit s v) >>= λ w. each_same subtype m e is k >>= λ rest. Ok ((i, w) ∷ rest)

count_same : (ms : List Meaning) → positional_count ms ≡ positional_count (map as_value ms)
count_same [] = refl
count_same (m ∷ ms) = λ i. if is_positional m.association then suc (count_same ms i) else count_same ms i

all_ranges_same : (ms : List Meaning) (e : Env) → all_ranges ms e ≡ all_ranges (map as_value ms) e
all_ranges_same [] e = refl
all_ranges_same (m ∷ ms) e = λ i. ranges_of m.choices e >>= λ cs. all_ranges_same ms e i >>= λ rest. Ok (cs ++ rest)

any_same : (f : Association → Bool) (ms : List Meaning) → list_any (λ m. f m.association) ms ≡ list_any (λ m. f m.association) (map as_value ms)
any_same f [] = refl
any_same f (m ∷ ms) = λ i. f m.association || any_same f ms i

-- ---- arrays

pairs_same : (element : Subtype) (b : Bounds) (k : ℕ) (all : List Bounds) (ms : List Meaning) (e : Env) → array_pairs element b k all ms e ≡ array_pairs element b k all (map as_value ms) e
pairs_same element b k all [] e = refl
pairs_same element b k all (m ∷ ms) e =
    λ i. indexes_of m.association b k all m.choices e >>= (λ is. each_same (λ _. Ok element) m e is i) >>= λ ps.
    pairs_same element b (if is_positional m.association then suc k else k) all ms e i >>= λ rest. Ok (ps ++ rest)

elements_same : (element : Subtype) (ms : List Meaning) (e : Env) → each_element element ms e ≡ each_element element (map as_value ms) e
elements_same element [] e = refl
elements_same element (m ∷ ms) e =
    λ i. m.value (Ok element) e >>= λ v. got (fit element v) >>= λ w. elements_same element ms e i >>= λ ws. Ok (w ∷ ws)

others_same : (element : Subtype) (known : Got Bounds) (ms : List Meaning) (e : Env) → array_with_others element known ms e ≡ array_with_others element known (map as_value ms) e
others_same element known ms e =
    λ i. known >>= λ b. all_ranges_same ms e i >>= λ cs. got (bounds_with_others b (with_positions b (count_same ms i) cs)) >>= λ c.
    pairs_same element c 0 (with_positions b (count_same ms i) cs) ms e i >>= λ ps. got (array_from c ps)

choices_same : (index : ScalarSubtype) (element : Subtype) (down : Bool) (ms : List Meaning) (e : Env)
    → array_with_choices index element down ms e ≡ array_with_choices index element down (map as_value ms) e
choices_same index element down ms e =
    λ i. all_ranges_same ms e i >>= λ cs. got (named_bounds index down cs) >>= λ b. pairs_same element b 0 cs ms e i >>= λ ps. got (array_from b ps)

array_same : (index : ScalarSubtype) (own : Option Bounds) (element : Subtype) (known : Got Subtype) (ms : List Meaning) (e : Env)
    → array_aggregate index own element known ms e ≡ array_aggregate index own element known (map as_value ms) e
array_same index own element known ms e =
    λ i. if any_same is_for_others ms i then others_same element (known >>= bounds_of_subtype) ms e i
    else (if any_same has_choices ms i then choices_same index element (known_direction known own) ms e i
    else (elements_same element ms e i >>= λ vs. got (array_on index (items_of vs))))

-- ---- records

named_same : (k : ℕ) (ms : List Meaning) → named_fields k ms ≡ named_fields k (map as_value ms)
named_same k [] = refl
named_same k (m ∷ ms) = λ i. fields_of m.association k [] m.choices ++ named_same (if is_positional m.association then suc k else k) ms i

left_same : (count : ℕ) (ms : List Meaning) → fields_left count ms ≡ fields_left count (map as_value ms)
left_same count ms = λ i. filter (λ x. not (list_any (λ j. int_eq x j) (named_same 0 ms i))) (numbers_from 0 count)

fields_same : (fields : Subtypes) (k : ℕ) (left : List ℤ) (ms : List Meaning) (e : Env) → record_pairs fields k left ms e ≡ record_pairs fields k left (map as_value ms) e
fields_same fields k left [] e = refl
fields_same fields k left (m ∷ ms) e =
    λ i. each_same (field_at fields) m e (fields_of m.association k left m.choices) i >>= λ ps.
    fields_same fields (if is_positional m.association then suc k else k) left ms e i >>= λ rest. Ok (ps ++ rest)

record_same : (fields : Subtypes) (ms : List Meaning) (e : Env) → record_aggregate fields ms e ≡ record_aggregate fields (map as_value ms) e
record_same fields ms e = λ i. fields_same fields 0 (left_same (number_of fields) ms i) ms e i >>= λ ps. got (record_from (number_of fields) ps)

-- ---- all of them

by_subtype : (s : Subtype) (known : Got Subtype) (ms : List Meaning) (e : Env) → aggregate_of s known ms e ≡ aggregate_of s known (map as_value ms) e
by_subtype (Arrays index own element) known ms e = array_same index own element known ms e
by_subtype (Records fields) known ms e = record_same fields ms e
by_subtype (Scalars s) known ms e = refl

aggregate_same : (mark : Option ℕ) (ms : List Meaning) (known : Got Subtype) (e : Env) → aggregate mark ms known e ≡ aggregate mark (map as_value ms) known e
aggregate_same mark ms known e = λ i. marked mark e >>= λ s. by_subtype s known ms e i

one_same : (b : Bool) (mark : Option ℕ) (m : Meaning) (known : Got Subtype) (e : Env)
    → (if b then m.value else aggregate mark (m ∷ [])) known e ≡ (if b then m.value else aggregate mark (as_value m ∷ [])) known e
one_same true mark m known e = refl
one_same false mark m known e = aggregate_same mark (m ∷ []) known e

pub bracketed_same : (mark : Option ℕ) (ms : List Meaning) (known : Got Subtype) (e : Env) → bracketed_value mark ms known e ≡ bracketed_value mark (map as_value ms) known e
bracketed_same mark [] known e = refl
bracketed_same mark (m ∷ []) known e = one_same (is_positional m.association) mark m known e
bracketed_same mark (m ∷ n ∷ ms) known e = aggregate_same mark (m ∷ n ∷ ms) known e

pub bracketed_known_same : (ms : List Meaning) (e : Env) → bracketed_known ms e ≡ bracketed_known (map as_value ms) e
bracketed_known_same [] e = refl
bracketed_known_same (m ∷ []) e = refl
bracketed_known_same (m ∷ n ∷ ms) e = λ i. only_global (known_same (m ∷ n ∷ ms) e i)
