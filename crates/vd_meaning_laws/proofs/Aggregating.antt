-- Aggregates with other numbers.
use Rattle.std.proofs.Common.{◌≡◌, ℕ, suc, ℤ, Bool, true, false, not, List, [], ◌∷◌, ◌++◌, Option, Some, None, filter, refl, ◌∙◌}
use Rattle.std.specs.Prelude.{◌||◌, if◌then◌else◌, pos, Ok}
use Rattle.std.specs.List.{AllZip, list_any}
use Rattle.std.specs.Ordering.{int_eq}
use Rattle.vd_composites.specs.declared.ranges.Bounds.{Bounds}
use Rattle.vd_composites.specs.declared.scalars.ScalarSubtype.{ScalarSubtype}
use Rattle.vd_composites.specs.Stops.{◌>>=◌}
use Rattle.vd_composites.specs.Composites.{items_of}
use Rattle.vd_composites.specs.Subtypes.{Subtype, Scalars, Arrays, Records, Subtypes, number_of, fit}
use Rattle.vd_composites.specs.Concatenations.{array_on}
use Rattle.vd_composites.specs.Aggregates.{named_bounds, bounds_with_others, array_from, record_from, numbers_from, chosen_indexes}
use Rattle.vd_environments.specs.Got.{Got, got}
use Rattle.vd_environments.specs.Environments.{Env, only_global}
use Rattle.vd_meaning.specs.Names.{bounds_of_subtype}
use Rattle.vd_meaning.specs.Facets.{Meaning, Association, Positional, ByChoices, ForOthers, Choice}
use Rattle.vd_meaning.specs.Brackets.{for_each, is_positional, is_for_others, has_choices, positional_count, all_ranges, ranges_of, with_positions, indexes_of, array_pairs, array_of_pairs, array_with_others, array_with_choices, each_element, known_direction, array_aggregate, positions_of, fields_of, named_fields, fields_left, field_at, record_pairs, record_aggregate, aggregate_of, aggregate, bracketed_value, bracketed_known}
use Rattle.vd_meaning_laws.specs.Agreement.{Link, IsApart, through, Keeps, Alike, number_in}
use Rattle.vd_meaning_laws.specs.Renumbering.{AlikeChoice, AlikeMeaning}
use Rattle.vd_meaning_laws.proofs.Parts.{ranges_alike, known_alike}

module _ (l : Link) (numbers : IsApart l) where
  each_same : (subtype : ℤ → Got Subtype) (m n : Meaning) → AlikeMeaning l m n → (e : Env) → Keeps l e → (is : List ℤ) → for_each subtype n e is ≡ for_each subtype m (through l e) is
  each_same subtype m n h e j [] = refl
  each_same subtype m n h e j (i ∷ is) =
      λ k. subtype i >>= λ s. h.value (Ok s) e j k >>= λ v. got (fit s v) >>= λ w. each_same subtype m n h e j is k >>= λ rest. Ok ((i, w) ∷ rest)

  count_same : (ms ns : List Meaning) → AllZip (AlikeMeaning l) ms ns → positional_count ns ≡ positional_count ms
  count_same [] [] h = refl
  count_same (m ∷ ms) (n ∷ ns) h = λ i. if is_positional (h.0.association i) then suc (count_same ms ns h.1 i) else count_same ms ns h.1 i
  count_same _ _ h = absurd h

  ranges_in : (m n : Meaning) → AlikeMeaning l m n → Alike l (ranges_of m.choices) (ranges_of n.choices)
  ranges_in m n h = ranges_alike l numbers m.choices n.choices h.choices

  all_ranges_same : (ms ns : List Meaning) → AllZip (AlikeMeaning l) ms ns → Alike l (all_ranges ms) (all_ranges ns)
  all_ranges_same [] [] h e j = refl
  all_ranges_same (m ∷ ms) (n ∷ ns) h e j = λ i. ranges_in m n h.0 e j i >>= λ cs. all_ranges_same ms ns h.1 e j i >>= λ rest. Ok (cs ++ rest)
  all_ranges_same _ _ h e j = absurd h

  indexes_at : (a : Association) (b : Bounds) (k : ℕ) (all : List Bounds) (cs ds : List Choice) (e e' : Env) → ranges_of ds e' ≡ ranges_of cs e
      → indexes_of a b k all ds e' ≡ indexes_of a b k all cs e
  indexes_at Positional b k all cs ds e e' h = refl
  indexes_at ByChoices b k all cs ds e e' h = λ i. h i >>= λ rs. Ok (chosen_indexes rs)
  indexes_at ForOthers b k all cs ds e e' h = refl

  indexes_same : (m n : Meaning) → AlikeMeaning l m n → (b : Bounds) (k : ℕ) (all : List Bounds) (e : Env) → Keeps l e
      → indexes_of n.association b k all n.choices e ≡ indexes_of m.association b k all m.choices (through l e)
  indexes_same m n h b k all e j =
      (λ i. indexes_of (h.association i) b k all n.choices e) ∙ indexes_at m.association b k all m.choices n.choices (through l e) e (ranges_in m n h e j)

  pairs_same : (element : Subtype) (b : Bounds) (k : ℕ) (all : List Bounds) (ms ns : List Meaning) → AllZip (AlikeMeaning l) ms ns → (e : Env) → Keeps l e
      → array_pairs element b k all ns e ≡ array_pairs element b k all ms (through l e)
  pairs_same element b k all [] [] h e j = refl
  pairs_same element b k all (m ∷ ms) (n ∷ ns) h e j =
      (λ i. indexes_same m n h.0 b k all e j i >>= (λ is. each_same (λ _. Ok element) m n h.0 e j is i) >>= λ ps.
      array_pairs element b (if is_positional (h.0.association i) then suc k else k) all ns e >>= λ rest. Ok (ps ++ rest))
      ∙ (λ i. indexes_of m.association b k all m.choices (through l e) >>= for_each (λ _. Ok element) m (through l e) >>= λ ps.
      pairs_same element b (if is_positional m.association then suc k else k) all ms ns h.1 e j i >>= λ rest. Ok (ps ++ rest))
  pairs_same element b k all _ _ h e j = absurd h

  elements_same : (element : Subtype) (ms ns : List Meaning) → AllZip (AlikeMeaning l) ms ns → (e : Env) → Keeps l e → each_element element ns e ≡ each_element element ms (through l e)
  elements_same element [] [] h e j = refl
  elements_same element (m ∷ ms) (n ∷ ns) h e j =
      λ i. h.0.value (Ok element) e j i >>= λ v. got (fit element v) >>= λ w. elements_same element ms ns h.1 e j i >>= λ ws. Ok (w ∷ ws)
  elements_same element _ _ h e j = absurd h

  any_same : (f : Association → Bool) (ms ns : List Meaning) → AllZip (AlikeMeaning l) ms ns → list_any (λ m. f m.association) ns ≡ list_any (λ m. f m.association) ms
  any_same f [] [] h = refl
  any_same f (m ∷ ms) (n ∷ ns) h = λ i. f (h.0.association i) || any_same f ms ns h.1 i
  any_same f _ _ h = absurd h

  others_same : (element : Subtype) (known : Got Bounds) (ms ns : List Meaning) → AllZip (AlikeMeaning l) ms ns → (e : Env) → Keeps l e
      → array_with_others element known ns e ≡ array_with_others element known ms (through l e)
  others_same element known ms ns h e j =
      (λ i. known >>= λ b. all_ranges_same ms ns h e j i >>= λ cs. got (bounds_with_others b (with_positions b (count_same ms ns h i) cs)) >>= λ c.
      array_of_pairs element c (with_positions b (count_same ms ns h i) cs) ns e)
      ∙ (λ i. known >>= λ b. all_ranges ms (through l e) >>= λ cs. got (bounds_with_others b (with_positions b (positional_count ms) cs)) >>= λ c.
      pairs_same element c 0 (with_positions b (positional_count ms) cs) ms ns h e j i >>= λ ps. got (array_from c ps))

  choices_same : (index : ScalarSubtype) (element : Subtype) (down : Bool) (ms ns : List Meaning) → AllZip (AlikeMeaning l) ms ns → (e : Env) → Keeps l e
      → array_with_choices index element down ns e ≡ array_with_choices index element down ms (through l e)
  choices_same index element down ms ns h e j =
      λ i. all_ranges_same ms ns h e j i >>= λ cs. got (named_bounds index down cs) >>= λ b.
      pairs_same element b 0 cs ms ns h e j i >>= λ ps. got (array_from b ps)

  array_same : (index : ScalarSubtype) (own : Option Bounds) (element : Subtype) (known : Got Subtype) (ms ns : List Meaning) → AllZip (AlikeMeaning l) ms ns → (e : Env) → Keeps l e
      → array_aggregate index own element known ns e ≡ array_aggregate index own element known ms (through l e)
  array_same index own element known ms ns h e j =
      λ i. if any_same is_for_others ms ns h i then others_same element (known >>= bounds_of_subtype) ms ns h e j i
      else (if any_same has_choices ms ns h i then choices_same index element (known_direction known own) ms ns h e j i
      else (elements_same element ms ns h e j i >>= λ vs. got (array_on index (items_of vs))))

  -- ---- records

  positions_same : (cs ds : List Choice) → AllZip (AlikeChoice l) cs ds → positions_of ds ≡ positions_of cs
  positions_same [] [] h = refl
  positions_same (c ∷ cs) (d ∷ ds) h = λ i. pos (h.0.position i) ∷ positions_same cs ds h.1 i
  positions_same _ _ h = absurd h

  fields_at : (a : Association) (k : ℕ) (left : List ℤ) (cs ds : List Choice) → positions_of ds ≡ positions_of cs → fields_of a k left ds ≡ fields_of a k left cs
  fields_at Positional k left cs ds h = refl
  fields_at ByChoices k left cs ds h = h
  fields_at ForOthers k left cs ds h = refl

  fields_same : (m n : Meaning) → AlikeMeaning l m n → (k : ℕ) (left : List ℤ) → fields_of n.association k left n.choices ≡ fields_of m.association k left m.choices
  fields_same m n h k left =
      (λ i. fields_of (h.association i) k left n.choices) ∙ fields_at m.association k left m.choices n.choices (positions_same m.choices n.choices h.choices)

  named_same : (k : ℕ) (ms ns : List Meaning) → AllZip (AlikeMeaning l) ms ns → named_fields k ns ≡ named_fields k ms
  named_same k [] [] h = refl
  named_same k (m ∷ ms) (n ∷ ns) h =
      (λ i. fields_same m n h.0 k [] i ++ named_fields (if is_positional (h.0.association i) then suc k else k) ns)
      ∙ (λ i. fields_of m.association k [] m.choices ++ named_same (if is_positional m.association then suc k else k) ms ns h.1 i)
  named_same k _ _ h = absurd h

  left_same : (count : ℕ) (ms ns : List Meaning) → AllZip (AlikeMeaning l) ms ns → fields_left count ns ≡ fields_left count ms
  left_same count ms ns h = λ i. filter (λ x. not (list_any (λ j. int_eq x j) (named_same 0 ms ns h i))) (numbers_from 0 count)

  record_pairs_same : (fields : Subtypes) (k : ℕ) (left : List ℤ) (ms ns : List Meaning) → AllZip (AlikeMeaning l) ms ns → (e : Env) → Keeps l e
      → record_pairs fields k left ns e ≡ record_pairs fields k left ms (through l e)
  record_pairs_same fields k left [] [] h e j = refl
  record_pairs_same fields k left (m ∷ ms) (n ∷ ns) h e j =
      (λ i. each_same (field_at fields) m n h.0 e j (fields_same m n h.0 k left i) i >>= λ ps.
      record_pairs fields (if is_positional (h.0.association i) then suc k else k) left ns e >>= λ rest. Ok (ps ++ rest))
      ∙ (λ i. for_each (field_at fields) m (through l e) (fields_of m.association k left m.choices) >>= λ ps.
      record_pairs_same fields (if is_positional m.association then suc k else k) left ms ns h.1 e j i >>= λ rest. Ok (ps ++ rest))
  record_pairs_same fields k left _ _ h e j = absurd h

  record_same : (fields : Subtypes) (ms ns : List Meaning) → AllZip (AlikeMeaning l) ms ns → (e : Env) → Keeps l e → record_aggregate fields ns e ≡ record_aggregate fields ms (through l e)
  record_same fields ms ns h e j =
      (λ i. record_pairs fields 0 (left_same (number_of fields) ms ns h i) ns e >>= λ ps. got (record_from (number_of fields) ps))
      ∙ (λ i. record_pairs_same fields 0 (fields_left (number_of fields) ms) ms ns h e j i >>= λ ps. got (record_from (number_of fields) ps))

  -- ---- all of them

  by_subtype : (s : Subtype) (known : Got Subtype) (ms ns : List Meaning) → AllZip (AlikeMeaning l) ms ns → (e : Env) → Keeps l e → aggregate_of s known ns e ≡ aggregate_of s known ms (through l e)
  by_subtype (Arrays index own element) known ms ns h e j = array_same index own element known ms ns h e j
  by_subtype (Records fields) known ms ns h e j = record_same fields ms ns h e j
  by_subtype (Scalars s) known ms ns h e j = refl

  aggregate_same : (mark : Option ℕ) (ms ns : List Meaning) → AllZip (AlikeMeaning l) ms ns → (known : Got Subtype) (e : Env) → Keeps l e
      → aggregate (number_in l mark) ns known e ≡ aggregate mark ms known (through l e)
  aggregate_same None ms ns h known e j = refl
  aggregate_same (Some d) ms ns h known e j = by_subtype (e.denotes (l.number d)).subtype known ms ns h e j

  pub bracketed_same : (mark : Option ℕ) (ms ns : List Meaning) → AllZip (AlikeMeaning l) ms ns → (known : Got Subtype) (e : Env) → Keeps l e
      → bracketed_value (number_in l mark) ns known e ≡ bracketed_value mark ms known (through l e)
  bracketed_same mark [] [] h known e j = aggregate_same mark [] [] h known e j
  bracketed_same mark (m ∷ []) (n ∷ []) h known e j =
      (λ i. (if is_positional (h.0.association i) then n.value else aggregate (number_in l mark) (n ∷ [])) known e) ∙ one_same (is_positional m.association)
    where
      one_same : (b : Bool) → (if b then n.value else aggregate (number_in l mark) (n ∷ [])) known e ≡ (if b then m.value else aggregate mark (m ∷ [])) known (through l e)
      one_same true = h.0.value known e j
      one_same false = aggregate_same mark (m ∷ []) (n ∷ []) h known e j
  bracketed_same mark (m ∷ m' ∷ ms) (n ∷ n' ∷ ns) h known e j = aggregate_same mark (m ∷ m' ∷ ms) (n ∷ n' ∷ ns) h known e j
  bracketed_same mark (m ∷ []) (n ∷ n' ∷ ns) h known e j = absurd h.1
  bracketed_same mark (m ∷ m' ∷ ms) (n ∷ []) h known e j = absurd h.1
  bracketed_same mark _ _ h known e j = absurd h

  pub bracketed_known_alike : (ms ns : List Meaning) → AllZip (AlikeMeaning l) ms ns → Alike l (bracketed_known ms) (bracketed_known ns)
  bracketed_known_alike [] [] h e j = refl
  bracketed_known_alike (m ∷ []) (n ∷ []) h e j = λ i. if is_positional (h.0.association i) then h.0.known e j i else only_global (h.0.known e j i)
  bracketed_known_alike (m ∷ m' ∷ ms) (n ∷ n' ∷ ns) h e j = λ i. only_global (known_alike l numbers (m ∷ m' ∷ ms) (n ∷ n' ∷ ns) h e j i)
  bracketed_known_alike (m ∷ []) (n ∷ n' ∷ ns) h e j = absurd h.1
  bracketed_known_alike (m ∷ m' ∷ ms) (n ∷ []) h e j = absurd h.1
  bracketed_known_alike _ _ h e j = absurd h
