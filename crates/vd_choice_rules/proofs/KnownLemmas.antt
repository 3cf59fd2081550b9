-- What is refused of choices in memory is what is refused of those that are given.
use Rattle.std.proofs.Common.{◌≡◌, ◌∷◌, ◌++◌, Bool, List, None, Option, Some, [], ap, false, length, map, not, refl, subst, sym, true, ℕ, ◌∙◌, ◌&&◌, ◌==◌, if◌then◌else◌}
use Rattle.std.specs.List.{list_all}
use Rattle.std.specs.Option.{option_map}
use Rattle.std.specs.Prelude.{Err, Ok, is_some}
use Rattle.vd_bytes.specs.declared.answers.Refused.{Refused}
use Rattle.vd_choice_rules.specs.SelectingStatements.{IsSelecting, comparison_of}
use Rattle.vd_choice_rules.specs.declared.selecting_statements.Selecting.{Selecting}
use Rattle.vd_choice_rules.specs.Texts.{is_other_length, lacks_others, leaves_in, other_lengths_in, text_in, text_of, texts_missing, texts_refused, value_in}
use Rattle.vd_composites.specs.Composites.{Value, leaves}
use Rattle.vd_composites.specs.Ranges.{values_in}
use Rattle.vd_composites.specs.Stops.{◌>>=◌}
use Rattle.vd_composites.specs.declared.ranges.Bounds.{Bounds}
use Rattle.vd_environments.specs.Environments.{Env}
use Rattle.vd_environments.specs.Got.{Got, senseless}
use Rattle.vd_given_choices.proofs.RefusalLemmas.{known_early, same_all_known, same_known, same_repeated}
use Rattle.vd_given_choices.specs.Choices.{AreChoices, IsChoice}
use Rattle.vd_given_choices.specs.Refusals.{known_where, repeated_known}
use Rattle.vd_given_choices.specs.declared.choices.Choice.{Choice}
use Rattle.vd_walks.proofs.LeastLaws.{least_of_append}
use Rattle.vd_walks.specs.Least.{least_of, lesser}
use Rattle.vd_static_values.specs.Entries.{IsFound}
use Rattle.vd_value_rules.specs.Choices.{Given, are_texts_covered, array_choices, early, early_text, has_other_length, left_out, other_lengths, positions_in, repeated, same_text, taken_by_elements, text_of_length, texts_leave_out, those_got}
use Rattle.vd_value_rules.specs.Choices as rules
use Rattle.vd_value_rules.specs.Judging.{refused_if}
use Rattle.vd_values.specs.declared.scalar.Scalar.{Scalar}
use Rattle.vd_vectors.specs.declared.logics.LogicType.{LogicType}

-- ---- what is known of one choice

value_found : (x : Choice) (g : Given) → IsChoice x g → IsFound (value_in x) (early g.is_static g.value)
value_found x g is = known_early g.is_static x.is_static x.value g.value is.static is.value

text_by : (v : Value Scalar) (b : Bool) → IsFound (if b then Some (positions_in v) else None) (if b then Ok (positions_in v) else senseless)
text_by v true = refl
text_by v false = refl

text_got : (n : ℕ) (o : Option (Value Scalar)) (r : Got (Value Scalar)) → IsFound o r → IsFound (text_of n (option_map leaves o)) (r >>= text_of_length n)
text_got n None (Ok v) found = let no : true ≡ false = found in cc
text_got n None (Err h) found = refl
text_got n (Some v) r found =
    subst (λ z. IsFound (text_of n (Some (leaves v))) (z >>= text_of_length n)) (sym found) (text_by v (length (leaves v) == n))

text_found : (n : ℕ) (x : Choice) (g : Given) → IsChoice x g → IsFound (text_in n x) (early_text n g)
text_found n x g is = text_got n (value_in x) (early g.is_static g.value) (value_found x g is)

-- ---- choices of another length

other_got : (n : ℕ) (o : Option (Value Scalar)) (r : Got (Value Scalar)) → IsFound o r → has_other_length n r ≡ is_other_length n (option_map leaves o)
other_got n None (Ok v) found = let no : true ≡ false = found in cc
other_got n None (Err h) found = refl
other_got n (Some v) r found = ap (has_other_length n) found

other_by : (n : ℕ) (b : Bool) (o : Option (Value Scalar)) (r : Got (Value Scalar)) → (b ≡ true → IsFound o r)
    → (b && has_other_length n r) ≡ is_other_length n (option_map leaves (known_where b o))
other_by n true o r found = other_got n o r (found refl)
other_by n false o r found = refl

is_other : (n : ℕ) (x : Choice) (g : Given) → IsChoice x g → (g.is_static && has_other_length n g.value) ≡ is_other_length n (leaves_in x)
is_other n x g is = ap (λ b. b && has_other_length n g.value) is.static ∙ other_by n x.is_static x.value g.value is.value

same_other_lengths : (n : ℕ) (xs : List Choice) (gs : List Given) → AreChoices xs gs → other_lengths n gs ≡ other_lengths_in n xs
same_other_lengths n [] [] are = refl
same_other_lengths n [] (g ∷ gs) are = absurd are
same_other_lengths n (x ∷ xs) [] are = absurd are
same_other_lengths n (x ∷ xs) (g ∷ gs) are =
    ap (λ b. refused_if b g.place 405 ++ other_lengths n gs) (is_other n x g are.0)
    ∙ ap (λ p. refused_if (is_other_length n (leaves_in x)) p 405 ++ other_lengths n gs) are.0.place
    ∙ ap (λ rs. refused_if (is_other_length n (leaves_in x)) x.place 405 ++ rs) (same_other_lengths n xs gs are.1)

-- ---- arrays that are left out

same_missing : (n : ℕ) (s : rules.Selecting) (taken : Bounds) (xs : List Choice) → AreChoices xs s.choices → taken_by_elements s.selector.indicated ≡ taken
    → texts_leave_out n s ≡ texts_missing n taken xs
same_missing n s taken xs are same =
    let values = values_in (taken_by_elements s.selector.indicated) in
    ap (λ b. b && not (are_texts_covered n values (those_got (map (early_text n) s.choices))))
    (same_all_known value_in (λ g. early g.is_static g.value) value_found xs s.choices are)
    ∙ ap (λ ts. list_all (λ x. is_some (value_in x)) xs && not (are_texts_covered n values ts)) (same_known (text_in n) (early_text n) (text_found n) xs s.choices are)
    ∙ ap (λ t. texts_missing n t xs) same

-- ---- `others` that is missing

left_out_by : (m : Option LogicType) (b : Bool) (s : rules.Selecting) → left_out (comparison_of m) b s ≡ refused_if (lacks_others m b s.has_others) s.place 403
left_out_by None b s = refl
left_out_by (Some of) b s = refl

module _ (x : Selecting) (s : rules.Selecting) (is : IsSelecting x s) where
  pub others_missing : (b lacking : Bool) (found : Option Refused) → lacking ≡ lacks_others x.matching b x.has_others
      → found ≡ least_of (refused_if lacking x.place 403) → found ≡ least_of (left_out s.comparison b s)
  others_missing b lacking found lacks refused =
      refused ∙ ap (λ l. least_of (refused_if l x.place 403)) lacks
      ∙ ap (λ o. least_of (refused_if (lacks_others x.matching b o) x.place 403)) (sym is.others)
      ∙ ap (λ p. least_of (refused_if (lacks_others x.matching b s.has_others) p 403)) (sym is.place)
      ∙ ap least_of (sym (left_out_by x.matching b s)) ∙ ap (λ c. least_of (left_out c b s)) (sym is.comparison)

  pub lengthless_refused : (e : Env) (missing found : Option Refused) → missing ≡ least_of (left_out s.comparison false s)
      → found ≡ lesser (Some (record { place = x.selector_place; rule = 405 })) missing → found ≡ least_of (array_choices e None s)
  lengthless_refused e missing found missing_is found_is =
      found_is ∙ ap (lesser (Some (record { place = x.selector_place; rule = 405 }))) missing_is
      ∙ ap (λ p. lesser (Some (record { place = p; rule = 405 })) (least_of (left_out s.comparison false s))) (sym is.selector_place)

  -- ---- all that is refused

  pub all_refused : (n : ℕ) (xs : List Choice) (gap : Bool) (unselectable other missing repeats front most found : Option Refused) → AreChoices xs s.choices
      → unselectable ≡ least_of (refused_if (not x.is_selectable) x.selector_place 405) → other ≡ least_of (other_lengths_in n xs)
      → gap ≡ texts_missing n x.shape.taken_by_elements xs → repeats ≡ least_of (repeated_known same_text (text_in n) [] xs)
      → missing ≡ least_of (left_out s.comparison gap s) → front ≡ lesser unselectable other → most ≡ lesser front missing → found ≡ lesser most repeats
      → found ≡ least_of (texts_refused n s)
  all_refused n xs gap unselectable other missing repeats front most found are selectable_is other_is gap_is repeats_is missing_is front_is most_is found_is =
      let first = refused_if (not s.is_selectable) s.selector_place 405 in
      let lengths = other_lengths n s.choices in
      let left = left_out s.comparison (texts_leave_out n s) s in
      let twice = repeated same_text (early_text n) [] s.choices in
      let of_first : unselectable ≡ least_of first =
      selectable_is ∙ ap (λ b. least_of (refused_if (not b) x.selector_place 405)) (sym is.selectable)
      ∙ ap (λ p. least_of (refused_if (not s.is_selectable) p 405)) (sym is.selector_place) in
      let of_lengths : other ≡ least_of lengths = other_is ∙ ap least_of (sym (same_other_lengths n xs s.choices are)) in
      let of_left : missing ≡ least_of left =
      missing_is ∙ ap (λ b. least_of (left_out s.comparison b s)) (gap_is ∙ sym (same_missing n s x.shape.taken_by_elements xs are is.shape.elements)) in
      let of_twice : repeats ≡ least_of twice =
      repeats_is ∙ ap least_of (sym (same_repeated (text_in n) (early_text n) (text_found n) same_text [] xs s.choices are)) in
      let of_front : front ≡ least_of (first ++ lengths) =
      front_is ∙ ap (λ o. lesser o other) of_first ∙ ap (lesser (least_of first)) of_lengths ∙ sym (least_of_append first lengths) in
      let of_most : most ≡ least_of (first ++ lengths ++ left) =
      most_is ∙ ap (λ o. lesser o missing) of_front ∙ ap (lesser (least_of (first ++ lengths))) of_left ∙ sym (least_of_append (first ++ lengths) left) in
      found_is ∙ ap (λ o. lesser o repeats) of_most ∙ ap (lesser (least_of (first ++ lengths ++ left))) of_twice
      ∙ sym (least_of_append (first ++ lengths ++ left) twice)
