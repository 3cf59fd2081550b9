-- Choices that match earlier ones, one by one.
use Rattle.std.proofs.Common.{◌≡◌, ◌∷◌, ◌++◌, ◌+◌, ◌<◌, ◌≤◌, Bool, List, Option, [], add-one, ap, arith, drop, get_or, length, refl, subst, suc, sym, zero, ℕ, ◌∙◌}
use Rattle.std.proofs.lemmas.List.{drop_all}
use Rattle.vd_bytes.specs.declared.answers.Refused.{Refused}
use Rattle.vd_composites.specs.Composites.{Value}
use Rattle.vd_environments.specs.Environments.{Env}
use Rattle.vd_given_choices.proofs.RefusalLemmas.{more_refused}
use Rattle.vd_given_choices.specs.Choices.{AreChoices, IsChoice}
use Rattle.vd_given_choices.specs.declared.choices.Choice.{Choice}
use Rattle.vd_walks.proofs.OrderLaws.{lesser_right}
use Rattle.vd_walks.specs.Least.{least_of, lesser}
use Rattle.vd_meaning.specs.Facets.{Comparison}
use Rattle.vd_value_rules.specs.Choices.{Given, any_matches, matching, values_of_choice, values_or_none}
use Rattle.vd_value_rules.specs.Judging.{refused_if}
use Rattle.vd_values.specs.declared.scalar.Scalar.{Scalar}

-- what is given by the choice at an index
record GivenAt (gs : List Given) (j : ℕ) (x : Choice) : Type 0 where
  given : Given
  is : IsChoice x given
  front : drop j gs ≡ given ∷ drop (suc j) gs

given_at : (xs : List Choice) (gs : List Given) (j : ℕ) (x : Choice) → AreChoices xs gs → j < length xs → x ≡ get_or xs j x → GivenAt gs j x
given_at [] gs j x are within is = absurd (omega (arith, within))
given_at (y ∷ xs) [] j x are within is = absurd are
given_at (y ∷ xs) (g ∷ gs) zero x are within is = record { given = g; is = subst (λ z. IsChoice z g) (sym is) are.0; front = refl }
given_at (y ∷ xs) (g ∷ gs) (suc j) x are within is =
    let behind = given_at xs gs j x are.1 (omega (arith, within)) is in record { given = behind.given; is = behind.is; front = behind.front }

same_length : (xs : List Choice) (gs : List Given) → AreChoices xs gs → length gs ≡ length xs
same_length [] [] are = refl
same_length [] (g ∷ gs) are = absurd are
same_length (x ∷ xs) [] are = absurd are
same_length (x ∷ xs) (g ∷ gs) are = ap suc (same_length xs gs are.1)

module _ (c : Comparison) (e : Env) (xs : List Choice) (gs : List Given) (are : AreChoices xs gs) (j : ℕ) (found : Option Refused) (before : List (Value Scalar)) where
  pub choice_more : (x : Choice) (vs now : List (Value Scalar)) (matches : Bool) (here found_now all : Option Refused) → j < length xs → x ≡ get_or xs j x
      → ((g : Given) → IsChoice x g → vs ≡ values_or_none (values_of_choice e g)) → matches ≡ any_matches c before vs → now ≡ before ++ vs
      → here ≡ least_of (refused_if matches x.place 404) → found_now ≡ lesser found here → lesser found (least_of (matching c e before (drop j gs))) ≡ all
      → lesser found_now (least_of (matching c e now (drop (j + 1) gs))) ≡ all
  choice_more x vs now matches here found_now all within is values matched joined here_is found_is so_far =
      let at = given_at xs gs j x are within is in
      let g = at.given in
      let own : vs ≡ values_or_none (values_of_choice e g) = values g at.is in
      let rest = drop (suc j) gs in
      let refused : here ≡ least_of (refused_if (any_matches c before (values_or_none (values_of_choice e g))) g.place 404) =
      here_is ∙ ap (λ p. least_of (refused_if matches p 404)) (sym at.is.place) ∙ ap (λ b. least_of (refused_if b g.place 404)) (matched ∙ ap (any_matches c before) own) in
      ap (λ k. lesser found_now (least_of (matching c e now (drop k gs)))) (add-one j)
      ∙ ap (λ o. lesser o (least_of (matching c e now rest))) found_is
      ∙ ap (λ l. lesser (lesser found here) (least_of (matching c e l rest))) (joined ∙ ap (λ l. before ++ l) own)
      ∙ more_refused found here (refused_if (any_matches c before (values_or_none (values_of_choice e g))) g.place 404)
      (matching c e (before ++ values_or_none (values_of_choice e g)) rest) refused
      ∙ ap (λ l. lesser found (least_of (matching c e before l))) (sym at.front) ∙ so_far

  pub choice_end : length xs ≤ j → lesser found (least_of (matching c e before (drop j gs))) ≡ least_of (matching c e [] gs) → found ≡ least_of (matching c e [] gs)
  choice_end past so_far =
      sym (lesser_right found)
      ∙ ap (λ l. lesser found (least_of (matching c e before l))) (sym (drop_all j gs (subst (λ n. n ≤ j) (sym (same_length xs gs are)) past))) ∙ so_far
