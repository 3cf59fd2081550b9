-- Choices of alternatives.
use Rattle.std.proofs.Common.{◌≡◌, ◌++◌, List, [], subst, sym, ℕ}
use Rattle.std.proofs.lemmas.List.{append_assoc}
use Rattle.std.specs.Global.{Global}
use Rattle.std.specs.Prelude.{Err, IfOk, Ok, Result, Vec}
use Rattle.vd_bytes.specs.declared.places.Place.{Place}
use Rattle.vd_environments.specs.Environments.{Env}
use Rattle.vd_forest.specs.Forest.{Forest, more, nothing, skipped}
use Rattle.vd_given_choices.proofs.ChoiceLemmas.{joined, none_behind}
use Rattle.vd_given_choices.specs.Choices.{AreChoices}
use Rattle.vd_given_choices.specs.declared.choices.Choice.{Choice}
use Rattle.vd_resolved.specs.declared.node.Resolved.{Resolved}
use Rattle.vd_value_rules.specs.Choices.{all_choices, choices_given, choices_in, choices_of_form}
use Rattle.vd_value_rules.specs.Designs.{Design}
use Rattle.vd_forms.specs.declared.form.Form.TheVariants as form

-- what is made of the alternatives so far
abbrev pub IsMade : Design → Env → ℕ → Forest Resolved → Forest Resolved → List Choice → Type 0
IsMade d e number alternatives rest xs =
    (ys : List Choice) → AreChoices ys (all_choices d e number rest) → AreChoices (xs ++ ys) (all_choices d e number alternatives)

module _ (d : Design) (e : Env) (number : ℕ) (alternatives : Forest Resolved) where
  made_of : (n : Resolved) (text : List ℕ) (place : Place) (parts next : Forest Resolved) (xs more_xs : List Choice)
      → AreChoices more_xs (choices_in d e (skipped number parts)) → IsMade d e number alternatives (more n text place parts next) xs
      → IsMade d e number alternatives next (xs ++ more_xs)
  made_of n text place parts next xs more_xs are made = λ ys those.
      subst (λ l. AreChoices l (all_choices d e number alternatives)) (sym (append_assoc xs more_xs ys))
      (made (more_xs ++ ys) (joined more_xs ys (choices_in d e (skipped number parts)) (all_choices d e number next) are those))

  pub made_more : (rest : Forest Resolved) (n : Resolved) (text : List ℕ) (place : Place) (parts next tree : Forest Resolved) (xs more_xs now : List Choice)
      → rest ≡ more n text place parts next → tree ≡ skipped number parts → now ≡ xs ++ more_xs
      → AreChoices more_xs (choices_in d e tree) → IsMade d e number alternatives rest xs → IsMade d e number alternatives next now
  made_more rest n text place parts next tree xs more_xs now is skips pushed are made =
      subst (λ l. IsMade d e number alternatives next l) (sym pushed)
      (made_of n text place parts next xs more_xs (subst (λ f. AreChoices more_xs (choices_in d e f)) skips are)
      (subst (λ f. IsMade d e number alternatives f xs) is made))

  pub made_all : (rest : Forest Resolved) (xs : List Choice) → rest ≡ nothing → IsMade d e number alternatives rest xs
      → AreChoices xs (all_choices d e number alternatives)
  made_all rest xs none made =
      subst (λ l. AreChoices l (all_choices d e number alternatives)) (none_behind xs) (subst (λ f. IsMade d e number alternatives f xs) none made [] tt)

-- the choices of one alternative
pub choices_there : {E : Type 0} (d : Design) (e : Env) (f : Forest Resolved) (n : Resolved) (text : List ℕ) (place : Place) (parts next : Forest Resolved)
    (r : Result (Vec Choice Global) E) → f ≡ more n text place parts next → n.form ≡ form.Choices → IfOk r (λ xs. AreChoices xs.items (choices_given d e parts))
    → IfOk r (λ xs. AreChoices xs.items (choices_in d e f))
choices_there d e f n text place parts next (Ok xs) is formed are =
    subst (λ g. AreChoices xs.items (choices_in d e g)) (sym is) (subst (λ g. AreChoices xs.items (choices_of_form g d e parts)) (sym formed) are)
choices_there d e f n text place parts next (Err h) is formed are = tt
