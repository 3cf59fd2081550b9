-- Operands, one after the other.
use Rattle.std.proofs.Common.{◌≡◌, ◌++◌, ◌∙◌, Bool, List, Option, ap, ap₂, refl, sym, ℕ}
use Rattle.std.proofs.lemmas.List.{append-nil}
use Rattle.vd_bound_rules.proofs.IndefiniteLemmas.{differing, differing_is, first_alone, first_differs, first_is, no_more, none_differing, one_more}
use Rattle.vd_bytes.specs.declared.answers.Refused.{Refused}
use Rattle.vd_bytes.specs.declared.places.Place.{Place}
use Rattle.vd_forest.specs.Forest.{Forest, more, next_of, nothing}
use Rattle.vd_forms.specs.declared.form.Form.{Form}
use Rattle.vd_forms.specs.declared.form.Form.TheVariants as form
use Rattle.vd_walks.proofs.LeastLaws.{least_of_append}
use Rattle.vd_walks.proofs.OrderLaws.{lesser_brackets}
use Rattle.vd_walks.specs.Least.{least_of, lesser}
use Rattle.vd_resolved.specs.declared.node.Resolved.{Resolved}
use Rattle.vd_value_rules.specs.Bounds.{argument_of, indefinite, indefinite_arguments, is_indefinite}
use Rattle.vd_value_rules.specs.Designs.{Design}
use Rattle.vd_value_rules.specs.Judging.{refused_if}
use Rattle.vd_value_rules.specs.Lengths.{shapings}
use Rattle.vd_value_rules.specs.Standings.{State}

-- an argument is the whole tree, or none of the trees behind it
argument_by : (f : Form) (g : Forest Resolved → List Refused) (a b parts : Forest Resolved) → g a ≡ g b → g (argument_of f a parts) ≡ g (argument_of f b parts)
argument_by form.Association g a b parts same = refl
argument_by _ g a b parts same = same

module _ (d : Design) (s : State) where
  alone : (n : Resolved) (text : List ℕ) (place : Place) (parts next : Forest Resolved)
      → differing 1 d s (more n text place parts next) ≡ refused_if (first_differs d s n (more n text place parts next) parts) place 410
  alone n text place parts next =
      one_more d s 0 n text place parts next
      ∙ ap (λ rs. refused_if (first_differs d s n (more n text place parts nothing) parts) place 410 ++ rs) (no_more d s next)
      ∙ append-nil (refused_if (first_differs d s n (more n text place parts nothing) parts) place 410)
      ∙ ap (λ b. refused_if b place 410) (sym (first_alone d s n text place parts next))

  pub one_operand_is : (f : Forest Resolved) (n : Resolved) (text : List ℕ) (place : Place) (parts next : Forest Resolved) (b : Bool) (o : Option Refused)
      → f ≡ more n text place parts next → b ≡ is_indefinite d s n (shapings d s.known f) parts → o ≡ least_of (refused_if b place 410)
      → o ≡ least_of (indefinite 1 d s f)
  one_operand_is f n text place parts next b o is found refused =
      refused ∙ ap (λ c. least_of (refused_if c place 410)) (found ∙ first_is d s n f parts ∙ ap (λ g. first_differs d s n g parts) is)
      ∙ ap least_of (sym (alone n text place parts next) ∙ ap (differing 1 d s) (sym is) ∙ differing_is d s 1 f)

  two : (f : Forest Resolved) → differing 2 d s f ≡ differing 1 d s f ++ differing 1 d s (next_of f)
  two nothing = none_differing d s 2 ∙ sym (ap₂ (λ xs ys. xs ++ ys) (none_differing d s 1) (none_differing d s 1))
  two (more n text place parts next) =
      one_more d s 1 n text place parts next
      ∙ ap (λ b. refused_if b place 410 ++ differing 1 d s next) (sym (first_alone d s n text place parts next))
      ∙ ap (λ rs. rs ++ differing 1 d s next) (sym (alone n text place parts next))

  pub two_operands_are : (f : Forest Resolved) (g : Forest Resolved) (a b : Option Refused) → g ≡ next_of f → a ≡ least_of (indefinite 1 d s f) → b ≡ least_of (indefinite 1 d s g)
      → lesser a b ≡ least_of (indefinite 2 d s f)
  two_operands_are f g a b is one other =
      ap₂ lesser (one ∙ ap least_of (sym (differing_is d s 1 f))) (other ∙ ap least_of (sym (differing_is d s 1 g)) ∙ ap (λ h. least_of (differing 1 d s h)) is)
      ∙ sym (ap least_of (two f) ∙ least_of_append (differing 1 d s f) (differing 1 d s (next_of f))) ∙ ap least_of (differing_is d s 2 f)

  same_alone : (n : Resolved) (text : List ℕ) (place : Place) (parts next : Forest Resolved)
      → differing 1 d s (more n text place parts next) ≡ differing 1 d s (more n text place parts nothing)
  same_alone n text place parts next =
      alone n text place parts next ∙ ap (λ b. refused_if b place 410) (first_alone d s n text place parts next) ∙ sym (alone n text place parts nothing)

  arguments_more : (n : Resolved) (text : List ℕ) (place : Place) (parts next : Forest Resolved)
      → indefinite_arguments d s (more n text place parts next)
      ≡ differing 1 d s (argument_of n.form (more n text place parts nothing) parts) ++ indefinite_arguments d s next
  arguments_more n text place parts next =
      ap (λ rs. rs ++ indefinite_arguments d s next) (sym (differing_is d s 1 (argument_of n.form (more n text place parts nothing) parts)))

  pub argument_more : (f argument : Forest Resolved) (n : Resolved) (text : List ℕ) (place : Place) (parts next : Forest Resolved) (found own all : Option Refused)
      → f ≡ more n text place parts next → argument ≡ argument_of n.form f parts → own ≡ least_of (indefinite 1 d s argument)
      → all ≡ lesser found (least_of (indefinite_arguments d s f)) → all ≡ lesser (lesser found own) (least_of (indefinite_arguments d s next))
  argument_more f argument n text place parts next found own all is argues one so =
      let here = differing 1 d s (argument_of n.form (more n text place parts nothing) parts) in
      let behind = indefinite_arguments d s next in
      let own_is : own ≡ least_of here =
      one ∙ ap least_of (sym (differing_is d s 1 argument)) ∙ ap (λ g. least_of (differing 1 d s g)) (argues ∙ ap (λ g. argument_of n.form g parts) is)
      ∙ ap least_of (argument_by n.form (differing 1 d s) (more n text place parts next) (more n text place parts nothing) parts (same_alone n text place parts next)) in
      so ∙ ap (λ g. lesser found (least_of (indefinite_arguments d s g))) is
      ∙ ap (lesser found) (ap least_of (arguments_more n text place parts next) ∙ least_of_append here behind ∙ ap (λ o. lesser o (least_of behind)) (sym own_is))
      ∙ sym (lesser_brackets found own (least_of behind))
