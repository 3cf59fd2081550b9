-- Names as actuals.
use Rattle.std.proofs.Common.{◌≡◌, ◌∙◌, List, ap, if◌then◌else◌, refl, sym, ℕ}
use Rattle.std.specs.Prelude.{None, Option, Some}
use Rattle.std.specs.Option.{option_or}
use Rattle.vd_bytes.specs.declared.places.Place.{Place}
use Rattle.vd_environments.specs.Environments.{Env}
use Rattle.vd_forest.specs.Forest.{Forest, more, nothing}
use Rattle.vd_forms.specs.declared.form.Form.{Form}
use Rattle.vd_forms.specs.declared.form.Form.TheVariants as form
use Rattle.vd_meaning.specs.Brackets.{or_else}
use Rattle.vd_port_associations.specs.Associations.{signal_named_if}
use Rattle.vd_resolved.specs.declared.node.Resolved.{Resolved}
use Rattle.vd_value_rules.specs.Actuals.{ActualSort, AnExpression, NoActual, actual_sort, is_name_form, is_open_form, named_signal, named_signal_of, sort_of_name}
use Rattle.vd_value_rules.specs.Choices.{first_meaning}
use Rattle.vd_value_rules.specs.Designs.{Design}
use Rattle.vd_value_rules.specs.Reaching.{nothing_reached, reached}

pub or_is : (a b : Option ℕ) → option_or a b ≡ or_else a b
or_is None b = refl
or_is (Some n) b = refl

module _ (d : Design) (e : Env) (f : Forest Resolved) (n : Resolved) (text : List ℕ) (place : Place) (parts next : Forest Resolved) (opened : f ≡ more n text place parts next) where
  pub signal_by_name : n.form ≡ form.Name → signal_named_if d place (reached d parts) ((first_meaning d f).name.is_whole e) ≡ named_signal d e f
  signal_by_name named =
      ap (λ g. signal_named_if d place (reached d parts) ((first_meaning d g).name.is_whole e)) opened
      ∙ ap (λ g. named_signal_of g d e (first_meaning d (more n text place parts nothing)) place parts) (sym named)
      ∙ ap (λ g. named_signal d e g) (sym opened)

  abbrev sorted : Form → ActualSort
  sorted g = if is_open_form g then NoActual else (if is_name_form g then sort_of_name d e (more n text place parts nothing) place parts else AnExpression place nothing_reached)

  pub actual_by_name : n.form ≡ form.Name → sort_of_name d e f place parts ≡ actual_sort d e f
  actual_by_name named = ap (λ g. sort_of_name d e g place parts) opened ∙ ap sorted (sym named) ∙ ap (λ g. actual_sort d e g) (sym opened)

  pub actual_by_operator : n.form ≡ form.OperatorName → sort_of_name d e f place parts ≡ actual_sort d e f
  actual_by_operator named = ap (λ g. sort_of_name d e g place parts) opened ∙ ap sorted (sym named) ∙ ap (λ g. actual_sort d e g) (sym opened)
