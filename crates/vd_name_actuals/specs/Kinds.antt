-- What an actual comes to that isn't `open`, and what is refused of one that has to be a mark.
use Rattle.std.specs.Prelude.{ℕ, Option}
use Rattle.vd_bytes.specs.declared.answers.Refused.{Refused}
use Rattle.vd_bytes.specs.declared.places.Place.{Place}
use Rattle.vd_declarations.specs.declared.classes.Class.{Class}
use Rattle.vd_declarations.specs.declared.classes.Class.TheVariants as class
use Rattle.vd_forest.specs.Forest.{Forest}
use Rattle.vd_forms.specs.declared.form.Form.{Form}
use Rattle.vd_predefined.specs.declared.numbers.TheConstants.{BOOLEAN}
use Rattle.vd_refusals.specs.Refusals.{first_refusal}
use Rattle.vd_states.specs.declared.states.Want.TheVariants as want
use Rattle.vd_name_rows.specs.Designs.{At, Design, Outcome, sight}
use Rattle.vd_naming.specs.Pieces.{refused_pieces}
use Rattle.vd_naming.specs.Actuals.{Known, type_outcome, function_outcome, constant_outcome, no_type}

abbrev pub by_class : Class → At → Design → Known → ℕ → Place → Forest Form → Outcome
by_class class.GenericType at d k g place tree = type_outcome at d place tree
by_class class.GenericFunction at d k g place tree = function_outcome at d k g place tree
by_class _ at d k g place tree = constant_outcome at d k g place tree

abbrev pub no_type_at : At → Design → Place → Forest Form → Option Refused
no_type_at at d place tree = no_type place (first_refusal (sight at d) (want.Mark BOOLEAN) tree)

abbrev pub pieces_at : At → Design → Forest Form → Option Refused
pieces_at at d tree = refused_pieces (sight at d) d at.region tree
