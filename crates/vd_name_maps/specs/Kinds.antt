-- What an element comes to that is for no generic, and one that is for a generic.
use Rattle.std.specs.Prelude.{ℕ, List}
use Rattle.vd_bytes.specs.declared.places.Place.{Place}
use Rattle.vd_forest.specs.Forest.{Forest}
use Rattle.vd_forms.specs.declared.form.Form.{Form}
use Rattle.vd_visible.specs.Sights.{class_of}
use Rattle.vd_name_rows.specs.Designs.{At, Design, Outcome, gives}
use Rattle.vd_name_rows.specs.Refusals.{lesser, broken}
use Rattle.vd_naming.specs.Expressions.{unresolved}
use Rattle.vd_naming.specs.Statements.{alone}
use Rattle.vd_naming.specs.Ports.{names_of_expression}
use Rattle.vd_naming.specs.Actuals.{Known, outcome_for}
use Rattle.vd_naming.specs.Generics.{in_element}

abbrev pub for_no_generic : At → Design → Form → List ℕ → Place → Forest Form → Outcome
for_no_generic at d f text place parts =
    gives at d (unresolved (alone f text place parts)) (lesser (broken 309 place) (names_of_expression at d (alone f text place parts)))

abbrev pub for_one_generic : ℕ → At → Design → Known → Forest Form → Form → List ℕ → Place → Forest Form → Outcome
for_one_generic g at d k actual f text place parts = in_element g f place parts (outcome_for (class_of k.sight g) at d k g place actual)
