-- What is known inside a tree whose parts are walked, and what is refused of the subtype behind a view.
use Rattle.std.specs.Prelude.{ℕ, List, Option, None, if◌then◌else◌}
use Rattle.vd_bytes.specs.declared.answers.Refused.{Refused}
use Rattle.vd_bytes.specs.declared.places.Place.{Place}
use Rattle.vd_forest.specs.Forest.{Forest}
use Rattle.vd_forms.specs.declared.form.Form.{Form}
use Rattle.vd_forms.specs.declared.form.Form.TheVariants as form
use Rattle.vd_name_rows.specs.Designs.{At, Design, Outcome}
use Rattle.vd_name_rows.specs.Members.{next_number}
use Rattle.vd_name_rows.specs.Refusals.{broken_if}
use Rattle.vd_name_rows.specs.Rows.{row_of}
use Rattle.vd_name_rows.specs.declared.steps.Step.{Step}
use Rattle.vd_name_rows.specs.declared.steps.Step.TheVariants as step
use Rattle.vd_naming.specs.Endings.{Ended}
use Rattle.vd_naming.specs.Naming.{Kept}
use Rattle.vd_naming.specs.Openings.{Opened, opened, opens, with_steps}
use Rattle.vd_naming.specs.Views.{are_other}
use Rattle.vd_name_resolution.specs.Kinds.{is_within}

abbrev pub opened_by : Step → Form → At → Design → Place → Forest Form → Opened
opened_by s f at d place parts = if is_within s then with_steps (row_of f) (next_number d) (opens at d) else opened f at d place parts

abbrev pub of_subtype : Form → At → Option ℕ → Option Refused
of_subtype form.Absent outer mark = None
of_subtype _ outer mark = broken_if (are_other outer.mark mark) 308 outer.word_place

abbrev pub behind_view : Step → Form → At → Option ℕ → Option Refused
behind_view step.ViewSubtype f outer mark = of_subtype f outer mark
behind_view _ f outer mark = None

-- a node at the end of its parts
abbrev pub ended_at : Kept → Form → List ℕ → Place → Forest Form → Outcome → Ended
ended_at k f text place parts inner =
    record { form = f; text = text; place = place; parts = parts; outer = k.outer; inside = k.inside; inner = inner }
