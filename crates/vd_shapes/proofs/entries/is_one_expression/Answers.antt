use Rattle.std.proofs.Common.{sym, ap, ◌∙◌}
use Rattle.vd_forms.specs.Validity.{is_one_expression}
use Rattle.vd_shapes.proofs.entries.is_one_expression.Goals as goal

pub returns-in-Some : goal.returns-in-Some
returns-in-Some c =
    c.is_alone.ensures c.in-Some.first.text.now c.in-Some.first.place c.in-Some.first.parts ∙ ap is_one_expression (sym c.in-Some.ensures ∙ c.cursor.ensures)
