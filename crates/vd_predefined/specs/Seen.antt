-- The tables as the code has them, with references to texts and lists.
use Rattle.std.specs.Prelude.{map}
use Rattle.vd_predefined.specs.declared.operators.Operator.{Operator}
use Rattle.vd_predefined.specs.declared.rows.Line.{Line}
use Rattle.vd_predefined.specs.declared.rows.Line.TheVariants as code
use Rattle.vd_predefined.specs.declared.rows.Row.{Row}
use Rattle.vd_predefined.specs.Lines.{OperatorLine, GivenRow}
use Rattle.vd_predefined.specs.Lines.{GivenLine}
use Rattle.vd_predefined.specs.Lines.{enumeration, integer, physical, subtype, array, operators, function}

abbrev pub seen_operator : Operator → OperatorLine
seen_operator o = record { name = o.name.now; left = o.left; right = o.right; result = o.result }

abbrev pub seen_line : Line → GivenLine
seen_line (code.Enumeration name literals) = enumeration name.now (map (λ l. l.now) literals.now)
seen_line (code.Integer name) = integer name.now
seen_line (code.Physical name units) = physical name.now (map (λ u. u.now) units.now)
seen_line (code.Subtype name mark base) = subtype name.now mark base
seen_line (code.Array name element element_mark) = array name.now element element_mark
seen_line (code.Operators origin own element groups) = operators origin own element groups.now
seen_line (code.Function origin name parameter own result) = function origin name.now parameter.now own result

abbrev pub seen_row : Row → GivenRow
seen_row r = record { revisions = r.0; line = seen_line r.1 }
