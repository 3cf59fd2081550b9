-- A run of what is written for a file answers what a run of the file answers.
use Rattle.std.specs.Prelude.{ℕ, List}
use Rattle.vd_forest.specs.Forest.{Forest}
use Rattle.vd_first_trees.specs.declared.form.Form.{Form}
use Rattle.vd_trees.specs.declared.revision.Revision.TheVariants.{V2019, V1993}
use Rattle.vd_trees.specs.declared.rows.Row.{Row}
use Rattle.vd_first_lex.specs.declared.selected.Selected.{Selected}
use Rattle.vd_first_lex.specs.Lexings.{plain_of}
use Rattle.vd_first_accept.specs.Acceptance.{IsAccepted}
use Rattle.vd_first_lower.specs.Conversions.{converted, IsConversion}
use Rattle.vd_first_tracing.specs.Tracings.{Tracing, IsTracing}

-- For each file that is converted, and whatever top and number of cycles are asked for: where the bytes of the design are within the
-- limits on 1993 text, a run of them has the answer that a run of the file has. So the texts of both traces are equal, and both stop or
-- neither does.
abbrev pub RunsAreEqual : Type 0
RunsAreEqual =
    (s : Selected) (design : List ℕ) (rows : List Row) (units : ℕ) → IsConversion s (converted design rows units)
    → (written : Forest Form) → IsAccepted V1993 (plain_of 0 design) written
    → (name : List ℕ) (cycles : ℕ) (answer : Tracing) → IsTracing V2019 s name cycles answer → IsTracing V1993 (plain_of 0 design) name cycles answer
