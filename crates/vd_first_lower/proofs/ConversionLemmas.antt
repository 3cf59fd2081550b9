-- What is written for the tree of an accepted text is its conversion.
use Rattle.std.proofs.Common.{ap, ◌∙◌}
use Rattle.vd_forest.specs.Forest.{Forest}
use Rattle.vd_first_trees.specs.declared.form.Form.{Form}
use Rattle.vd_trees.specs.declared.revision.Revision.TheVariants.{V2019}
use Rattle.vd_first_lex.specs.declared.selected.Selected.{Selected}
use Rattle.vd_first_print.specs.Writing.{design_tokens}
use Rattle.vd_first_print.specs.Layout.{layout_of}
use Rattle.vd_first_names.specs.Maps.{design_rows}
use Rattle.vd_first_lower.specs.declared.conversion.Converted.{Converted}
use Rattle.vd_first_passes.specs.Lowering.{lowered}
use Rattle.vd_first_passes.specs.Flavour.{flavoured}
use Rattle.vd_first_accept.specs.Acceptance.{IsAccepted}
use Rattle.vd_first_lower.specs.Conversions.{IsConverted}
use Rattle.vd_first_lower.specs.Steps.{IsWritten}

pub converts : (s : Selected) (units : Forest Form) (c : Converted) → IsAccepted V2019 s units → IsWritten units c → IsConverted s c.design c.map.rows c.units
converts s units c a w =
    record {
      tokens = a.tokens;
      has_tokens = a.has_tokens;
      file = a.file;
      read = a.read;
      known = a.known;
      design_is = w.design_is ∙ ap (λ u. layout_of (design_tokens (flavoured (lowered u)))) a.units_are;
      rows_are = w.rows_are ∙ ap design_rows a.units_are;
      units_are = w.units_are;
    }
