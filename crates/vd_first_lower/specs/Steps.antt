-- What the steps of a conversion give.
use Rattle.std.specs.Prelude.{◌≡◌}
use Rattle.vd_forest.specs.Forest.{Forest}
use Rattle.vd_first_trees.specs.declared.form.Form.{Form}
use Rattle.vd_first_lex.specs.declared.selected.Selected.{Selected}
use Rattle.vd_first_lower.specs.declared.conversion.Converted.{Converted}
use Rattle.vd_first_print.specs.Writing.{design_tokens}
use Rattle.vd_first_print.specs.Layout.{layout_of}
use Rattle.vd_first_names.specs.Maps.{design_rows}
use Rattle.vd_first_passes.specs.Lowering.{lowered}
use Rattle.vd_first_passes.specs.Flavour.{flavoured}
use Rattle.vd_first_lower.specs.Conversions.{Answer, IsConversion}

-- what is written for the design units of a tree
pub record IsWritten (units : Forest Form) (c : Converted) : Type 0 where
  pub design_is : c.design ≡ layout_of (design_tokens (flavoured (lowered units)))
  pub rows_are : c.map.rows ≡ design_rows units
  pub units_are : c.units ≡ 2

-- two answers for a file are equal
abbrev pub HasOneConversion : Type 0
HasOneConversion = (s : Selected) (a b : Answer) → IsConversion s a → IsConversion s b → a ≡ b
