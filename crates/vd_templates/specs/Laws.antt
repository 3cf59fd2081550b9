-- What the tokens of a design are.
use Rattle.std.specs.List.{AllByRecursion}
use Rattle.vd_trees.specs.declared.revision.Revision.TheVariants.{V1993}
use Rattle.vd_tokens.specs.Spellings.{IsPossible, EndsOnce}
use Rattle.vd_forest.specs.Forest.{Forest}
use Rattle.vd_forms.specs.declared.form.Form.{Form}
use Rattle.vd_forms.specs.Validity.{IsDesign}
use Rattle.vd_templates.specs.Templates.{tokens_of}

-- a text of revision 1993 can have each of them
abbrev pub ArePossible : Type 0
ArePossible = (units : Forest Form) → IsDesign V1993 units → AllByRecursion (IsPossible V1993) (tokens_of units)

-- and the last one alone is the end
abbrev pub EndOnce : Type 0
EndOnce = (units : Forest Form) → IsDesign V1993 units → EndsOnce (tokens_of units)
