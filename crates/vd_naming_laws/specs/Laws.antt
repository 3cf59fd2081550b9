-- Laws of the names of a design. Each holds whatever scopes are given.
use Rattle.std.specs.Prelude.{◌≡◌, []}
use Rattle.vd_forest.specs.Forest.{Forest}
use Rattle.vd_forms.specs.declared.form.Form.{Form}
use Rattle.vd_forms.specs.Validity.{IsDesign}
use Rattle.vd_regions.specs.Scopes.{Scopes}
use Rattle.vd_resolved.specs.Trees.{syntax_of}
use Rattle.vd_trees.specs.declared.revision.Revision.{Revision}
use Rattle.vd_trees.specs.declared.revision.Revision.TheVariants.{V1993}
use Rattle.vd_name_rows.specs.declared.steps.Step.TheVariants as step
use Rattle.vd_name_rows.specs.Designs.{Outcome}
use Rattle.vd_naming.specs.Naming.{names_from}
use Rattle.vd_naming.specs.Settled.{resolved_tree}
use Rattle.vd_naming_laws.specs.Keeping.{Keeps}

-- resolving names keeps the syntax, but for operators that are implied over conditions
abbrev pub NamesKeepSyntax : Type 0
NamesKeepSyntax = (s : Scopes) (r : Revision) (units : Forest Form) → IsDesign r units → Keeps r [] step.Look units (syntax_of (names_from s r units).tree)

-- in revision 1993 none is
abbrev pub NamesOf1993KeepSyntax : Type 0
NamesOf1993KeepSyntax = (s : Scopes) (units : Forest Form) → IsDesign V1993 units → syntax_of (names_from s V1993 units).tree ≡ units

-- settling changes declarations and types alone
abbrev pub SettlingKeepsSyntax : Type 0
SettlingKeepsSyntax = (o : Outcome) → syntax_of (resolved_tree o).units ≡ syntax_of o.tree

-- so a valid design is resolved to a valid tree of its revision
abbrev pub NamesGiveDesigns : Type 0
NamesGiveDesigns = (s : Scopes) (r : Revision) (units : Forest Form) → IsDesign r units → IsDesign r (syntax_of (resolved_tree (names_from s r units)).units)
