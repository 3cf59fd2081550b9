-- The resolved design of trees and of what they declare, where what the header of a body declares stands for what the header of the function's
-- declaration declares.
use Rattle.std.specs.Prelude.{map}
use Rattle.vd_forest.specs.Forest.{Forest}
use Rattle.vd_name_rows.specs.Designs.{Design}
use Rattle.vd_naming.specs.Settled.{settled_declaration, settled_node}
use Rattle.vd_resolved.specs.Trees.{ResolvedTree}
use Rattle.vd_resolved.specs.declared.node.Resolved.{Resolved}
use Rattle.vd_rewriting.specs.Forms.{with_forms}

abbrev pub settled_from : Design → Forest Resolved → ResolvedTree
settled_from d trees = record {
  units = with_forms (settled_node d.taken) trees;
  declarations = map (λ e. settled_declaration d.taken e.declaration) d.scopes.entered;
}
