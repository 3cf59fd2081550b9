-- How the logic stores what the tables are made of, so that it can tell two of them apart.
use Rattle.std.specs.Prelude.{refl}
use Rattle.std.specs.Coded.{Coded, code_by, coded×, coded_list}
use Rattle.vd_declarations.specs.contracts.declarations.Declaration as declared
use Rattle.vd_forest.specs.Code.{coded_forest}
use Rattle.vd_port_modes.specs.Source.{Source}
use Rattle.vd_resolved.specs.Codes.{coded_tree}
use Rattle.vd_resolved.specs.Trees.{ResolvedTree}
use Rattle.vd_resolved.specs.contracts.node.Resolved as nodes
use Rattle.vd_trees.specs.contracts.revision.Revision as revisions
use Rattle.vd_trees.specs.declared.revision.Revision.{Revision}

abbrev pub coded_source : Coded Source
coded_source =
    code_by (Revision × ResolvedTree) (coded× revisions.the_row.coded (coded_tree (coded_forest nodes.the_row.coded) (coded_list declared.the_row.coded)))
    (λ s. (s.revision, s.tree)) (λ p. record { revision = p.0; tree = p.1 }) (λ _. refl)
