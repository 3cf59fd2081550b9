-- How the logic stores resolved trees, so that it can tell two of them apart.
use Rattle.std.specs.Prelude.{List, refl}
use Rattle.std.specs.Coded.{Coded, code_by, coded×}
use Rattle.vd_declarations.specs.declared.declarations.Declaration.{Declaration}
use Rattle.vd_forest.specs.Forest.{Forest}
use Rattle.vd_resolved.specs.declared.node.Resolved.{Resolved}
use Rattle.vd_resolved.specs.Trees.{ResolvedTree, Building}

abbrev pub coded_tree : Coded (Forest Resolved) → Coded (List Declaration) → Coded ResolvedTree
coded_tree units declarations =
    code_by (Forest Resolved × List Declaration) (coded× units declarations) (λ t. (t.units, t.declarations))
    (λ p. record { units = p.0; declarations = p.1 }) (λ _. refl)

abbrev pub coded_building : Coded (List (Forest Resolved)) → Coded (List Declaration) → Coded Building
coded_building trees declarations =
    code_by (List (Forest Resolved) × List Declaration) (coded× trees declarations) (λ b. (b.trees, b.declarations))
    (λ p. record { trees = p.0; declarations = p.1 }) (λ _. refl)
