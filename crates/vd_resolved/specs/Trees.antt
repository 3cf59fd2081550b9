-- Resolved trees: forests whose nodes carry declarations and types, and lists of declarations.
use Rattle.std.specs.Prelude.{ℕ, ◌-◌, List, [], ◌∷◌, ◌++◌, length, take, drop}
use Rattle.vd_bytes.specs.declared.places.Place.{Place}
use Rattle.vd_declarations.specs.declared.declarations.Declaration.{Declaration}
use Rattle.vd_forest.specs.Forest.{Forest, nothing, more, with_next}
use Rattle.vd_forms.specs.declared.form.Form.{Form}
use Rattle.vd_resolved.specs.declared.node.Resolved.{Resolved}

-- design units and the declarations that their nodes name
pub record ResolvedTree : Type 0 where
  pub units : Forest Resolved
  pub declarations : List Declaration

-- what a builder has: trees, the one that was made last at the end, and declarations
pub record Building : Type 0 where
  pub trees : List (Forest Resolved)
  pub declarations : List Declaration

-- some trees as one forest
abbrev pub side_by_side : List (Forest Resolved) → Forest Resolved
side_by_side [] = nothing
side_by_side (tree ∷ trees) = with_next tree (side_by_side trees)

-- the last ones, as many as `count` says, become the parts of a new tree
abbrev pub with_parent : List (Forest Resolved) → Resolved → List ℕ → Place → ℕ → List (Forest Resolved)
with_parent trees node text place count =
    take (length trees - count) trees ++ more node text place (side_by_side (drop (length trees - count) trees)) nothing ∷ []

-- the tree that a builder has made
abbrev pub finished : Building → ResolvedTree
finished b = record { units = side_by_side b.trees; declarations = b.declarations }

-- the syntax tree: what stands at the nodes besides declarations and types
abbrev pub syntax_of : Forest Resolved → Forest Form
syntax_of nothing = nothing
syntax_of (more node text place parts next) = more node.form text place (syntax_of parts) (syntax_of next)
