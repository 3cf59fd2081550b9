-- The last of some trees.
use Rattle.std.proofs.Common.{◌≡◌, ℕ, List, Option, None, refl}
use Rattle.vd_bytes.specs.declared.places.Place.{Place}
use Rattle.vd_forest.specs.Forest.{Forest, nothing, more}
use Rattle.vd_resolved.specs.declared.node.Resolved.{Resolved}
use Rattle.vd_naming.specs.Expressions.{last_declaration}

-- behind one with this declaration
abbrev pub last_behind : Option ℕ → Forest Resolved → Option ℕ
last_behind k nothing = k
last_behind k (more node text place parts next) = last_behind node.declaration next

behind_some : (k : Option ℕ) (node : Resolved) (text : List ℕ) (place : Place) (parts next : Forest Resolved)
    → last_behind k (more node text place parts next) ≡ last_declaration (more node text place parts next)
behind_some k node text place parts nothing = refl
behind_some k node text place parts (more node' text' place' parts' next) = behind_some node.declaration node' text' place' parts' next

pub last_is : (trees : Forest Resolved) → last_behind None trees ≡ last_declaration trees
last_is nothing = refl
last_is (more node text place parts next) = behind_some None node text place parts next
