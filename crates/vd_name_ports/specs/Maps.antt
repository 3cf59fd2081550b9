-- The elements of a port map so far, as they are seen with the store that is made: its trees are collected in the other order.
use Rattle.std.specs.Prelude.{◌≡◌, ◌≤◌, ℕ, Bool, ◌&&◌, not, List, length}
use Rattle.vd_forest.specs.Forest.{Forest, nothing, turned}
use Rattle.vd_forest.specs.Store.{at}
use Rattle.vd_resolved.specs.declared.node.Resolved.{Resolved}
use Rattle.vd_name_rows.specs.Designs.{Design}
use Rattle.vd_name_rows.specs.Noting.{formal_at}
use Rattle.vd_naming.specs.Associations.{is_among_numbers}
use Rattle.vd_naming.specs.Ports.{Map}
use Rattle.vd_name_ports.specs.declared.elements.Mapped as code

abbrev pub seen_map : List (Forest Resolved) → code.Mapped → Map
seen_map store m = record { tree = turned (at store m.trees) nothing; first = m.first; given = m.given; is_known = m.is_known; is_named = m.is_named }

-- its trees stand in the store, and it is seen as this
pub record IsMapped (store : List (Forest Resolved)) (m : code.Mapped) (want : Map) : Type 0 where
  pub within : m.trees ≤ length store
  pub is : seen_map store m ≡ want

-- a port without actual that needs one, where these are given
abbrev pub lacks_actual : Design → List ℕ → ℕ → Bool
lacks_actual d given k = (formal_at d k).is_needed && not (is_among_numbers given k)
