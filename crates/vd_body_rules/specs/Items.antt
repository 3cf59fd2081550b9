-- What functions declare one by one, as it is kept: the trees that count stand side by side.
use Rattle.std.specs.Prelude.{List, [], map, suc, zero, ℕ, ◌∷◌}
use Rattle.vd_body_rules.specs.declared.items.Item.{Item}
use Rattle.vd_forest.specs.Forest.{Forest, next_of}
use Rattle.vd_resolved.specs.declared.node.Resolved.{Resolved}
use Rattle.vd_value_rules.specs.Bodies.{InterfaceItem, alone}

-- the first of some trees, as many as the number says
abbrev pub first_trees : ℕ → Forest Resolved → List (Forest Resolved)
first_trees zero f = []
first_trees (suc n) f = alone f ∷ first_trees n (next_of f)

abbrev pub item_of : Item → InterfaceItem
item_of i = record { form = i.form; name = i.name; number = i.number; trees = first_trees i.count i.trees }

abbrev pub items_of : List Item → List InterfaceItem
items_of xs = map item_of xs
