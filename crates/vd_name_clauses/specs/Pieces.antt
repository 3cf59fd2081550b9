-- The last piece of a selected name.
use Rattle.vd_forest.specs.Forest.{Forest, nothing, more}

abbrev pub last_tree : {F : Type 0} → Forest F → Forest F
last_tree nothing = nothing
last_tree (more form text place parts nothing) = more form text place parts nothing
last_tree (more form text place parts (more form' text' place' parts' next)) = last_tree (more form' text' place' parts' next)
