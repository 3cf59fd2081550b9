-- What nodes take over from their parts, by their kind.
use Rattle.std.specs.Prelude.{ℕ, List, [], ◌∷◌, Option, None}
use Rattle.vd_operations.specs.declared.passing.Passing.{Passing}
use Rattle.vd_operations.specs.declared.passing.Passing.TheVariants.{Nothing, First, OpenFirst, Second, Last, Choices, Map, Open, Own}
use Rattle.vd_forest.specs.Forest.{Forest, nothing, more}
use Rattle.vd_meaning.specs.Facets.{Choice}
use Rattle.vd_meaning.specs.Kinds.{Kind, NotThere, AssociatedOthers, OpenIndex, Associated, MarkName, ChoiceList, GenericActuals, OpenActual}

abbrev pub passing : Kind → Passing
passing NotThere = Nothing
passing AssociatedOthers = First
passing OpenIndex = OpenFirst
passing Associated = Second
passing MarkName = Last
passing ChoiceList = Choices
passing GenericActuals = Map
passing OpenActual = Open
passing _ = Own

-- the last tree of a forest, alone
abbrev pub last_tree : {F : Type 0} → Forest F → Forest F
last_tree nothing = nothing
last_tree (more form text place parts nothing) = more form text place parts nothing
last_tree (more form text place parts (more form' text' place' parts' next)) = last_tree (more form' text' place' parts' next)

-- what the first choice names
abbrev pub first_named : List Choice → Option ℕ
first_named [] = None
first_named (c ∷ cs) = c.named
