-- Which nodes are what a part of theirs is.
use Rattle.vd_meaning.specs.Kinds.{Associated, AssociatedOthers, Kind, NotThere, OpenIndex}
use Rattle.vd_known_lengths.specs.declared.operands.Holding.{Holding}
use Rattle.vd_known_lengths.specs.declared.operands.Holding.TheVariants.{First, FirstForOthers, Nothing, Own, Second}

abbrev pub holding : Kind → Holding
holding NotThere = Nothing
holding AssociatedOthers = FirstForOthers
holding OpenIndex = First
holding Associated = Second
holding _ = Own
