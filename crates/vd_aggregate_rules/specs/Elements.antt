-- What elements in brackets stand for, by their kinds.
use Rattle.vd_aggregate_rules.specs.declared.elements.ElementSort.{ElementSort}
use Rattle.vd_aggregate_rules.specs.declared.elements.ElementSort.TheVariants.{Chosen, Inner, Others, Plain}
use Rattle.vd_meaning.specs.Kinds.{Kind}
use Rattle.vd_meaning.specs.Kinds as kinds

abbrev pub sort_in : Kind → ElementSort
sort_in kinds.Associated = Chosen
sort_in kinds.AssociatedOthers = Others
sort_in kinds.OpenIndex = Inner
sort_in _ = Plain
