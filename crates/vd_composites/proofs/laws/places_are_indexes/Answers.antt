use Rattle.vd_composites.proofs.RangeLemmas.{length_from_left, places_are_indexes}
use Rattle.vd_composites.proofs.laws.places_are_indexes.Goals as goal

pub returns-clause-places : goal.returns-clause-places
returns-clause-places c = places_are_indexes

pub returns-clause-lengths : goal.returns-clause-lengths
returns-clause-lengths c = length_from_left
