use Rattle.vd_composites.proofs.ConcatenationLaws.{concatenates, concatenation_is_associative}
use Rattle.vd_composites.proofs.laws.concatenations_join_elements.Goals as goal

pub returns-clause-elements : goal.returns-clause-elements
returns-clause-elements c = concatenates

pub returns-clause-associative : goal.returns-clause-associative
returns-clause-associative c = concatenation_is_associative
