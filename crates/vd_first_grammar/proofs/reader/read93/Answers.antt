use Rattle.vd_forest.specs.Store.{at}
use Rattle.vd_trees.specs.declared.revision.Revision.TheVariants.{V1993}
use Rattle.vd_first_grammar.proofs.Valid.{reading_valid}
use Rattle.vd_first_grammar.proofs.reader.read93.Goals as goal

pub of-requires-clause-valid : goal.of-requires-clause-valid
of-requires-clause-valid c = reading_valid V1993 c.args.tokens.now (at c.units_of.new.store c.in_ok-units.units) c.requires.possible c.in_ok-units.ensures.answer
