use Rattle.vd_known_lengths.proofs.arguments.indexed_by.Goals as goal

pub returns-clause-within : goal.returns-clause-within
returns-clause-within c = c.indexed.ensures.within c.args.over.now.ground.subtypes.now
