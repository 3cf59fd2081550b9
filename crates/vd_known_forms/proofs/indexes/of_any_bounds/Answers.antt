use Rattle.vd_known_forms.proofs.indexes.of_any_bounds.Goals as goal

pub returns-then-not-name-clause-within : goal.returns-then-not-name-clause-within
returns-then-not-name-clause-within c = c.known_later.ensures.within c.args.subtypes.now

pub returns-in-None-clause-within : goal.returns-in-None-clause-within
returns-in-None-clause-within c = c.known_later-in-None.ensures.within c.args.subtypes.now
