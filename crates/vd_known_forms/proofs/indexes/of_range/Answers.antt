use Rattle.vd_known_forms.proofs.indexes.of_range.Goals as goal

pub returns-in_default-clause-within : goal.returns-in_default-clause-within
returns-in_default-clause-within c = c.known_later.ensures.within c.args.design.now.table.subtypes
