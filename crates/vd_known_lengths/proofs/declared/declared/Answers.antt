use Rattle.vd_value_rules.specs.Indicated.{indicated_in}
use Rattle.vd_forest.specs.Store.{at}
use Rattle.vd_known_lengths.proofs.OverLemmas.{same_extent}
use Rattle.vd_value_rules.specs.Knowledge.{at_mark}
use Rattle.vd_known_lengths.proofs.declared.declared.Goals as goal

pub returns-clause-is : goal.returns-clause-is
returns-clause-is c = λ d k sees.
    let store = c.args.over.now.ground.subtypes.now in
    same_extent store c.of_subtype.result (indicated_in (at store c.of_declaration-number.result)) (at_mark c.args.declaration k.choosing)
    (c.of_declaration-number.ensures.is d k sees).is c.of_subtype.ensures
