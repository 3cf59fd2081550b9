use Rattle.vd_meaning.specs.Facets.{nth}
use Rattle.vd_meaning.specs.Meanings.{meanings}
use Rattle.vd_value_rules.specs.Lengths.{attribute_shaped}
use Rattle.vd_known_lengths.proofs.measuring.with_attribute.Goals as goal

pub returns-clause-is : goal.returns-clause-is
returns-clause-is c = λ d k ss sees are.
    c.alone.ensures.is (attribute_shaped k c.args.tree.now.form (nth 0 (meanings d.table c.args.tree.now.parts)).text) (c.in_ok-extent.ensures.is d k sees)
