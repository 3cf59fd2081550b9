use Rattle.vd_meaning.specs.Facets.{nth}
use Rattle.vd_meaning.specs.Meanings.{meanings}
use Rattle.vd_value_rules.specs.Lengths.{arguments_shaped}
use Rattle.vd_known_lengths.proofs.measuring.behind_name.Goals as goal

pub returns-clause-is : goal.returns-clause-is
returns-clause-is c = λ d k ss sees are.
    c.piece_alone.ensures.is (arguments_shaped d k c.args.tree.now.form (nth 0 (meanings d.table c.args.tree.now.parts)) ss)
    (c.in_ok-piece.ensures.is d k ss sees (c.length_of-length.ensures ss are))
