use Rattle.vd_choice_rules.proofs.StatementLemmas.{counted_refused}
use Rattle.vd_choice_rules.proofs.arrays.refused_counted.Goals as goal

pub returns : goal.returns
returns c = λ d k ks s knows is.
    counted_refused k.env c.args.count s c.in_ok-of_texts.of_texts c.in_ok-matching.matching c.lesser.result (c.in_ok-of_texts.ensures s is)
    (c.in_ok-matching.ensures d k ks s knows is) c.lesser.ensures
