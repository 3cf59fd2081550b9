use Rattle.vd_given_choices.proofs.CoverLemmas.{covered_answer}
use Rattle.vd_given_choices.proofs.covering.are_covered.Goals as goal

pub returns : goal.returns
returns c =
    covered_answer c.interval.result c.args.within c.in_ok-given.given.items c.deref.result.now c.args.bounds.now c.covers.result c.interval.ensures c.in_ok-given.ensures
    c.deref.ensures.value c.covers.ensures
