use Rattle.std.proofs.Common.{ap, sym, ◌∙◌}
use Rattle.vd_given_choices.proofs.ChoiceLemmas.{choice_is}
use Rattle.vd_meaning.specs.Facets.{value_of}
use Rattle.vd_given_choices.proofs.choices.choice_of.Goals as goal

pub returns : goal.returns
returns c = λ subtypes e m is.
    let same = ap (λ k. k.is_local) is.sense.known in
    choice_is subtypes e m c.args.node.sense c.args.place c.in_ok-range.range is.sense
    (c.in_ok-range.ensures m.range (value_of m) (m.known e) e is.sense.range (sym same) (λ local. is.sense.value (sym same ∙ local) _))
