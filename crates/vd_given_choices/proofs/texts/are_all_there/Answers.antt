use Rattle.std.proofs.Common.{refl}
use Rattle.vd_given_choices.proofs.TextLemmas.{texts_answer}
use Rattle.vd_choices.specs.Texts.{texts_of}
use Rattle.vd_given_choices.proofs.texts.are_all_there.Goals as goal

pub returns : goal.returns
returns c = λ ts are.
    texts_answer c.places_are_indexes.ensures.places c.interval.result c.args.within c.args.count (texts_of c.args.texts.now) (texts_of c.args.texts.now) ts
    c.texts_cover.result c.interval.ensures are refl c.texts_cover.ensures
