use Rattle.vd_forest.proofs.StoreLemmas.{extends_trans}
use Rattle.vd_predefined.specs.Table.{characters}
use Rattle.vd_known_designs.proofs.MarkLemmas.{texts_grown}
use Rattle.vd_meaning.specs.Given.{bits, severities, truths}
use Rattle.vd_known_designs.proofs.literals.LiteralLists.add_to.Goals as goal

pub returns-clause-has : goal.returns-clause-has
returns-clause-has c =
    let first = c.add_texts.new.subtypes in
    let second = c.add_texts-2.new.subtypes in
    let third = c.add_texts-3.new.subtypes in
    let fourth = c.add_texts-4.new.subtypes in
    let last = c.add_texts-5.new.subtypes in
    let from_fourth = c.in_ok-logics.ensures.extends in
    let from_third = extends_trans third fourth last c.in_ok-severities.ensures.extends from_fourth in
    let from_second = extends_trans second third last c.in_ok-characters.ensures.extends from_third in
    let from_first = extends_trans first second last c.in_ok-bits.ensures.extends from_second in
    record {
      truths = texts_grown first last c.in_ok-truths.truths truths from_first c.in_ok-truths.ensures.texts;
      bits = texts_grown second last c.in_ok-bits.bits bits from_second c.in_ok-bits.ensures.texts;
      characters = texts_grown third last c.in_ok-characters.characters characters from_third c.in_ok-characters.ensures.texts;
      severities = texts_grown fourth last c.in_ok-severities.severities severities from_fourth c.in_ok-severities.ensures.texts;
      logics = c.in_ok-logics.ensures.texts;
    }
