use Rattle.std.proofs.Common.{refl}
use Rattle.vd_choice_rules.proofs.SelectingLemmas.{selecting_is}
use Rattle.vd_choice_rules.proofs.selecting_statements.selecting_with.Goals as goal

pub matching_of-requires : goal.matching_of-requires
matching_of-requires c =
    let r = c.requires.ready in
    record { ready = record { design = r.design; now = r.now; round = r.round; knows = c.in_ok-shape.ensures.knows r.design _ r.knows } }

pub alternative_choices-requires : goal.alternative_choices-requires
alternative_choices-requires c =
    let r = c.requires.ready in
    record {
      ready = record {
        design = r.design;
        now = r.now;
        round = r.round;
        knows = c.in_ok-matching.ensures.knows r.design _ (c.in_ok-shape.ensures.knows r.design _ r.knows);
      };
    }

pub returns-clause-selecting : goal.returns-clause-selecting
returns-clause-selecting c = λ d s own ks knows revision label.
    let first = c.in_ok-shape.ensures.knows d _ knows in
    let second = c.in_ok-matching.ensures.knows d _ first in
    let third = c.in_ok-choices.ensures.knows d _ second in
    selecting_is d s own c.args.place c.args.parts.now c.skip-selector.result c.args.numbers.selector c.args.numbers.choices c.args.alternatives.now label
    c.skip-selector.ensures c.args.numbers.word c.is_word_there.result c.is_selectable.result c.has_others.result _ c.place_of.result c.in_ok-shape.shape
    (c.is_word_there.ensures d) (c.in_ok-matching.ensures.comparison d s.known ks first) c.place_of.ensures (c.in_ok-shape.ensures.shape d s.known ks knows)
    (c.is_selectable.ensures d c.alternative_choices.new.design.revision revision third.table) c.has_others.ensures refl refl refl refl refl
    (c.in_ok-choices.ensures.choices d s.known ks second)
