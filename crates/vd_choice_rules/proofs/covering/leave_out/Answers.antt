use Rattle.vd_choice_rules.proofs.CountLemmas.{choices_long}
use Rattle.vd_choice_rules.proofs.covering.leave_out.Goals as goal

pub are_texts_covered-requires : goal.are_texts_covered-requires
are_texts_covered-requires c =
    record {
      long = choices_long c.args.count c.in_ok-texts.texts.items c.deref.result.now c.args.choices.now c.deref.ensures.value c.in_ok-texts.ensures;
    }
