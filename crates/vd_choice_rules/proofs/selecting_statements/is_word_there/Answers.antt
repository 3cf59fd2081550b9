use Rattle.std.proofs.Common.{ap, sym, ◌∙◌}
use Rattle.vd_choice_rules.proofs.SelectingLemmas.{word_skipped}
use Rattle.vd_choice_rules.specs.SelectingStatements.{word_there}
use Rattle.vd_choice_rules.proofs.selecting_statements.is_word_there.Goals as goal

pub returns-in-Some : goal.returns-in-Some
returns-in-Some c = λ d.
    word_skipped d c.in-Some.number c.args.parts.now c.skip.result c.is_present.result c.skip.ensures (c.is_present.ensures d.table)
    ∙ sym (ap (λ w. word_there d w c.args.parts.now) c.in-Some.is)
