use Rattle.std.proofs.Common.{◌∙◌, Some, option_map, sym, ap}
use Rattle.vd_words.specs.Words.{texts_of}
use Rattle.vd_words.specs.Given.{values_given, file_id}
use Rattle.vd_words.specs.Plans.{meaning_of_plan}
use Rattle.vd_words.proofs.Finding.{read_as}
use Rattle.vd_words.proofs.reading.read_words.Goals as goal

pub returns-in-Some-clause-taken : goal.returns-in-Some-clause-taken
returns-in-Some-clause-taken c =
    let files = values_given c.in_ok-matches.matches file_id in
    read_as (texts_of c.args.words.now.items) c.in_ok-matches.matches c.in_ok-matches.ensures.taken
    ∙ sym (c.planned.ensures files) ∙ ap (option_map (meaning_of_plan files)) c.in-Some.is ∙ ap Some (sym c.in_ok-command_of-in-Some.ensures)

pub returns-clause-not_taken : goal.returns-clause-not_taken
returns-clause-not_taken c _ =
    let files = values_given c.in_ok-matches.matches file_id in
    read_as (texts_of c.args.words.now.items) c.in_ok-matches.matches c.in_ok-matches.ensures.taken
    ∙ sym (c.planned.ensures files) ∙ ap (option_map (meaning_of_plan files)) c.in-None.is
