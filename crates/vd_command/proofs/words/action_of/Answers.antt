use Rattle.std.proofs.Common.{Err, ap}
use Rattle.vd_words.specs.Commands.{meaning_in}
use Rattle.vd_command.specs.Words.{texts_of}
use Rattle.vd_command.proofs.WordsLemmas.{action_as, none_taken}
use Rattle.vd_command.proofs.words.action_of.Goals as goal

pub returns-in-Ok : goal.returns-in-Ok
returns-in-Ok c = action_as (texts_of c.args.words.now.items) (meaning_in c.in-Ok.command) c.in-Ok.ensures.taken c.action_for.result c.action_for.ensures

pub returns-in-Err-NotTaken : goal.returns-in-Err-NotTaken
returns-in-Err-NotTaken c = none_taken (texts_of c.args.words.now.items) (c.in-Err-NotTaken.ensures.not_taken (ap Err c.in-Err-NotTaken.field-0-is))
