use Rattle.vd_plain_values.proofs.StringLemmas.{string_answer, string_missing}
use Rattle.vd_plain_values.proofs.strings.string.Goals as goal

pub returns-in-Some-subtype_of : goal.returns-in-Some-subtype_of
returns-in-Some-subtype_of c = λ e holds.
    rw c.in-Some.is (string_answer e c.args.environment.now c.number.result c.in-Some.mark c.args.text.now c.in-Some-subtype_of.subtype c.literal_of.result holds c.number.ensures c.in-Some-subtype_of.ensures c.literal_of.ensures)

pub returns-in-None : goal.returns-in-None
returns-in-None c = λ e holds. rw c.in-Some.is (string_missing e c.args.environment.now c.number.result c.in-Some.mark c.args.text.now holds c.number.ensures c.in-None.ensures)
