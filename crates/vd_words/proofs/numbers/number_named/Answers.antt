use Rattle.std.proofs.Common.{sym, ap, ◌∙◌}
use Rattle.vd_words.specs.Commands.{is_number}
use Rattle.vd_words.proofs.Digits.{none_named}
use Rattle.vd_words.proofs.numbers.number_named.Goals as goal

pub returns-in_default : goal.returns-in_default
returns-in_default c =
    none_named c.args.text.now c.args.least c.args.most (ap is_number (sym c.as_bytes.ensures.value) ∙ sym c.if-not-is_number.ensures) c.ranges.most.fits c.in_default.ensures.value.0
