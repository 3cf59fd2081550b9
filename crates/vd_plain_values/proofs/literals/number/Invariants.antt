use Rattle.std.proofs.Common.{◌≡◌, drop}
use Rattle.vd_meaning.specs.Literals.{number, number_from}
use Rattle.vd_plain_values.proofs.literals.number.Given as goal

abbrev pub invariant-loop-digit : goal.invariant-loop-digit
invariant-loop-digit l = number_from l.total (drop l.digit-index l.digits) ≡ number l.digits
