use Rattle.std.proofs.Common.{◌≡◌, ◌*◌, ◌^◌, ◌≤◌}
use Rattle.vd_tokens.specs.Spellings.{greatest_integer}
use Rattle.vd_literals.proofs.values.scaled.Given as goal

-- the powers so far are in the number
abbrev pub invariant-loop-left : goal.invariant-loop-left
invariant-loop-left l = record {
  scaled : l.fn.value * l.base ^ l.fn.exponent ≡ l.n * l.base ^ l.left;
  fits : l.n ≤ greatest_integer;
}

abbrev pub decreases-loop-left : goal.decreases-loop-left
decreases-loop-left l = l.left
