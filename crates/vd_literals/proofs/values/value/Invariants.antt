use Rattle.std.proofs.Common.{◌≡◌, ◌≤◌, drop}
use Rattle.vd_tokens.specs.Spellings.{greatest_integer}
use Rattle.vd_literals.specs.Values.{value_of, value_behind}
use Rattle.vd_literals.proofs.values.value.Given as goal

-- what the digits so far stand for, and those that are left
abbrev pub invariant-loop-b : goal.invariant-loop-b
invariant-loop-b l = record {
  value : value_of l.base l.digits ≡ value_behind l.base l.n (drop l.b-index l.digits);
  fits : l.n ≤ greatest_integer;
}
