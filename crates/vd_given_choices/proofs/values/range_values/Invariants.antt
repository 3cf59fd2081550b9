use Rattle.std.proofs.Common.{◌≡◌, ◌++◌}
use Rattle.vd_given_choices.proofs.ValueLemmas.{values_behind}
use Rattle.vd_meaning.specs.Statements.{range_values}
use Rattle.vd_given_choices.proofs.values.range_values.Given as goal

abbrev pub invariant-loop-place : goal.invariant-loop-place
invariant-loop-place l = l.values.items ++ values_behind l.of l.range l.place ≡ range_values l.of l.range
