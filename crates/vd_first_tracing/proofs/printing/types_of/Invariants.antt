use Rattle.std.proofs.Common.{◌≡◌, replicate}
use Rattle.vd_trace_text.specs.Types.{types_behind}
use Rattle.vd_first_tracing.proofs.printing.types_of.Given as goal

abbrev pub invariant-loop : goal.invariant-loop
invariant-loop l = types_behind l.types.items ≡ replicate l.counter l.one
