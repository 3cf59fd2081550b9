use Rattle.std.proofs.Common.{◌≡◌}
use Rattle.vd_name_instances.specs.Copied.{with_entries}
use Rattle.vd_name_instances.proofs.adding.add_entries.Given as goal

abbrev pub invariant-loop-entry : goal.invariant-loop-entry
invariant-loop-entry l = l.names ≡ with_entries l.yielded l.fn.names
