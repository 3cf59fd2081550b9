use Rattle.std.proofs.Common.{◌≡◌, [], drop}
use Rattle.vd_simulation.specs.Turns.{view_of}
use Rattle.vd_first_processes.specs.Operations.{after_operations}
use Rattle.vd_first_processes.specs.Resolved.{signal_value}
use Rattle.vd_first_processes.proofs.evaluation.evaluate.Given as goal

abbrev pub invariant-loop-operation : goal.invariant-loop-operation
invariant-loop-operation l =
    after_operations (signal_value (view_of l.seen)) l.stack.items (drop l.operation-index l.operations) ≡ after_operations (signal_value (view_of l.seen)) [] l.operations
