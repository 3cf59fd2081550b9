use Rattle.std.proofs.Common.{refl}
use Rattle.std.specs.Fmt.{digits}
use Rattle.vd_trees.proofs.trace_examples.worked_traces.Goals as goal

pub returns-clause-paths : goal.returns-clause-paths
returns-clause-paths c = refl

pub returns-clause-scopes : goal.returns-clause-scopes
returns-clause-scopes c = (refl, refl)

pub returns-clause-values : goal.returns-clause-values
unfolding digits
returns-clause-values c = (refl, refl, refl, refl)

pub returns-clause-quiet_gate : goal.returns-clause-quiet_gate
unfolding digits
returns-clause-quiet_gate c = refl

pub returns-clause-delayed_change : goal.returns-clause-delayed_change
unfolding digits
returns-clause-delayed_change c = refl

pub returns-clause-implicit_signal : goal.returns-clause-implicit_signal
unfolding digits
returns-clause-implicit_signal c = refl

pub returns-clause-done_count : goal.returns-clause-done_count
unfolding digits
returns-clause-done_count c = refl

pub returns-clause-overflow : goal.returns-clause-overflow
unfolding digits
returns-clause-overflow c = refl

pub returns-clause-failure : goal.returns-clause-failure
unfolding digits
returns-clause-failure c = refl

pub returns-clause-escapes : goal.returns-clause-escapes
unfolding digits
returns-clause-escapes c = refl

pub returns-clause-no_elaboration : goal.returns-clause-no_elaboration
unfolding digits
returns-clause-no_elaboration c = refl
