use Rattle.std.proofs.Common.{◌≡◌, drop}
use Rattle.vd_naming.specs.Instances.{are_settled}
use Rattle.vd_name_instances.proofs.settled.all_settled.Given as goal

abbrev pub invariant-loop-generic : goal.invariant-loop-generic
invariant-loop-generic l = are_settled l.names l.actuals.actuals (drop l.generic-index l.generics) ≡ are_settled l.names l.actuals.actuals l.generics
