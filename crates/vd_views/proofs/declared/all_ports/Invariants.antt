use Rattle.std.proofs.Common.{◌≡◌, take}
use Rattle.vd_views.specs.Splits.{all_ports}
use Rattle.vd_views.proofs.declared.all_ports.Given as goal

abbrev pub invariant-loop-number : goal.invariant-loop-number
invariant-loop-number l = l.others.items ≡ all_ports l.ports.ports.items (take l.number-index l.declarations)
