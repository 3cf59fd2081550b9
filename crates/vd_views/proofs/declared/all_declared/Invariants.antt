use Rattle.std.proofs.Common.{◌≡◌, map, take}
use Rattle.vd_views.specs.Splits.{declared_with}
use Rattle.vd_views.proofs.declared.all_declared.Given as goal

abbrev pub invariant-loop-declaration : goal.invariant-loop-declaration
invariant-loop-declaration l = l.all.items ≡ map (declared_with l.ports.ports.items) (take l.declaration-index l.declarations)
