use Rattle.std.proofs.Common.{◌≡◌, take}
use Rattle.vd_noting.proofs.copies.all_copied.Given as goal

abbrev pub invariant-loop-declaration : goal.invariant-loop-declaration
invariant-loop-declaration l = l.copies.items ≡ take l.declaration-index l.declarations
