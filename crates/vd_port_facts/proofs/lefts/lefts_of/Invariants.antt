use Rattle.std.proofs.Common.{◌≡◌, ◌++◌, drop}
use Rattle.vd_port_facts.specs.Needed.{lefts}
use Rattle.vd_port_facts.proofs.lefts.lefts_of.Given as goal

abbrev pub invariant-loop-number : goal.invariant-loop-number
invariant-loop-number l = l.found.items ++ lefts l.actuals (drop l.here l.actuals) (drop l.number-index l.numbers) ≡ lefts l.actuals (drop l.place l.actuals) l.numbers
