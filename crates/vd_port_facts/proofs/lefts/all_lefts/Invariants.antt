use Rattle.std.proofs.Common.{◌≡◌, ◌++◌, drop}
use Rattle.vd_port_facts.specs.Needed.{all_lefts}
use Rattle.vd_port_facts.proofs.lefts.all_lefts.Given as goal

abbrev pub invariant-loop-together : goal.invariant-loop-together
invariant-loop-together l = l.found.items ++ all_lefts l.actuals (drop l.place l.actuals) (drop l.together-index l.objects) ≡ all_lefts l.actuals l.actuals l.objects
