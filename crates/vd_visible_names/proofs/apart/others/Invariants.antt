use Rattle.std.proofs.Common.{◌≡◌, ◌++◌, drop}
use Rattle.std.specs.List.{filter}
use Rattle.vd_visible_names.specs.Apart.{is_other}
use Rattle.vd_visible_names.proofs.apart.others.Given as goal

abbrev pub invariant-loop-way : goal.invariant-loop-way
invariant-loop-way l = l.found.items ++ filter (is_other l.mark) (drop l.way-index l.ways) ≡ filter (is_other l.mark) l.ways
