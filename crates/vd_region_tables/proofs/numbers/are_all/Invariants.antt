use Rattle.std.proofs.Common.{◌≡◌, ◌==◌, drop}
use Rattle.std.specs.List.{list_all}
use Rattle.vd_region_tables.proofs.numbers.are_all.Given as goal

abbrev pub invariant-loop-one : goal.invariant-loop-one
invariant-loop-one l = list_all (λ k. k == l.number) (drop l.one-index l.some) ≡ list_all (λ k. k == l.number) l.some
