use Rattle.std.proofs.Common.{◌≡◌, ◌==◌, drop}
use Rattle.std.specs.List.{list_any}
use Rattle.vd_region_tables.proofs.numbers.has.Given as goal

abbrev pub invariant-loop-one : goal.invariant-loop-one
invariant-loop-one l = list_any (λ k. k == l.number) (drop l.one-index l.some) ≡ list_any (λ k. k == l.number) l.some
