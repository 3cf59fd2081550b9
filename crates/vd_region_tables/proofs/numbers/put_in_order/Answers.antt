use Rattle.std.proofs.Common.{◌≡◌, sym, subst}
use Rattle.std.specs.List.{Contains, dedup}
use Rattle.std.specs.List.Sorted.{IsStrictlyIncreasing}
use Rattle.std.proofs.Math.Dec.{eqb}
use Rattle.std.proofs.lemmas.List.Filters.{dedup_is}
use Rattle.std.proofs.lemmas.List.Kept.{Contains-dedup_nat, Contains-from_dedup}
use Rattle.std.proofs.lemmas.List.Sorted.{Contains-permutation, IsPermutation-sym}
use Rattle.std.proofs.lemmas.Map.Keys.{IsStrictlyIncreasing-dedup}
use Rattle.vd_region_tables.proofs.numbers.put_in_order.Goals as goal

pub returns-clause-ascending : goal.returns-clause-ascending
returns-clause-ascending c =
    let is : c.dedup.new.self.items ≡ dedup eqb c.sort.new.self.items = dedup_is eqb _ _ c.dedup.ensures.filtered in
    subst IsStrictlyIncreasing (sym is) (IsStrictlyIncreasing-dedup c.sort.new.self.items c.in_ok-sort.ensures.sorted)

pub returns-clause-same : goal.returns-clause-same
returns-clause-same c = λ k.
    let is : c.dedup.new.self.items ≡ dedup eqb c.sort.new.self.items = dedup_is eqb _ _ c.dedup.ensures.filtered in (
      λ found. Contains-permutation c.sort.new.self.items c.args.found.now.items k
          (IsPermutation-sym c.args.found.now.items c.sort.new.self.items c.in_ok-sort.ensures.permutation)
          (Contains-from_dedup eqb c.sort.new.self.items k (subst (λ xs. Contains xs k) is found)),
      λ seen. subst (λ xs. Contains xs k) (sym is) (Contains-dedup_nat c.sort.new.self.items k
          (Contains-permutation c.args.found.now.items c.sort.new.self.items k c.in_ok-sort.ensures.permutation seen)),
    )
