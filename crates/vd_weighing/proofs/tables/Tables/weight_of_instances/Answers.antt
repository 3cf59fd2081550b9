use Rattle.std.proofs.Common.{◌+◌, ◌-◌, ◌^◌, ◌<◌, ◌≤◌, reverse, take, length, subst, ap, sym, ◌∙◌, arith}
use Rattle.std.proofs.lemmas.Grind.{common_steps}
use Rattle.std.proofs.lemmas.List.{take_all}
use Rattle.vd_weighing.specs.Tables.{sums_found}
use Rattle.vd_weighing.proofs.LimitLemmas.{IsCounted, at_most_small, counted_none, counted_more}
use Rattle.vd_weighing.proofs.TableLemmas.{sums_last}
use Rattle.vd_weighing.proofs.tables.Tables.weight_of_instances.Goals as goal

pub loop-left-init : goal.loop-left-init
loop-left-init c =
    let known = c.args.self.now in
    let all : length c.self.inside.packages.items ≤ c.len-left.result = grind (arith, common_steps) in
    record {
      within = grind (arith, common_steps);
      so_far =
          subst (λ n. IsCounted 0 n (sums_found known.instances known.generics))
          (sym (ap (λ ds. sums_found (reverse ds) known.generics) (take_all c.len-left.result c.self.inside.packages.items all)
          ∙ ap (λ k. sums_found k.instances known.generics) c.self.view_is))
          (counted_none (sums_found known.instances known.generics));
    }

pub loop-left-preserved : goal.loop-left-preserved
loop-left-preserved c =
    let es = c.args.self.now.generics in
    let ds = c.self.inside.packages.items in
    let n = c.loop-left.left in
    let within : n ≤ length ds = grind (arith, common_steps) in
    let fits : c.sum.result < 2 ^ 64 = grind (arith, common_steps, c.sum.type_inv) in
    record {
      within = omega arith;
      so_far =
          counted_more c.loop-left.weight c.sum.result (sums_found (reverse (take (n - 1) ds)) es) (sums_found (reverse (take n ds)) es)
          (sums_found c.args.self.now.instances es) c.sum.result c.plus-weight.result c.loop-left.invariant.so_far
          (sums_last es ds n c.index.result.now (omega arith) within c.index.ensures ∙ ap (λ s. s + sums_found (reverse (take (n - 1) ds)) es) (sym c.sum.ensures))
          (sym (at_most_small c.sum.result fits)) c.plus-weight.ensures;
    }
