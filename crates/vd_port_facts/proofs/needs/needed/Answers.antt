use Rattle.std.proofs.Common.{ap, arith, drop, false, length, nat_eq, reverse, subst, sym, ◌++◌, ◌+◌, ◌-◌, ◌≡◌, ◌≤◌, ◌∙◌}
use Rattle.std.specs.HashMap.{get}
use Rattle.std.specs.List.{list_any}
use Rattle.std.specs.Map.{lookup}
use Rattle.std.specs.Option.{unwrap_or}
use Rattle.vd_port_facts.specs.Needed.{needed_by, with_names}
use Rattle.vd_port_facts.proofs.LoopLemmas.{any_marked, least_left, least_right, needed_first, needed_more, nothing_marked}
use Rattle.vd_port_facts.proofs.needs.needed.Goals as goal

pub loop-left-init : goal.loop-left-init
loop-left-init c = record {
  within = subst (λ n. n ≤ length c.args.lefts.now) (sym c.min-left.ensures) (least_left (length c.args.lefts.now) (length c.args.defaults.now));
  within_defaults = subst (λ n. n ≤ length c.args.defaults.now) (sym c.min-left.ensures) (least_right (length c.args.lefts.now) (length c.args.defaults.now));
  put = needed_first c.min-left.result c.args.lefts.now c.args.defaults.now c.args.named.now (reverse c.add_names.new.found.items) c.min-left.ensures
      (c.in_ok-add_names.ensures.listed ∙ ap (λ xs. c.args.named.now ++ reverse xs) c.new-found.ensures.items);
  marked = c.in_ok-add_names.ensures.marked (nothing_marked (λ k. unwrap_or (get nat_eq c.new-marks.result k) false) (reverse c.new-found.result.items)
      (λ k. ap (λ es. unwrap_or (lookup (nat_eq k) es) false) c.new-marks.ensures.empty) (ap reverse c.new-found.ensures.items));
}

pub loop-left-preserved : goal.loop-left-preserved
loop-left-preserved c =
    let left = c.loop-left.left - 1 in
    let behind : c.loop-left.left ≡ left + 1 = omega arith in
    let ds = c.index-lefts-left.result in
    let names = c.index-defaults-left.result in
    record {
      within = omega arith;
      within_defaults = omega arith;
      put = needed_more left c.args.lefts.now c.args.defaults.now c.args.named.now ds names
          (reverse c.loop-left.found.items) (reverse c.add_names-in-loop-left.new.found.items) c.any_marked-takes.result
          (omega arith) (omega arith) c.index-lefts-left.is c.index-defaults-left.is
          (c.loop-left.invariant.put ∙ ap (λ k. needed_by (drop k c.args.lefts.now) (drop k c.args.defaults.now) c.args.named.now) behind)
          (c.any_marked-takes.ensures ∙ ap (list_any (λ k. unwrap_or (get nat_eq c.loop-left.marks k) false)) c.as_slice.ensures
          ∙ any_marked (λ k. unwrap_or (get nat_eq c.loop-left.marks k) false) (reverse c.loop-left.found.items) ds c.loop-left.invariant.marked)
          (c.in_ok-add_names-2.ensures.listed ∙ ap (λ xs. with_names c.any_marked-takes.result xs (reverse c.loop-left.found.items)) c.as_slice-in-loop-left.ensures);
      marked = c.in_ok-add_names-2.ensures.marked c.loop-left.invariant.marked;
    }
