use Rattle.std.proofs.Common.{◌+◌, ◌≤◌, length, map, drop, ◌∙◌, arith}
use Rattle.vd_naming.specs.Generics.{elements_outcome}
use Rattle.vd_name_actuals.specs.Seen.{seen_known}
use Rattle.vd_name_maps.specs.Seen.{seen_element}
use Rattle.vd_name_maps.proofs.ElementsLemmas.{Kept, one_less, none_left, same_kept, next_kept, still_kept, all_made}
use Rattle.vd_name_maps.proofs.inside.elements_outcome.Goals as goal
use Rattle.vd_name_maps.proofs.inside.elements_outcome.Goals.{in-Some+in_ok-made-in-Some+in_ok-trees-in-Some, in-None}

pub loop-element-preserved : goal.loop-element-preserved
loop-element-preserved c =
    let a = c.args.at.now in
    let d = c.args.known.now.names.now in
    let k = seen_known c.args.known.now in
    let loop = c.loop-element in
    let xs = c.args.elements.now in
    let es = map seen_element (drop loop.element-index xs) in
    let rest = map seen_element (drop (loop.element-index + 1) xs) in
    let start = c.args.out.now in
    let all = elements_outcome a d k (map seen_element xs) c.args.parts.now in
    let inv = loop.invariant in
    let so_far : Kept a d k start all es loop.out loop.trees loop.first loop.left = record { trees_in = inv.trees_in; tree = inv.tree; first_is = inv.first; extends = inv.extends } in
    let kept : Kept a d k start all rest c.match-open.out c.match-open.trees c.match-open.first c.match-open.left = elim c.match-open.branch [
      | in-Some+in_ok-made-in-Some+in_ok-trees-in-Some w ↦
          let node = w.in-Some.node in
          same_kept a d k start all rest _ c.match-open.out _ c.match-open.trees _ c.match-open.first _ c.match-open.left w.out-is w.trees-is
          (w.first-is ∙ w.lesser-first.ensures) w.left-is
          (next_kept a d k start all loop.out w.element_outcome.new.out w.turn.new.self es rest (seen_element c.element-item.result) loop.trees
          w.in_ok-trees-in-Some.trees w.in_ok-made-in-Some.made loop.first loop.left node.next node.parts node.form node.text.now node.place
          (one_less xs loop.element-index c.element-item.result c.loop-element-test.true c.element-item.is) w.in-Some.ensures so_far
          w.in_ok-made-in-Some.ensures.is w.in_ok-made-in-Some.ensures.extends w.in_ok-trees-in-Some.ensures.holds w.in_ok-trees-in-Some.ensures.extends)
      | in-None w ↦
          same_kept a d k start all rest _ c.match-open.out _ c.match-open.trees _ c.match-open.first _ c.match-open.left w.out-is w.trees-is w.first-is w.left-is
          (still_kept a d k start all es rest loop.out loop.trees loop.first loop.left w.in-None.ensures so_far)
    ] in
    record { trees_in = kept.trees_in; tree = kept.tree; first = kept.first_is; extends = kept.extends }

pub returns-clause-is : goal.returns-clause-is
returns-clause-is c =
    let d = c.args.known.now.names.now in
    let k = seen_known c.args.known.now in
    let loop = c.loop-element in
    let xs = c.args.elements.now in
    let inv = loop.invariant in
    let past : length xs ≤ loop.element-index = omega (arith, c.loop-element-test.false) in
    all_made c.args.at.now d k c.args.out.now loop.out c.turn-2.new.self (map seen_element xs) c.args.parts.now (map seen_element (drop loop.element-index xs))
    loop.trees c.in_ok-tree.tree loop.first loop.left (none_left xs loop.element-index past)
    (record { trees_in = inv.trees_in; tree = inv.tree; first_is = inv.first; extends = inv.extends }) c.in_ok-tree.ensures.holds
