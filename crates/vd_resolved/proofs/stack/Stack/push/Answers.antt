use Rattle.std.proofs.Common.{◌≡◌, ◌≤◌, ◌-◌, length, map, drop, ap, ◌∙◌, arith}
use Rattle.std.proofs.lemmas.List.{length-map}
use Rattle.vd_forest.specs.Store.{at}
use Rattle.vd_resolved.specs.Trees.{side_by_side, with_parent}
use Rattle.vd_resolved.proofs.StackLemmas.{trees_more, same_trees, numbers_made, parent_tree, parent_made, on_err}
use Rattle.vd_resolved.proofs.stack.Stack.push.Goals as goal

pub invariant_of-self : goal.invariant_of-self
invariant_of-self c = trees_more c.self.inside.store c.added.new.store c.self.inside.numbers.items c.in_err-tree.ensures.extends c.self.invariant

pub returns-in_err-tree-clause-unchanged : goal.returns-in_err-tree-clause-unchanged
returns-in_err-tree-clause-unchanged c =
    on_err c.from_residual.result
    (same_trees c.self.inside.store c.added.new.store c.self.inside.numbers.items c.in_err-tree.ensures.extends c.self.invariant ∙ c.self.view_is)

pub invariant_of-self-in_err-replace : goal.invariant_of-self-in_err-replace
invariant_of-self-in_err-replace c =
    rw c.in_err-replace.ensures.unchanged
    (trees_more c.self.inside.store c.added.new.store c.self.inside.numbers.items c.in_ok-tree.ensures.extends c.self.invariant)

pub returns-in_err-replace-clause-unchanged : goal.returns-in_err-replace-clause-unchanged
returns-in_err-replace-clause-unchanged c =
    on_err c.from_residual-in_err-replace.result
    (ap (map (at c.added.new.store)) c.in_err-replace.ensures.unchanged
    ∙ same_trees c.self.inside.store c.added.new.store c.self.inside.numbers.items c.in_ok-tree.ensures.extends c.self.invariant ∙ c.self.view_is)

pub invariant_of-self-2 : goal.invariant_of-self-2
invariant_of-self-2 c =
    numbers_made c.self.inside.store c.added.new.store c.self.inside.numbers.items c.replace.new.numbers.items (c.len.result - c.args.count) c.in_ok-tree.tree
    c.self.invariant c.in_ok-tree.ensures.extends
    (parent_tree c.added.new.store c.in_ok-tree.tree c.args.node c.args.text.now c.args.place _ c.in_ok-tree.ensures.holds)
    c.in_ok-replace.ensures.replaced

pub returns-clause-pushed : goal.returns-clause-pushed
returns-clause-pushed c =
    let ns = c.self.inside.numbers.items in
    let some : c.args.count ≤ length c.self.inside.numbers.items =
    omega (arith, c.requires, ap length c.self.view_is, length-map ns (at c.self.inside.store)) in
    let from : c.len.result - c.args.count ≡ length c.self.inside.numbers.items - c.args.count = omega (arith, c.len.ensures, c.self.inside.numbers.ok.0) in
    parent_made c.self.inside.store c.added.new.store ns c.replace.new.numbers.items (c.len.result - c.args.count) c.in_ok-tree.tree c.args.count
    c.args.node c.args.text.now c.args.place _ c.self.invariant c.in_ok-tree.ensures.extends some from c.in_ok-replace.ensures.replaced c.in_ok-tree.ensures.holds.is
    (ap (λ xs. side_by_side (drop (c.len.result - c.args.count) (map (at c.self.inside.store) xs))) c.deref.ensures.value)
    ∙ ap (λ ts. with_parent ts c.args.node c.args.text.now c.args.place c.args.count) c.self.view_is
