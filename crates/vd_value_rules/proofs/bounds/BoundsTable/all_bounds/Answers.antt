use Rattle.std.proofs.Common.{◌<◌, ◌≤◌, ◌≡◌, ap, length, arith, subst, sym, ◌∙◌}
use Rattle.std.proofs.lemmas.List.{get_or_default}
use Rattle.vd_value_rules.specs.TreeBounds.{IsTableOf, nothing_known}
use Rattle.vd_value_rules.specs.Indicated.{static_of}
use Rattle.vd_value_rules.proofs.BoundLemmas.{table_more}
use Rattle.vd_value_rules.proofs.bounds.BoundsTable.all_bounds.Goals as goal

pub loop-self-preserved : goal.loop-self-preserved
loop-self-preserved c =
    let table = c.loop-self.self.entries.items in
    let store = c.args.store.now in
    let number = c.len-in-loop-self.result in
    let end : number ≡ length table = omega arith in
    let within : number ≤ length store = omega arith in
    subst (λ t. IsTableOf t store) (sym c.in_ok-push.ensures.items)
    (table_more table c.tree_bounds-next.result store number c.loop-self.invariant end within c.tree_bounds-next.ensures)

pub returns-clause-bounds : goal.returns-clause-bounds
returns-clause-bounds c =
    let table = c.loop-self.self.entries.items in
    let number = c.args.number in
    let inside : number < length table = omega arith in
    ap (λ x. static_of x.first) (c.index.ensures ∙ get_or_default table number c.index.result.now nothing_known inside)
    ∙ (c.loop-self.invariant.are number inside).first
