use Rattle.std.proofs.Common.{sym, ◌∙◌}
use Rattle.vd_gram.proofs.LinkLemmas.{open_leaf, open_node, from_step}
use Rattle.vd_gram.proofs.derivation.Cursor.open.Goals as goal

pub returns-in-Leaf : goal.returns-in-Leaf
returns-in-Leaf c =
    let i = c.self.inside in
    sym c.self.view_is
    ∙ open_leaf i.steps.now i.ends.now i.start i.count c.in-Leaf.symbol c.in-Leaf.place c.if-self-eq0.false c.if-self.false c.self.invariant
    (from_step i.steps.now i.start _ _ c.if-self.false c.in-Leaf.is)

pub returns-in-Node : goal.returns-in-Node
returns-in-Node c =
    let i = c.self.inside in
    sym c.self.view_is
    ∙ open_node i.steps.now i.ends.now i.start i.count c.in-Node.production c.in-Node.parts c.if-self-eq0.false c.if-self.false c.self.invariant
    (from_step i.steps.now i.start _ _ c.if-self.false c.in-Node.is)
