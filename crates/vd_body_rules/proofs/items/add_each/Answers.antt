use Rattle.vd_body_rules.proofs.ItemLemmas.{each_ended}
use Rattle.vd_body_rules.proofs.items.add_each.Goals as goal
use Rattle.vd_body_rules.specs.Items.{first_trees, items_of}

pub returns-else-k-numbers : goal.returns-else-k-numbers
returns-else-k-numbers c =
    each_ended c.args.form c.args.names.now c.args.numbers.now c.loop-k.k (first_trees c.args.count c.args.trees.now) (items_of c.loop-k.found.items) _
    c.loop-k.invariant c.if-k-numbers.false
