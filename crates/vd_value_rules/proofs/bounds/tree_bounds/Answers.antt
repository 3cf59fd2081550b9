use Rattle.std.proofs.Common.{◌<◌, length, arith, slice_index_or}
use Rattle.vd_forest.specs.Store.{at}
use Rattle.vd_value_rules.proofs.BoundLemmas.{bounds_of_more}
use Rattle.vd_value_rules.specs.TreeBounds.{nothing_known}
use Rattle.vd_value_rules.proofs.bounds.tree_bounds.Goals as goal

pub returns : goal.returns
returns c =
    let head = c.in-Some.head in
    let store = c.args.store.now in
    let known = c.args.known.now in
    let parts_in : head.parts < length known = omega (arith, c.in-Some.ensures.older, c.requires.lower_in) in
    let next_in : head.next < length known = omega (arith, c.in-Some.ensures.older, c.requires.lower_in) in
    bounds_of_more (at store c.args.number) head.form head.text.now head.place (at store head.parts) (at store head.next)
    c.form_bounds-first.result c.both.result (slice_index_or known head.next nothing_known) c.in-Some.ensures.is
    (c.requires.known.are head.next next_in) (c.form_bounds-first.ensures (at store head.parts) (c.requires.known.are head.parts parts_in)) c.both.ensures
