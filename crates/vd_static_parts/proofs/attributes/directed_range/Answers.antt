use Rattle.std.proofs.Common.{false}
use Rattle.vd_meaning.specs.Names.{attribute_read, bounds_known, range_value}
use Rattle.vd_static_parts.proofs.BoundLemmas.{not_known}
use Rattle.vd_static_parts.proofs.attributes.directed_range.Goals as goal

pub returns-then-not-known-clause-named : goal.returns-then-not-known-clause-named
returns-then-not-known-clause-named c = λ e p ground is.
    let known = c.bounds_known-known.ensures e p is in
    c.range.ensures.named c.args.ground.now.subtypes.now e (range_value c.args.backwards c.args.index p) c.args.index (bounds_known p) (attribute_read false p) known
    (λ local. absurd (not_known c.bounds_known-known.result (bounds_known p e) known c.if-not-known.true local))

pub returns-clause-named : goal.returns-clause-named
returns-clause-named c = λ e p ground is.
    c.range-2.ensures.named c.args.ground.now.subtypes.now e (range_value c.args.backwards c.args.index p) c.args.index (bounds_known p) (attribute_read false p)
    (c.bounds_known-known.ensures e p is) (c.range_value.ensures e p ground is)
