use Rattle.std.proofs.Common.{false}
use Rattle.vd_meaning.specs.Names.{attribute_read, bound_value, bounds_known}
use Rattle.vd_static_parts.proofs.BoundLemmas.{not_known}
use Rattle.vd_static_parts.proofs.attributes.bound.Goals as goal

pub returns-then-not-known-clause-named : goal.returns-then-not-known-clause-named
returns-then-not-known-clause-named c = λ e p ground is.
    let known = c.bounds_known-known.ensures e p is in
    c.fresh.ensures.named c.args.ground.now.subtypes.now e (bound_value c.args.side c.args.index p) c.args.index (bounds_known p) (attribute_read false p) known
    (λ local. absurd (not_known c.bounds_known-known.result (bounds_known p e) known c.if-not-known.true local))

pub returns-clause-named : goal.returns-clause-named
returns-clause-named c = λ e p ground is.
    c.fresh-2.ensures.named c.args.ground.now.subtypes.now e (bound_value c.args.side c.args.index p) c.args.index (bounds_known p) (attribute_read false p)
    (c.bounds_known-known.ensures e p is) (c.in_ok-value.ensures e p ground is)
