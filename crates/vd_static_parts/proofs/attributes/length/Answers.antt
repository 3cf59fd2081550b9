use Rattle.std.proofs.Common.{false}
use Rattle.vd_meaning.specs.Names.{attribute_read, bounds_known, length_value}
use Rattle.vd_static_parts.proofs.BoundLemmas.{not_known, shape_known}
use Rattle.vd_static_parts.proofs.attributes.length.Goals as goal

pub returns-then-not-known-clause-named : goal.returns-then-not-known-clause-named
returns-then-not-known-clause-named c = λ e p is.
    let known = c.bounds_known-known.ensures e p is in
    c.fresh.ensures.named c.args.ground.now.subtypes.now e (length_value p) c.args.index (bounds_known p) (attribute_read false p) known
    (λ local. absurd (not_known c.bounds_known-known.result (bounds_known p e) known c.if-not-known.true local))

pub returns-clause-named : goal.returns-clause-named
returns-clause-named c = λ e p is.
    let store = c.args.ground.now.subtypes.now in
    c.fresh-2.ensures.named store e (length_value p) c.args.index (bounds_known p) (attribute_read false p) (c.bounds_known-known.ensures e p is)
    (λ local. c.in_ok-value.ensures (p.shape e) (shape_known store e c.args.name.now p is local))
