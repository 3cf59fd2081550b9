use Rattle.vd_static_rules.proofs.StaticLemmas.{part_refused}
use Rattle.vd_static_rules.proofs.statics.not_global.Goals as goal

pub returns-clause-finds : goal.returns-clause-finds
returns-clause-finds c = λ d k ks knows.
    part_refused d k.env c.args.number c.args.parts.now c.skip.result c.refused_if.result c.is_static-is_later.result c.in_ok-part.part.sense.known c.place_at.result
    c.refused_if.ensures c.is_static-is_later.ensures (c.in_ok-part.ensures.node d k ks knows).sense.known c.skip.ensures c.place_at.ensures
