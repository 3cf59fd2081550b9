use Rattle.vd_environments.specs.Environments.{all_bounds}
use Rattle.vd_meaning.specs.Names.{conversion_known}
use Rattle.vd_static_parts.proofs.BoundLemmas.{not_known}
use Rattle.vd_static_parts.specs.Conversions.{qualified_by}
use Rattle.vd_static_names.proofs.StopLemmas.{right_true}
use Rattle.vd_static_parts.proofs.conversions.qualified.Goals as goal

pub returns-then-not-known-clause-named : goal.returns-then-not-known-clause-named
returns-then-not-known-clause-named c = λ e m v kn inner ground sort found.
    let known = c.conversion_known-known.ensures e kn ground sort in
    c.fresh.ensures.named c.args.ground.now.subtypes.now e (qualified_by c.args.mark v) m (conversion_known c.args.mark kn) inner known
    (λ local. absurd (not_known c.conversion_known-known.result (conversion_known c.args.mark kn e) known c.if-not-known.true local))

pub returns-clause-named : goal.returns-clause-named
returns-clause-named c = λ e m v kn inner ground sort found.
    c.fresh-2.ensures.named c.args.ground.now.subtypes.now e (qualified_by c.args.mark v) m (conversion_known c.args.mark kn) inner
    (c.conversion_known-known.ensures e kn ground sort)
    (λ local. c.in_ok-value.ensures e v ground (found (right_true (all_bounds (e.denotes c.args.mark).make).is_local (kn e).is_local local)))
