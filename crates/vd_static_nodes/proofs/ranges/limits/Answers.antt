use Rattle.vd_meaning.specs.Facets.{known_of, nth}
use Rattle.vd_meaning.specs.Meanings.{limits}
use Rattle.vd_static_parts.proofs.StaticLemmas.{not_local}
use Rattle.vd_static_nodes.proofs.ranges.limits.Goals as goal

pub returns-then-not-known-clause-node : goal.returns-then-not-known-clause-node
returns-then-not-known-clause-node c = λ g e ms seen are.
    let store = g.subtypes.now in
    let known = c.known_of-known.ensures store e ms are in
    c.ranging.ensures.node store e ms (limits c.args.down (nth 0 ms) (nth 1 ms)) (known_of ms) known
    (λ local. absurd (not_local c.known_of-known.result (known_of ms e) known c.if-not-known.true local))

pub returns-clause-node : goal.returns-clause-node
returns-clause-node c = λ g e ms seen are.
    let store = g.subtypes.now in
    c.ranging-2.ensures.node store e ms (limits c.args.down (nth 0 ms) (nth 1 ms)) (known_of ms) (c.known_of-known.ensures store e ms are)
    (λ local. c.in_ok-range.ensures store e ms are local)
