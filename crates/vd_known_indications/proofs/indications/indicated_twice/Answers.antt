use Rattle.std.proofs.Common.{subst, sym}
use Rattle.vd_known_indications.proofs.IndicationLemmas.{twice_marked, twice_narrowed}
use Rattle.vd_meaning.specs.Meanings.{meanings}
use Rattle.vd_static_values.specs.Nodes.{AreNodes}
use Rattle.vd_known_indications.proofs.indications.indicated_twice.Goals as goal

pub narrowed-requires-clause-own_in : goal.narrowed-requires-clause-own_in
narrowed-requires-clause-own_in c =
    let r = c.requires.ready in
    (c.marked-of.ensures r.design r.now r.round (c.in_ok-nodes.ensures.knows r.design _ r.knows)).own.within

pub narrowed-requires-clause-choosing_in : goal.narrowed-requires-clause-choosing_in
narrowed-requires-clause-choosing_in c =
    let r = c.requires.ready in
    (c.marked-of.ensures r.design r.now r.round (c.in_ok-nodes.ensures.knows r.design _ r.knows)).choosing.within

pub returns-in-Some-clause-indicated : goal.returns-in-Some-clause-indicated
returns-in-Some-clause-indicated c = λ d k ks knows.
    let nodes = c.in_ok-nodes.ensures.nodes d k ks knows in
    let here = subst (λ xs. AreNodes c.args.design.now.table.subtypes k.env xs (meanings d.table c.args.parts.now)) (sym c.deref.ensures.value) nodes in
    let there = subst (λ xs. AreNodes c.args.design.now.table.subtypes k.env xs (meanings d.table c.args.parts.now)) (sym c.deref-2.ensures.value) nodes in
    twice_narrowed d k c.args.parts.now c.nodes.new.design.table.subtypes c.narrowed.new.self.table.subtypes c.marked-of.result c.mark_of.result c.constraint_of.result c.in-Some.constraint c.narrowed.result
    (c.mark_of.ensures c.args.design.now.table.subtypes k.env (meanings d.table c.args.parts.now) here)
    (c.marked-of.ensures d k ks (c.in_ok-nodes.ensures.knows d _ knows)) c.in-Some.is
    (c.constraint_of.ensures c.args.design.now.table.subtypes k.env (meanings d.table c.args.parts.now) there) c.narrowed.ensures.narrowed

pub returns-clause-indicated : goal.returns-clause-indicated
returns-clause-indicated c = λ d k ks knows.
    let nodes = c.in_ok-nodes.ensures.nodes d k ks knows in
    let here = subst (λ xs. AreNodes c.args.design.now.table.subtypes k.env xs (meanings d.table c.args.parts.now)) (sym c.deref.ensures.value) nodes in
    let there = subst (λ xs. AreNodes c.args.design.now.table.subtypes k.env xs (meanings d.table c.args.parts.now)) (sym c.deref-2.ensures.value) nodes in
    twice_marked d k c.args.parts.now c.nodes.new.design.table.subtypes c.marked-of.result c.mark_of.result c.constraint_of.result
    (c.mark_of.ensures c.args.design.now.table.subtypes k.env (meanings d.table c.args.parts.now) here)
    (c.marked-of.ensures d k ks (c.in_ok-nodes.ensures.knows d _ knows)) c.in-None.is
    (c.constraint_of.ensures c.args.design.now.table.subtypes k.env (meanings d.table c.args.parts.now) there)
