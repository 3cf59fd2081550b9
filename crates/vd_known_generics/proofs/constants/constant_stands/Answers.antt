use Rattle.std.proofs.Common.{◌∷◌, subst, sym}
use Rattle.vd_known_designs.specs.Designs.{AreIndicated}
use Rattle.vd_known_generics.proofs.ConstantLemmas.{default_stands, given_stands}
use Rattle.vd_meaning.specs.Facets.{nth}
use Rattle.vd_meaning.specs.Meanings.{meanings}
use Rattle.vd_known_generics.proofs.constants.constant_stands.Goals as goal

pub returns-in-Some-clause-knows : goal.returns-in-Some-clause-knows
returns-in-Some-clause-knows c = λ d i k ks a is knows are.
    given_stands c.constant_set.result d c.constant_set.new.design (nth 0 (meanings d.table c.args.default.now)) i c.args.number k ks
    c.args.actual.now.given c.in-Some.given a.own.value a.own.known c.in-Some.is is.given_is
    (λ argument stands. c.constant_set.ensures.knows d i k ks argument stands knows are)

pub returns-in_ok-node-in-None-clause-knows : goal.returns-in_ok-node-in-None-clause-knows
returns-in_ok-node-in-None-clause-knows c = λ d i k ks a is knows are.
    let old = c.args.design.now.table.subtypes in
    let after = c.in_ok-node-in-None.ensures.knows d (k ∷ ks) knows in
    let here = subst (λ fs. AreIndicated fs c.args.of i) (sym c.in_ok-node-in-None.ensures.subtypes) are in
    default_stands c.constant_set-in-None.result d c.constant_set-in-None.new.design (nth 0 (meanings d.table c.args.default.now)) i c.args.number k ks
    old c.args.actual.now.given c.in_ok-node-in-None.node.sense a.own.value a.own.known c.in-None.is is.given_is
    (c.in_ok-node-in-None.ensures.node d k ks knows).sense
    (λ argument stands. c.constant_set-in-None.ensures.knows d i k ks argument stands after here)
