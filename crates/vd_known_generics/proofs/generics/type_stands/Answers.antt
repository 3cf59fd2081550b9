use Rattle.std.proofs.Common.{◌∷◌, subst}
use Rattle.vd_known_generics.proofs.StandingLemmas.{first_left, next_more, next_missing}
use Rattle.vd_known_forms.proofs.ObjectLemmas.{knows_changed}
use Rattle.vd_known_designs.specs.Known.{AreKnown}
use Rattle.vd_value_rules.specs.Declaring.{type_stands}
use Rattle.vd_known_generics.proofs.generics.type_stands.Goals as goal

pub set_type-requires-clause-own_in : goal.set_type-requires-clause-own_in
set_type-requires-clause-own_in c =
    let r = c.requires.ready in
    (first_left r.design c.args.design.now r.round c.in-Some.next.first.now c.args.actuals.now c.in-Some.next.rest.now r.so_far c.in-Some.ensures r.stands).is.indicated_is.own.within

pub set_type-requires-clause-choosing_in : goal.set_type-requires-clause-choosing_in
set_type-requires-clause-choosing_in c =
    let r = c.requires.ready in
    (first_left r.design c.args.design.now r.round c.in-Some.next.first.now c.args.actuals.now c.in-Some.next.rest.now r.so_far c.in-Some.ensures r.stands).is.indicated_is.choosing.within

pub returns-clause-stands : goal.returns-clause-stands
returns-clause-stands c = λ d s ks stands.
    let x = c.args.design.now in
    let y = c.set_type.new.self in
    let next = c.in-Some.next in
    next_more d x (record x { table = y }) ks type_stands c.args.number next.first.now c.args.actuals.now next.rest.now s c.in-Some.ensures stands c.in_ok-set_type.ensures.extends
    (λ k a is knows. knows_changed d x y (k ∷ ks) (type_stands c.args.number a k ∷ ks) c.in_ok-set_type.ensures.extends
    (λ table. subst (λ n. AreKnown d.table y (type_stands n a k ∷ ks)) c.number.ensures
    (c.in_ok-set_type.ensures.known d.table (record { own = a.own.indicated; choosing = a.choosing.indicated }) k ks table is.indicated_is.own is.indicated_is.choosing)) knows)

pub returns-in_default-clause-stands : goal.returns-in_default-clause-stands
returns-in_default-clause-stands c = λ d s ks stands.
    next_missing d c.args.design.now ks type_stands c.args.number c.args.actuals.now s c.in_default.ensures stands
