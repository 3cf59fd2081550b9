use Rattle.std.proofs.Common.{subst, sym}
use Rattle.vd_forest.proofs.StoreLemmas.{extends_same}
use Rattle.vd_forest.specs.Store.{Extends}
use Rattle.vd_known_generics.proofs.FunctionLemmas.{copy_stands}
use Rattle.vd_known_generics.proofs.StandingLemmas.{next_more, next_missing}
use Rattle.vd_known_generics.specs.Standing.{function_of_copy}
use Rattle.vd_known_generics.proofs.generics.function_stands.Goals as goal

pub function_set-requires : goal.function_set-requires
function_set-requires c =
    let r = c.requires.ready in
    record { own_in = (c.actual_function-function.ensures r.design r.so_far.known r.round r.stands.knows).result_is.own.within }

pub returns-clause-stands : goal.returns-clause-stands
returns-clause-stands c = λ d s ks stands.
    let x = c.args.design.now in
    let y = c.function_set.new.design in
    let next = c.in-Some.next in
    next_more d x y ks (function_of_copy d) c.args.number next.first.now c.args.actuals.now next.rest.now s c.in-Some.ensures stands
    (subst (Extends x.table.subtypes) (sym c.in_ok-function_set.ensures.same) (extends_same x.table.subtypes))
    (λ k a is knows. copy_stands d y c.args.number next.first.now.copy a k ks is.copy_is
    (c.in_ok-function_set.ensures.knows d _ _ _ _ k ks knows (c.actual_function-function.ensures d k ks knows)))

pub returns-in_default-clause-stands : goal.returns-in_default-clause-stands
returns-in_default-clause-stands c = λ d s ks stands.
    next_missing d c.args.design.now ks (function_of_copy d) c.args.number c.args.actuals.now s c.in_default.ensures stands
