use Rattle.std.proofs.Common.{◌≤◌, ◌<◌, ◌≡◌, ◌+◌, ◌++◌, ◌∷◌, [], ap, append-nil, append_assoc, arith, length, min, suc, subst, sym, ◌∙◌}
use Rattle.vd_known_generics.proofs.ActualLemmas.{all_from, none_behind, one_more}
use Rattle.vd_known_generics.specs.Actuals.{AreActuals}
use Rattle.vd_known_generics.proofs.actuals.actuals_between.Goals as goal

pub loop-at-preserved : goal.loop-at-preserved
loop-at-preserved c = λ d k ks ys knows are xs rest.
    let fs = c.args.design.now.table.subtypes in
    let gs = c.args.generics.now in
    let cs = c.args.copies.now in
    let at = c.loop-at.at in
    let here = c.in_ok-actual.ensures d k ks ys knows are in
    let all = c.loop-at.invariant d k ks ys knows are (c.in_ok-actual.actual ∷ xs)
    (one_more d k ys fs at (at + 1) c.index-generics-at.result c.index-copies-at.result gs cs c.in_ok-actual.actual xs (omega arith) (omega arith) (omega arith) c.index-generics-at.is c.index-copies-at.is here rest) in
    subst (λ l. AreActuals fs d.table l (all_from d k ys 0 gs cs)) (sym (append_assoc c.loop-at.actuals.items (c.in_ok-actual.actual ∷ []) xs) ∙ ap (λ l. l ++ xs) (sym c.in_ok-push.ensures.items)) all

pub returns : goal.returns
returns c = λ d k ks ys knows are.
    let fs = c.args.design.now.table.subtypes in
    let gs = c.args.generics.now in
    let cs = c.args.copies.now in
    let at = c.loop-at.at in
    subst (λ l. AreActuals fs d.table l (all_from d k ys 0 gs cs)) (append-nil c.loop-at.actuals.items)
    (c.loop-at.invariant d k ks ys knows are [] (none_behind d k ys fs at gs cs (omega arith)))
