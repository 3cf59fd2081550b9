use Rattle.std.proofs.Common.{None, Some, [], ap, subst, sym, true, ◌++◌, ◌∙◌, ◌∷◌, ◌≡◌}
use Rattle.std.specs.Prelude.{is_some}
use Rattle.vd_value_rules.specs.Indicated.{index_of, indicated_in}
use Rattle.vd_value_rules.specs.Found.{found}
use Rattle.vd_static_values.proofs.LevelLemmas.{element_is_less, level_of, opened_first, opened_last, opened_more, opened_stops}
use Rattle.vd_static_values.specs.Finding.{IsListFound}
use Rattle.vd_static_values.specs.Levels.{AreSized, all_whole, elements_of, inside_converted, lists_in}
use Rattle.vd_static_values.proofs.converting.opened.Goals as goal

pub loop-of-init : goal.loop-of-init
loop-of-init c =
    let s = (indicated_in c.args.subtype.now).subtype in
    let inner = c.push.new.self.items in
    let outer = c.new-outer.result.items in
    opened_first s c.args.whole inner (c.in_ok-push.ensures.items ∙ ap (λ vs. vs ++ c.args.whole ∷ []) c.new-inner.ensures.items)
    ∙ ap (λ ls. found (level_of ls s inner)) (sym (ap lists_in c.new-outer.ensures.items)) ∙ ap (λ f. found (level_of (lists_in outer) (indicated_in f).subtype inner)) (sym c.fork-of.ensures)

pub loop-of-preserved : goal.loop-of-preserved
loop-of-preserved c =
    let want = inside_converted (indicated_in c.args.subtype.now).subtype c.args.whole in
    let i = indicated_in c.loop-of.of in
    let j = indicated_in c.element-of.result in
    let arrays = c.loop-of.inner in
    let elements = c.in_ok-elements.elements.items in
    let indexed : is_some (index_of i.subtype) ≡ true = ap is_some (sym c.index.ensures) ∙ sym c.loop-of-test.ensures in
    let sized : AreSized arrays.items = subst AreSized c.deref.ensures.value c.in_ok-elements.ensures.sized in
    let are : elements ≡ elements_of arrays.items = c.in_ok-elements.ensures.elements ∙ ap elements_of c.deref.ensures.value in
    let fits : IsListFound (Some c.in-Some.converted) (all_whole j.subtype elements) =
    subst (λ vs. IsListFound (Some c.in-Some.converted) (all_whole j.subtype vs)) c.deref-in-loop-of.ensures.value
    (subst (λ x. IsListFound x (all_whole j.subtype c.deref-in-loop-of.result.now)) c.in-Some.is c.in_ok-converted.ensures) in
    opened_more want i j c.loop-of.outer.items c.push-in-loop-of.new.self.items arrays elements c.in-Some.converted.items indexed c.element-of.ensures sized are fits
    c.in_ok-push-2.ensures.items c.loop-of.invariant

pub loop-of-smaller : goal.loop-of-smaller
loop-of-smaller c = element_is_less (indicated_in c.loop-of.of) (indicated_in c.element-of.result) (ap is_some (sym c.index.ensures) ∙ sym c.loop-of-test.ensures) c.element-of.ensures

pub returns-in_default : goal.returns-in_default
returns-in_default c =
    let want = inside_converted (indicated_in c.args.subtype.now).subtype c.args.whole in
    let i = indicated_in c.loop-of.of in
    let j = indicated_in c.element-of.result in
    let arrays = c.loop-of.inner.items in
    let elements = c.in_ok-elements.elements.items in
    let indexed : is_some (index_of i.subtype) ≡ true = ap is_some (sym c.index.ensures) ∙ sym c.loop-of-test.ensures in
    let sized : AreSized arrays = subst AreSized c.deref.ensures.value c.in_ok-elements.ensures.sized in
    let are : elements ≡ elements_of arrays = c.in_ok-elements.ensures.elements ∙ ap elements_of c.deref.ensures.value in
    let stops : IsListFound None (all_whole j.subtype elements) =
    subst (λ vs. IsListFound None (all_whole j.subtype vs)) c.deref-in-loop-of.ensures.value
    (subst (λ x. IsListFound x (all_whole j.subtype c.deref-in-loop-of.result.now)) c.in_default.is c.in_ok-converted.ensures) in
    opened_stops want i j c.loop-of.outer.items arrays elements indexed c.element-of.ensures sized are stops c.loop-of.invariant

pub returns : goal.returns
returns c =
    let want = inside_converted (indicated_in c.args.subtype.now).subtype c.args.whole in
    opened_last want (indicated_in c.loop-of.of).subtype (lists_in c.loop-of.outer.items) c.loop-of.inner.items (ap is_some (sym c.index.ensures) ∙ sym c.loop-of-test.ensures) c.loop-of.invariant
