use Rattle.std.proofs.Common.{◌<◌, ap, arith, length, refl, slice_index_or, subst, ◌∙◌}
use Rattle.vd_forest.specs.Forest.{more}
use Rattle.vd_forest.specs.Store.{Holds, at}
use Rattle.vd_value_rules.specs.Inside.{IsInside, form_inside}
use Rattle.vd_value_rules.proofs.InsideLemmas.{inside_added, inside_same}
use Rattle.vd_value_rules.proofs.inside.inside_trees.Goals as goal

pub returns-then-is_inside-clause-inside : goal.returns-then-is_inside-clause-inside
returns-then-is_inside-clause-inside c =
    let head = c.in-Some.head in
    let store = c.args.store.now in
    let known = c.args.known.now in
    let parts_in : head.parts < length known = omega (arith, c.in-Some.ensures.older, c.requires.lower_in) in
    let next_in : head.next < length known = omega (arith, c.in-Some.ensures.older, c.requires.lower_in) in
    let parts : IsInside store head.parts (at store head.parts) = subst (λ n. IsInside store n (at store head.parts)) c.if-parts-head.true (c.requires.known.are head.parts parts_in) in
    let next : IsInside store head.next (at store head.next) = subst (λ n. IsInside store n (at store head.next)) c.if-next-head.true (c.requires.known.are head.next next_in) in
    inside_same store c.args.number head.parts head.next head.form head.text.now head.place c.requires.number_in c.in-Some.ensures.is parts next (c.if-is_inside.ensures refl)

pub returns-clause-inside : goal.returns-clause-inside
returns-clause-inside c =
    let head = c.in-Some.head in
    let store = c.args.store.now in
    let known = c.args.known.now in
    let parts_in : head.parts < length known = omega (arith, c.in-Some.ensures.older, c.requires.lower_in) in
    let next_in : head.next < length known = omega (arith, c.in-Some.ensures.older, c.requires.lower_in) in
    let a = slice_index_or known head.parts 0 in
    let b = slice_index_or known head.next 0 in
    let held = c.in_ok-made.ensures.holds in
    let same_text = c.deref.ensures.value ∙ c.in_ok-text.ensures.items in
    let added : Holds c.add.new.self c.in_ok-made.made (more (form_inside head.form) head.text.now head.place (at store a) (at store b)) = record {
      within = held.within;
      is =
          held.is
          ∙ ap (λ f. more f c.deref.result.now head.place (at store a) (at store b)) c.inside_form-form.ensures
          ∙ ap (λ t. more (form_inside head.form) t head.place (at store a) (at store b)) same_text;
    } in
    inside_added store c.add.new.self (at store c.args.number) c.in_ok-made.made a b head.form head.text.now head.place (at store head.parts) (at store head.next)
    c.in-Some.ensures.is (c.requires.known.are head.parts parts_in) (c.requires.known.are head.next next_in) added
