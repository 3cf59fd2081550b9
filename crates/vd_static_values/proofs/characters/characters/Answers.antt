use Rattle.std.proofs.Common.{refl, subst, sym}
use Rattle.vd_forest.specs.Forest.{more}
use Rattle.vd_value_rules.specs.Indicated.{texts_in}
use Rattle.vd_static_values.proofs.CharacterLemmas.{IsSoFar, so_far_all, so_far_more, so_far_none}
use Rattle.vd_static_values.proofs.characters.characters.Goals as goal

pub loop-first-init : goal.loop-first-init
loop-first-init c =
    let texts = texts_in c.args.literals.now in
    subst (λ f. IsSoFar c.in_ok-table.table.items 0 (texts_in f) texts) (sym c.fork-left.ensures)
    (so_far_none 256 c.in_ok-table.table.items texts refl c.in_ok-table.ensures.items)

pub loop-first-preserved : goal.loop-first-preserved
loop-first-preserved c =
    let first = c.in-Some.first in
    let texts = texts_in c.args.literals.now in
    let before : IsSoFar c.loop-first.table.items c.loop-first.place (texts_in (more first.form first.text.now first.place first.parts first.next)) texts =
    subst (λ f. IsSoFar c.loop-first.table.items c.loop-first.place (texts_in f) texts) c.in-Some.ensures c.loop-first.invariant in
    subst (λ n. IsSoFar c.enter.new.table.items n (texts_in first.next) texts) (sym c.in-Some-checked_add.ensures.1)
    (so_far_more c.loop-first.table.items c.enter.new.table.items c.loop-first.place first.text.now (texts_in first.next) texts before c.enter.ensures)

pub returns : goal.returns
returns c =
    let texts = texts_in c.args.literals.now in
    so_far_all c.loop-first.table.items c.loop-first.place texts
    (subst (λ f. IsSoFar c.loop-first.table.items c.loop-first.place (texts_in f) texts) c.in_default.ensures c.loop-first.invariant)
