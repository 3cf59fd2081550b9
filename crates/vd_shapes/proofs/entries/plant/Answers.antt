use Rattle.std.proofs.Common.{sym, subst, ◌∙◌}
use Rattle.vd_forest.specs.Forest.{more}
use Rattle.vd_forest.specs.Store.{at, Holds}
use Rattle.vd_shapes.specs.Shapes.{place_at}
use Rattle.vd_shapes.specs.Standing.{tree_of}
use Rattle.vd_shapes.proofs.EntryLemmas.{added_with}
use Rattle.vd_shapes.proofs.entries.plant.Goals as goal

pub returns-clause-holds : goal.returns-clause-holds
returns-clause-holds c =
    let s = c.args.store.now in
    let e = c.args.entry in
    let text = c.text_of-text.ensures s in
    added_with _ c.add.new.self c.in_ok-made-2.made e.form (tree_of s c.args.tokens.now e).text (place_at c.args.tokens.now e.first) (at s e.parts) (at s c.args.next)
    (sym c.loses_brackets.ensures ∙ c.if-loses_brackets.false)
    (subst (Holds c.add.new.self c.in_ok-made-2.made) (λ i. more e.form (text i) (c.place_at.ensures i) (at s e.parts) (at s c.args.next)) c.in_ok-made-2.ensures.holds)
