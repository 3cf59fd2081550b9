use Rattle.std.proofs.Common.{◌≡◌, true≢false, ap, ◌∙◌, refl, get_or}
use Rattle.vd_choices.specs.declared.texts.Text.{Text}
use Rattle.vd_choices.specs.Texts.{IsFirstRepeatedText, texts_of}
use Rattle.vd_choices.proofs.TextLemmas.{first_here, new_more, new_end, old_from, new_from}
use Rattle.vd_choices.proofs.texts.first_repeated_text.Goals as goal

pub returns-then-not-branch-clause-first : goal.returns-then-not-branch-clause-first
returns-then-not-branch-clause-first c =
    let is : c.as_slice.result.now ≡ (get_or c.args.choices.now c.loop-k.k c.index-choices-k.result).positions.items = c.as_slice.ensures.value ∙ ap (λ (t : Text). t.positions.items) c.index-choices-k.is in
    first_here c.loop-k.seen.keys c.as_slice.result c.args.choices.now c.loop-k.k c.index-choices-k.result c.loop-k.invariant c.loop-k-test.true is (old_from _ _ c.in_ok-insert.ensures.added c.if-not-branch.true)

pub returns-then-not-branch-clause-none : goal.returns-then-not-branch-clause-none
returns-then-not-branch-clause-none c =
    let is : c.as_slice.result.now ≡ (get_or c.args.choices.now c.loop-k.k c.index-choices-k.result).positions.items = c.as_slice.ensures.value ∙ ap (λ (t : Text). t.positions.items) c.index-choices-k.is in
    let first : IsFirstRepeatedText (texts_of c.args.choices.now) c.loop-k.k =
    first_here c.loop-k.seen.keys c.as_slice.result c.args.choices.now c.loop-k.k c.index-choices-k.result c.loop-k.invariant c.loop-k-test.true is (old_from _ _ c.in_ok-insert.ensures.added c.if-not-branch.true) in
    ((λ e. absurd (true≢false e)), λ none. absurd (none (c.loop-k.k, first.0)))

pub loop-k-preserved : goal.loop-k-preserved
loop-k-preserved c =
    let is : c.as_slice.result.now ≡ (get_or c.args.choices.now c.loop-k.k c.index-choices-k.result).positions.items = c.as_slice.ensures.value ∙ ap (λ (t : Text). t.positions.items) c.index-choices-k.is in
    new_more c.loop-k.seen.keys c.as_slice.result c.args.choices.now c.loop-k.k c.index-choices-k.result c.loop-k.invariant c.loop-k-test.true is c.insert.new.self.keys c.in_ok-insert.ensures.keys (new_from _ _ c.in_ok-insert.ensures.added c.if-not-branch.false)

pub returns-clause-none : goal.returns-clause-none
returns-clause-none c = ((λ e. new_end _ _ _ c.loop-k.invariant c.loop-k-test.false), λ none. refl)
