use Rattle.std.proofs.Common.{◌≡◌, Bool, true, Some, None, length, if◌then◌else◌, refl, sym, ap, ◌∙◌}
use Rattle.vd_choices.specs.TextOrder.{has_text, next_text}
use Rattle.vd_choices.proofs.CoverLemmas.{tried_start, tried_more, tried_all, follows, Follows}
use Rattle.vd_choices.proofs.covering.are_all_seen.Goals as goal

pub loop-within-init : goal.loop-within-init
loop-within-init c = tried_start c.args.within (has_text c.args.seen.now.keys) (length c.args.text.now) c.requires.proper c.args.text.now c.requires.least

pub returns-then-not-advance : goal.returns-then-not-advance
returns-then-not-advance c =
    let here : has_text c.args.seen.now.keys c.loop-within.text ≡ true = sym c.contains.ensures ∙ c.if-not-contains.false in
    let none : next_text c.args.within c.loop-within.text ≡ None = c.advance.ensures ∙ ap (λ (b : Bool). if b then Some c.advance.new.text else None) c.if-not-advance.true in
    ((λ t. tried_all c.args.within (has_text c.args.seen.now.keys) (length c.args.text.now) c.loop-within.text c.loop-within.invariant here none), λ h. refl)

pub loop-within-smaller : goal.loop-within-smaller
loop-within-smaller c =
    let some : next_text c.args.within c.loop-within.text ≡ Some c.advance.new.text = c.advance.ensures ∙ ap (λ (b : Bool). if b then Some c.advance.new.text else None) c.if-not-advance.false in
    let f : Follows c.args.within c.loop-within.text c.advance.new.text = follows c.args.within c.loop-within.text c.advance.new.text some in
    f.fewer c.loop-within.invariant.inside

pub loop-within-preserved : goal.loop-within-preserved
loop-within-preserved c =
    let here : has_text c.args.seen.now.keys c.loop-within.text ≡ true = sym c.contains.ensures ∙ c.if-not-contains.false in
    let some : next_text c.args.within c.loop-within.text ≡ Some c.advance.new.text = c.advance.ensures ∙ ap (λ (b : Bool). if b then Some c.advance.new.text else None) c.if-not-advance.false in
    tried_more c.args.within (has_text c.args.seen.now.keys) (length c.args.text.now) c.loop-within.text c.loop-within.invariant here c.advance.new.text some
