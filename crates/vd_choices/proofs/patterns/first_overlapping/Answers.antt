use Rattle.std.proofs.Common.{◌≡◌, true, false, true≢false, if◌then◌else◌, refl, sym, ap, ◌∙◌, get_or, take}
use Rattle.vd_choices.specs.declared.patterns.Pattern.{Pattern}
use Rattle.vd_choices.specs.Patterns.{IsFirstOverlapping, patterns_of}
use Rattle.vd_choices.specs.Bits.{has_dash, keys_of, overlaps_borrowed, overlaps_choice}
use Rattle.vd_choices.proofs.PatternLemmas.{first_by_bits, first_by_look, looked_more, looked_end}
use Rattle.vd_choices.proofs.patterns.first_overlapping.Goals as goal

pub returns-then-branch-clause-first : goal.returns-then-branch-clause-first
returns-then-branch-clause-first c =
    let is : c.as_slice-elements.result.now ≡ (get_or c.args.choices.now c.loop-k.k c.index-choices-k.result).elements.items = c.as_slice-elements.ensures.value ∙ ap (λ (t : Pattern). t.elements.items) c.index-choices-k.is in
    first_by_bits (keys_of c.loop-k.seen.keys) c.loop-k.dashed.items c.args.choices.now c.loop-k.k c.loop-k.invariant c.as_slice-elements.result.now c.index-choices-k.result c.loop-k-test.true is
    (sym c.in_ok-add_bits.ensures.answer ∙ c.if-branch.true)

pub returns-then-branch-clause-none : goal.returns-then-branch-clause-none
returns-then-branch-clause-none c =
    let is : c.as_slice-elements.result.now ≡ (get_or c.args.choices.now c.loop-k.k c.index-choices-k.result).elements.items = c.as_slice-elements.ensures.value ∙ ap (λ (t : Pattern). t.elements.items) c.index-choices-k.is in
    let first : IsFirstOverlapping (patterns_of c.args.choices.now) c.loop-k.k =
    first_by_bits (keys_of c.loop-k.seen.keys) c.loop-k.dashed.items c.args.choices.now c.loop-k.k c.loop-k.invariant c.as_slice-elements.result.now c.index-choices-k.result c.loop-k-test.true is
    (sym c.in_ok-add_bits.ensures.answer ∙ c.if-branch.true) in
    ((λ e. absurd (true≢false e)), λ none. absurd (none (c.loop-k.k, first.0)))

pub returns-then-overlaps-clause-first : goal.returns-then-overlaps-clause-first
returns-then-overlaps-clause-first c =
    let is : c.as_slice-elements.result.now ≡ (get_or c.args.choices.now c.loop-k.k c.index-choices-k.result).elements.items = c.as_slice-elements.ensures.value ∙ ap (λ (t : Pattern). t.elements.items) c.index-choices-k.is in
    let some : (if has_dash c.as_slice-elements.result.now then overlaps_choice (take c.loop-k.k c.args.choices.now) c.as_slice-elements.result.now else overlaps_borrowed c.loop-k.dashed.items c.as_slice-elements.result.now) ≡ true =
    sym (ap (λ arrays. if has_dash c.as_slice-elements.result.now then overlaps_choice (take c.loop-k.k c.args.choices.now) c.as_slice-elements.result.now else overlaps_borrowed arrays c.as_slice-elements.result.now) c.deref.ensures.value)
    ∙ sym c.overlaps.ensures ∙ c.if-overlaps.true in
    first_by_look (keys_of c.loop-k.seen.keys) c.loop-k.dashed.items c.args.choices.now c.loop-k.k c.loop-k.invariant c.as_slice-elements.result.now c.index-choices-k.result c.loop-k-test.true is
    (sym c.in_ok-add_bits.ensures.answer ∙ c.if-branch.false) some

pub returns-then-overlaps-clause-none : goal.returns-then-overlaps-clause-none
returns-then-overlaps-clause-none c =
    let is : c.as_slice-elements.result.now ≡ (get_or c.args.choices.now c.loop-k.k c.index-choices-k.result).elements.items = c.as_slice-elements.ensures.value ∙ ap (λ (t : Pattern). t.elements.items) c.index-choices-k.is in
    let some : (if has_dash c.as_slice-elements.result.now then overlaps_choice (take c.loop-k.k c.args.choices.now) c.as_slice-elements.result.now else overlaps_borrowed c.loop-k.dashed.items c.as_slice-elements.result.now) ≡ true =
    sym (ap (λ arrays. if has_dash c.as_slice-elements.result.now then overlaps_choice (take c.loop-k.k c.args.choices.now) c.as_slice-elements.result.now else overlaps_borrowed arrays c.as_slice-elements.result.now) c.deref.ensures.value)
    ∙ sym c.overlaps.ensures ∙ c.if-overlaps.true in
    let first : IsFirstOverlapping (patterns_of c.args.choices.now) c.loop-k.k =
    first_by_look (keys_of c.loop-k.seen.keys) c.loop-k.dashed.items c.args.choices.now c.loop-k.k c.loop-k.invariant c.as_slice-elements.result.now c.index-choices-k.result c.loop-k-test.true is
    (sym c.in_ok-add_bits.ensures.answer ∙ c.if-branch.false) some in
    ((λ e. absurd (true≢false e)), λ none. absurd (none (c.loop-k.k, first.0)))

pub loop-k-preserved : goal.loop-k-preserved
loop-k-preserved c =
    let is : c.as_slice-elements.result.now ≡ (get_or c.args.choices.now c.loop-k.k c.index-choices-k.result).elements.items = c.as_slice-elements.ensures.value ∙ ap (λ (t : Pattern). t.elements.items) c.index-choices-k.is in
    let none : (if has_dash c.as_slice-elements.result.now then overlaps_choice (take c.loop-k.k c.args.choices.now) c.as_slice-elements.result.now else overlaps_borrowed c.loop-k.dashed.items c.as_slice-elements.result.now) ≡ false =
    sym (ap (λ arrays. if has_dash c.as_slice-elements.result.now then overlaps_choice (take c.loop-k.k c.args.choices.now) c.as_slice-elements.result.now else overlaps_borrowed arrays c.as_slice-elements.result.now) c.deref.ensures.value)
    ∙ sym c.overlaps.ensures ∙ c.if-overlaps.false in
    looked_more (keys_of c.loop-k.seen.keys) c.loop-k.dashed.items c.args.choices.now c.loop-k.k c.loop-k.invariant c.as_slice-elements.result.now c.index-choices-k.result c.loop-k-test.true is
    c.as_slice-elements.result refl (keys_of c.add_bits.new.seen.keys) c.add_dashed.new.dashed.items c.in_ok-add_bits.ensures.keys c.in_ok-add_dashed.ensures
    (sym c.in_ok-add_bits.ensures.answer ∙ c.if-branch.false) none

pub returns-clause-none : goal.returns-clause-none
returns-clause-none c = ((λ e. looked_end _ _ _ _ c.loop-k.invariant c.loop-k-test.false), λ none. refl)
