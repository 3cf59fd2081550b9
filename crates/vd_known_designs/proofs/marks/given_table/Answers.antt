use Rattle.std.proofs.Common.{[], ◌≡◌, ◌<◌, ◌-◌, ◌∷◌, arith, drop, length, map, suc, subst, ◌∙◌, ap}
use Rattle.vd_known_designs.proofs.MarkLemmas.{marks_at_end, marks_from}
use Rattle.vd_known_designs.specs.Marks.{mark_of, marks_known}
use Rattle.vd_known_designs.proofs.KnownLemmas.{known_grown}
use Rattle.vd_known_designs.specs.Known.{AreKnown, none_known}
use Rattle.vd_known_designs.proofs.marks.given_table.Goals as goal

pub loop-left-init : goal.loop-left-init
loop-left-init c =
    let rows = c.marks-marks.result.now in
    let x = c.new-table.result in
    record {
      within = omega arith;
      known = λ t.
          subst (λ k. AreKnown t (record x { subtypes = c.add_to.new.subtypes }) (k ∷ [])) (marks_at_end rows)
          (known_grown t x c.add_to.new.subtypes (none_known ∷ []) c.in_ok-lists.ensures.extends (c.new-table.ensures t));
      literals = c.in_ok-lists.ensures.has;
    }

pub loop-left-preserved : goal.loop-left-preserved
loop-left-preserved c =
    let rows = c.marks-marks.result.now in
    let left = c.loop-left.left in
    let next : left ≡ suc (left - 1) = omega (arith, c.loop-left-test.true) in
    let inside : left - 1 < length rows = omega (arith, c.loop-left-test.true, c.loop-left.invariant.within) in
    record {
      within = omega (arith, inside);
      known = λ t.
          subst (λ ms. AreKnown t c.set_mark.new.table (marks_known ms ∷ [])) (marks_from rows (left - 1) left _ next inside)
          (c.in_ok-set_mark.ensures.known t (map mark_of (drop left rows)) (c.loop-left.invariant.known t));
      literals = c.in_ok-set_mark.ensures.literals;
    }

pub returns : goal.returns
returns c = λ t.
    let rows = c.marks-marks.result.now in
    let end : c.loop-left.left ≡ 0 = omega (arith, c.loop-left-test.false) in
    subst (λ ms. AreKnown t c.loop-left.table (marks_known ms ∷ [])) (ap (λ n. map mark_of (drop n rows)) end ∙ c.marks-marks.ensures)
    (c.loop-left.invariant.known t)
