use Rattle.std.proofs.Common.{arith, ap, sym, ◌∙◌}
use Rattle.vd_forest.specs.Forest.{size}
use Rattle.vd_first_passes.specs.Lowering.{names_in, tree_names}
use Rattle.vd_first_accept.proofs.UnknownLemmas.{outside_later, outside_found, none_of}
use Rattle.vd_first_accept.proofs.unknown.+outside.Goals as goal

pub find_outside-returns-then-is_some : goal.find_outside-returns-then-is_some
find_outside-returns-then-is_some t c =
    let first = c.in-Some.first in
    outside_found c.args.known.now (names_in c.loop-first.left) (tree_names first.form first.text.now first.place first.parts) (names_in first.next) c.find_in_tree-place.result
    (ap names_in c.in-Some.ensures) c.find_in_tree-place.ensures (sym c.is_some.ensures ∙ c.if-is_some.true) ∙ c.loop-first.invariant.same

pub find_outside-loop-first-preserved : goal.find_outside-loop-first-preserved
find_outside-loop-first-preserved t c =
    let first = c.in-Some.first in
    record {
      smaller = omega (arith, ap size c.in-Some.ensures, c.loop-first.invariant.smaller);
      same = outside_later c.args.known.now (names_in c.loop-first.left) (tree_names first.form first.text.now first.place first.parts) (names_in first.next) c.find_in_tree-place.result
          (ap names_in c.in-Some.ensures) c.find_in_tree-place.ensures (none_of c.find_in_tree-place.result (sym c.is_some.ensures ∙ c.if-is_some.false)) ∙ c.loop-first.invariant.same;
    }
