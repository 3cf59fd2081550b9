use Rattle.std.proofs.Common.{ap, ap₂, subst, sym, ◌≡◌, ◌∙◌}
use Rattle.vd_meaning.specs.Facets.{nth}
use Rattle.vd_meaning.specs.Meanings.{meanings}
use Rattle.vd_meaning.specs.Operators.{operand_kind}
use Rattle.vd_operations.proofs.PassingLemmas.{nth_skipped}
use Rattle.vd_known_lengths.proofs.TreeLemmas.{joined_as}
use Rattle.vd_known_lengths.specs.Extents.{IsExtent}
use Rattle.vd_value_rules.specs.Lengths.{joined_length, nth_shaping, of_type_of, operand_mark, plus_length}
use Rattle.vd_known_lengths.proofs.measuring.joining.Goals as goal

pub returns-clause-is : goal.returns-clause-is
returns-clause-is c = λ d k ss sees are.
    let n = c.args.tree.now.form in
    let inside = c.args.tree.now.parts in
    let ms = meanings d.table inside in
    let first : c.mark_of-first_mark.result ≡ operand_mark ms 0 = c.mark_of-first_mark.ensures d.table in
    let second : c.mark_of-second_mark.result ≡ operand_mark ms 1 =
    c.mark_of-second_mark.ensures d.table ∙ ap (λ f. (nth 0 (meanings d.table f)).mark) c.skip-behind.ensures ∙ ap (λ m. m.mark) (sym (nth_skipped 1 d.table inside)) in
    let left = joined_as n.mark c.mark_of-first_mark.result (operand_mark ms 0) (nth_shaping 0 ss).shaped c.joined-left.result first
    (c.joined-left.ensures (nth_shaping 0 ss).shaped (c.length_of-first.ensures ss are)) in
    let right = joined_as n.mark c.mark_of-second_mark.result (operand_mark ms 1) (nth_shaping 1 ss).shaped c.joined-right.result second
    (c.joined-right.ensures (nth_shaping 1 ss).shaped (c.length_of-second.ensures ss are)) in
    let length : plus_length (joined_length (operand_kind n.mark (operand_mark ms 0)) (nth_shaping 0 ss).shaped)
    (joined_length (operand_kind n.mark (operand_mark ms 1)) (nth_shaping 1 ss).shaped) ≡ c.in_ok-length.length = ap₂ plus_length left right ∙ c.in_ok-length.ensures in
    c.alone.ensures.is (of_type_of k n (plus_length (joined_length (operand_kind n.mark (operand_mark ms 0)) (nth_shaping 0 ss).shaped)
    (joined_length (operand_kind n.mark (operand_mark ms 1)) (nth_shaping 1 ss).shaped)))
    (subst (λ l. IsExtent c.args.over.now.ground.subtypes.now c.typed.result (of_type_of k n l)) (sym length) (c.typed.ensures.is d k sees))
