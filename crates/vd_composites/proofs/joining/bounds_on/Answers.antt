use Rattle.std.proofs.Common.{arith, rules, ◌≡◌, ◌<◌, ◌≤◌, sym, ap, ◌∙◌, subst, to_z, of_z, w64, SFits}
use Rattle.std.specs.Int.{w128}
use Rattle.std.proofs.lemmas.Int.{to_z-of_z}
use Rattle.std.specs.Prelude.{Ok, Err}
use Rattle.vd_values.specs.declared.scalar.StopKind.TheVariants.{Index}
use Rattle.vd_composites.specs.Ranges.{length_of, lies_within, from_left, one_before, steps_on}
use Rattle.vd_composites.proofs.StopLemmas.{if_true}
use Rattle.vd_composites.proofs.JoinedLemmas.{enough, ok_bounds}
use Rattle.vd_composites.proofs.joining.bounds_on.Goals as goal
use Rattle.vd_composites.proofs.joining.bounds_on.Goals.{else-count-gt0-via-then-count-gt0+else-count-length, else-count-gt0-via-else-count-gt0}

pub returns : goal.returns
returns c =
    let fit : 0 < c.args.count → c.args.count ≤ length_of c.args.range = elim c.else-count-gt0.branch [
      | else-count-gt0-via-then-count-gt0+else-count-length w ↦ (λ some. let e = w.length.ensures in omega arith)
      | else-count-gt0-via-else-count-gt0 w ↦ (λ some. absurd (omega arith))
    ] in
    let left_fits : SFits w64 c.args.range.left = search rules in
    let wide_fits : SFits w128 c.right_of.result = search rules in
    let left : to_z w64 (of_z w64 c.args.range.left) ≡ c.args.range.left = to_z-of_z w64 c.args.range.left left_fits in
    let wide : to_z w128 (of_z w128 c.right_of.result) ≡ c.right_of.result = to_z-of_z w128 c.right_of.result wide_fits in
    let own : c.in-Ok.right ≡ c.right_of.result = c.in-Ok.ensures.1 ∙ wide in
    let fits : SFits w64 c.in-Ok.right = subst (λ z. SFits w64 z) (sym c.in-Ok.ensures.1) c.in-Ok.ensures.0 in
    let right : to_z w64 (of_z w64 c.in-Ok.right) ≡ one_before c.args.range.down (steps_on c.args.range.down c.args.range.left c.args.count) =
    to_z-of_z w64 c.in-Ok.right fits ∙ own ∙ c.right_of.ensures ∙ ap (λ l. one_before c.args.range.down (steps_on c.args.range.down l c.args.count)) left
    in
    if_true (lies_within c.args.range (from_left c.args.range.left c.args.range.down c.args.count)) (Ok (from_left c.args.range.left c.args.range.down c.args.count)) (Err Index) (enough c.args.range c.args.count fit)
    ∙ sym (ok_bounds c.args.range.down _ _ _ _ left right)
