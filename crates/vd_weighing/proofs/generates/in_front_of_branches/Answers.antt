use Rattle.std.proofs.Common.{◌≡◌, ◌+◌, if◌then◌else◌, ap, sym, subst, ◌∙◌, arith}
use Rattle.vd_weighing.specs.Weights.{conditions, in_front_of_branches}
use Rattle.vd_weighing.specs.Limits.{at_most}
use Rattle.vd_weighing.proofs.LimitLemmas.{IsCounted, at_most_small, at_most_twice, counted_none}
use Rattle.vd_weighing.proofs.GenerateLemmas.{branches_more}
use Rattle.vd_weighing.proofs.generates.in_front_of_branches.Goals.{then-has_else, else-has_else}
use Rattle.vd_weighing.proofs.generates.in_front_of_branches.Goals as goal

pub loop-branch-init : goal.loop-branch-init
loop-branch-init c = record {
  fits = at_most_small c.args.first (omega arith);
  so_far = λ ds.
      let want = in_front_of_branches ds c.args.first (conditions ds c.args.branches.now) c.args.has_else in
      subst (λ f. IsCounted 0 (in_front_of_branches ds c.args.first (conditions ds f) c.args.has_else) want) (sym c.fork-left.ensures) (counted_none want);
}

pub loop-branch-preserved : goal.loop-branch-preserved
loop-branch-preserved c =
    let branch = c.in-Some.branch in
    let i = c.loop-branch.invariant in
    record {
      fits = ap at_most c.plus-before.ensures ∙ at_most_twice (c.loop-branch.before + c.in_ok-condition.condition) ∙ sym c.plus-before.ensures;
      so_far = λ ds.
          branches_more ds c.loop-branch.left branch.parts branch.next branch.form branch.text.now branch.place c.in-Some.ensures c.loop-branch.weight
          c.loop-branch.before c.in_ok-condition.condition (in_front_of_branches ds c.args.first (conditions ds c.args.branches.now) c.args.has_else)
          c.plus-weight.result c.plus-before.result c.in_ok-condition.ensures c.plus-weight.ensures i.fits c.args.has_else c.plus-before.ensures (i.so_far ds);
    }

pub returns : goal.returns
returns c ds =
    let weight = c.loop-branch.weight in
    let last : c.if-has_else.last ≡ (if c.args.has_else then c.loop-branch.before else 0) = elim c.if-has_else.branch [
      | then-has_else w ↦ w.last-is ∙ ap (λ b. if b then c.loop-branch.before else 0) (sym w.if-has_else.true)
      | else-has_else w ↦ w.last-is ∙ ap (λ b. if b then c.loop-branch.before else 0) (sym w.if-has_else.false)
    ] in
    c.plus.ensures ∙ ap (λ n. at_most (weight + n)) last
    ∙ ap (λ f. at_most (weight + in_front_of_branches ds c.loop-branch.before (conditions ds f) c.args.has_else)) (sym c.in_default.ensures)
    ∙ (c.loop-branch.invariant.so_far ds).so_far
