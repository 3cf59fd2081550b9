use Rattle.std.proofs.Common.{◌≡◌, ◌+◌, ap, sym, subst, ◌∙◌, arith}
use Rattle.vd_weighing.specs.Weights.{in_front_of_choices}
use Rattle.vd_weighing.specs.Limits.{at_most}
use Rattle.vd_weighing.proofs.LimitLemmas.{IsCounted, at_most_small, at_most_twice, counted_none, counted_all}
use Rattle.vd_weighing.proofs.GenerateLemmas.{choices_more}
use Rattle.vd_weighing.proofs.generates.in_front_of_choices.Goals as goal

pub loop-alternative-init : goal.loop-alternative-init
loop-alternative-init c = record {
  fits = at_most_small 0 (omega arith);
  so_far = λ ds.
      let want = in_front_of_choices ds c.args.selector 0 c.args.alternatives.now in
      subst (λ f. IsCounted 0 (in_front_of_choices ds c.args.selector 0 f) want) (sym c.fork-left.ensures) (counted_none want);
}

pub loop-alternative-preserved : goal.loop-alternative-preserved
loop-alternative-preserved c =
    let alternative = c.in-Some.alternative in
    let i = c.loop-alternative.invariant in
    let gathered : c.plus-before.result ≡ at_most (at_most (c.loop-alternative.before + c.args.selector) + c.in_ok-choices.choices) =
    c.plus-before.ensures ∙ ap (λ n. at_most (n + c.in_ok-choices.choices)) c.plus.ensures in
    record {
      fits = ap at_most gathered ∙ at_most_twice (at_most (c.loop-alternative.before + c.args.selector) + c.in_ok-choices.choices) ∙ sym gathered;
      so_far = λ ds.
          choices_more ds c.loop-alternative.left alternative.parts alternative.next alternative.form alternative.text.now alternative.place c.in-Some.ensures
          c.loop-alternative.weight c.loop-alternative.before c.in_ok-choices.choices (in_front_of_choices ds c.args.selector 0 c.args.alternatives.now)
          c.plus-weight.result c.plus-before.result c.in_ok-choices.ensures c.plus-weight.ensures i.fits c.args.selector gathered (i.so_far ds);
    }

pub returns : goal.returns
returns c ds =
    counted_all c.loop-alternative.weight (in_front_of_choices ds c.args.selector c.loop-alternative.before c.loop-alternative.left)
    (in_front_of_choices ds c.args.selector 0 c.args.alternatives.now) (c.loop-alternative.invariant.so_far ds)
    (ap (in_front_of_choices ds c.args.selector c.loop-alternative.before) c.in_default.ensures)
