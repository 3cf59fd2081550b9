use Rattle.std.proofs.Common.{◌≡◌, ap, sym, subst, ◌∙◌}
use Rattle.vd_forest.specs.Forest.{nothing, joined, turned}
use Rattle.vd_forest.specs.Store.{at, Holds}
use Rattle.vd_forest.proofs.StoreLemmas.{extends_trans}
use Rattle.vd_forest.proofs.ForestLemmas.{turned_reversed, joined_nothing}
use Rattle.vd_first_passes.specs.Lowering.{names_in, read_names, firsts, read_set}
use Rattle.vd_first_passes.proofs.LoweringLemmas.{collected}
use Rattle.vd_first_passes.proofs.lowering.write_read_set.Goals as goal

pub loop-first-preserved : goal.loop-first-preserved
loop-first-preserved c =
    let rest = read_names c.in-Some.first.next in
    let split = ap read_names c.in-Some.ensures ∙ ap (λ v. joined (names_in v) rest) (sym c.next-values.ensures) in
    let now = c.in_ok-made.ensures in
    let so_far = c.loop-first.invariant in
    record {
      made_in = now.holds.within;
      extends = extends_trans c.args.out.now c.loop-first.out c.collect_names.new.out so_far.extends now.extends;
      same = collected c.loop-first.out c.collect_names.new.out c.loop-first.seen c.collect_names.new.seen c.loop-first.made c.in_ok-made.made (read_names c.loop-first.left) (names_in c.next-values.result) rest _ split now.holds now.names so_far.same;
    }

pub returns-clause-holds : goal.returns-clause-holds
returns-clause-holds c =
    let all = read_set c.args.statements.now in
    let made : at c.loop-first.out c.loop-first.made ≡ turned all nothing =
    ap (λ f. turned (firsts c.loop-first.seen (read_names f)) (at c.loop-first.out c.loop-first.made)) (sym c.in_default.ensures) ∙ c.loop-first.invariant.same in
    let whole : turned (at c.loop-first.out c.loop-first.made) nothing ≡ all =
    ap (λ f. turned f nothing) made ∙ turned_reversed all nothing ∙ joined_nothing all in
    subst (Holds c.turn.new.self c.in_ok-number.number) whole c.in_ok-number.ensures.holds
