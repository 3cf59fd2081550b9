use Rattle.std.proofs.Common.{true, false, subst, arith}
use Rattle.std.specs.Prelude.{MatchBool}
use Rattle.vd_gram.specs.Derivations.{IsTooDeep}
use Rattle.vd_derivations93.specs.Depths.{HasParse}
use Rattle.vd_derivations93.proofs.DepthLemmas.{start, deeper, no_deeper}
use Rattle.vd_derivations93.proofs.depth.depth_of_symbols.Goals as goal

pub loop-low-init : goal.loop-low-init
loop-low-init c = record { between = start c.args.table.now.table c.args.symbols.now; fits = omega arith }

pub loop-low-preserved-then-branch : goal.loop-low-preserved-then-branch
loop-low-preserved-then-branch c =
    let t = c.args.table.now.table in
    let middle = c.middle_of-middle.result in
    let h : MatchBool true (IsTooDeep t c.args.symbols.now middle) (HasParse t c.args.symbols.now middle) = subst (λ b. MatchBool b (IsTooDeep t c.args.symbols.now middle) (HasParse t c.args.symbols.now middle)) c.if-branch.true c.in_ok-is_deeper.ensures in
    record {
      between = deeper t c.args.table.now.checked c.args.symbols.now c.loop-low.low c.loop-low.high middle c.middle_of-middle.ensures.below c.loop-low.invariant.fits c.loop-low.invariant.between h;
      fits = c.loop-low.invariant.fits;
    }

pub loop-low-preserved : goal.loop-low-preserved
loop-low-preserved c =
    let t = c.args.table.now.table in
    let middle = c.middle_of-middle.result in
    let h : MatchBool false (IsTooDeep t c.args.symbols.now middle) (HasParse t c.args.symbols.now middle) = subst (λ b. MatchBool b (IsTooDeep t c.args.symbols.now middle) (HasParse t c.args.symbols.now middle)) c.if-branch.false c.in_ok-is_deeper.ensures in
    record {
      between = no_deeper t c.args.table.now.checked c.args.symbols.now c.loop-low.low c.loop-low.high middle c.loop-low.invariant.between h;
      fits = omega (arith, c.middle_of-middle.ensures.below, c.loop-low.invariant.fits);
    }
