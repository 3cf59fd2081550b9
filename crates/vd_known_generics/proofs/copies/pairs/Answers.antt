use Rattle.std.proofs.Common.{◌++◌, ap, append-nil, arith, sym, ◌∙◌}
use Rattle.vd_known_generics.proofs.CopyLemmas.{pairs_end}
use Rattle.vd_known_generics.proofs.copies.pairs.Goals as goal

pub returns : goal.returns
returns c =
    sym (append-nil c.loop-at.found.items)
    ∙ ap (λ l. c.loop-at.found.items ++ l) (sym (pairs_end c.loop-at.at c.args.xs.now c.args.ys.now (omega arith))) ∙ c.loop-at.invariant
