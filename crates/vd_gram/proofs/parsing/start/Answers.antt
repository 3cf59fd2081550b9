use Rattle.std.proofs.Common.{[], ◌∷◌, ◌++◌, ap, refl, ◌∙◌}
use Rattle.vd_gram.specs.Pending.{at_depth}
use Rattle.vd_gram.proofs.AdvanceLemmas.{stands_start}
use Rattle.vd_gram.proofs.parsing.start.Goals as goal

pub returns : goal.returns
returns c =
    stands_start c.args.checked.now.table c.args.checked.now.checked c.args.symbols.now c.args.deep _
    (c.in_ok-push.ensures ∙ ap (λ l. at_depth 0 (c.args.checked.now.table.start ∷ []) ++ l) c.new-stack.ensures)
    refl (c.new.ensures c.args.checked.now.table)
