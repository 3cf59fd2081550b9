use Rattle.std.proofs.Common.{map, arith}
use Rattle.std.proofs.lemmas.List.{map_push}
use Rattle.vd_shapes.specs.Rows.{plain}
use Rattle.vd_shapes.proofs.RowLemmas.{row_goes_on, row_ends, empty_row_ends, nothing_in}
use Rattle.vd_shapes.proofs.rows.productions.Goals as goal
use Rattle.vd_shapes.proofs.rows.productions.Goals.{then-symbol, in-Some+in_ok-push, in_default, else-symbol}

pub loop-index-preserved : goal.loop-index-preserved
loop-index-preserved c = elim c.if-symbol.branch [
  | then-symbol w ↦ elim w.match-split_first.branch [
    | in-Some+in_ok-push w' ↦ (omega arith, rw (w.start-is, w.rows-is, w'.rows-is, w'.in_ok-push.ensures.items, map_push) (row_ends (map plain c.loop-index.rows.items) c.args.flat.now c.loop-index.start c.loop-index.index w'.in-Some.left.now w'.in-Some.right.now (omega arith) w.if-symbol.true w'.in-Some.ensures.cases.0 c.loop-index.invariant.1))
    | in_default w' ↦ (omega arith, rw (w.start-is, w.rows-is, w'.rows-is) (empty_row_ends (map plain c.loop-index.rows.items) c.args.flat.now c.loop-index.start c.loop-index.index (omega arith) w.if-symbol.true (nothing_in _ w'.in_default.ensures.cases) c.loop-index.invariant.1))
  ]
  | else-symbol w ↦ (omega arith, rw (w.start-is, w.rows-is) (row_goes_on (map plain c.loop-index.rows.items) c.args.flat.now c.loop-index.start c.loop-index.index c.loop-index.invariant.0 (omega arith) w.if-symbol.false c.loop-index.invariant.1))
]
