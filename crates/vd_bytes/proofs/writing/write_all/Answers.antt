use Rattle.std.proofs.Common.{◌+◌, ◌∙◌, arith}
use Rattle.std.proofs.lemmas.List.{take_rest}
use Rattle.vd_bytes.proofs.TrayLemmas.{Appends-more, OnlyWrites-trans}
use Rattle.vd_bytes.proofs.writing.write_all.Goals as goal

-- what was written up to the end of this turn
so_far : goal.returns-then-done-bytes-clause-front
so_far g c =
    let piece = rw (take_rest c.args.bytes.now c.pieces.done) at c.in_ok-done.ensures.appended in
    (c.pieces.done + c.in_ok-done.field-0, Appends-more _ _ _ c.args.bytes.now c.pieces.done c.in_ok-done.field-0 c.pieces.invariant.appended piece)

pub returns-then-done-bytes-clause-front : goal.returns-then-done-bytes-clause-front
returns-then-done-bytes-clause-front = so_far

pub pieces-preserved : goal.pieces-preserved
pieces-preserved g c = record {
  inside = omega arith;
  appended =
      let piece = rw (take_rest c.args.bytes.now c.pieces.done) at c.in_ok-done.ensures.appended in
      Appends-more _ _ _ c.args.bytes.now c.pieces.done c.in_ok-done.field-0 c.pieces.invariant.appended piece;
  no_fault = c.in_ok-done.ensures.no_fault ∙ c.pieces.invariant.no_fault;
  only_writes = OnlyWrites-trans c.pieces.invariant.only_writes c.in_ok-done.ensures.only_writes;
}
