use Rattle.std.proofs.Common.{◌∙◌, ap, sym}
use Rattle.std.proofs.lemmas.Result.{err_from_is_err_and}
use Rattle.vd_first_grammar.specs.Reader.{got}
use Rattle.vd_first_grammar.proofs.Loops.{spelled_goes, spelled_fails, spelled_done, spelled_kept}
use Rattle.vd_first_grammar.proofs.reader_steps.spelled_at.Goals as goal

pub returns-in_err-after : goal.returns-in_err-after
returns-in_err-after c =
    let p = err_from_is_err_and c.from_residual.result c.from_residual.ensures.1 in
    rw (p.1, p.2) (spelled_fails c.args.expected.now c.loop-next.next-index _ c.args.tokens.now c.loop-next.rest.now _ c.loop-next-test.true c.loop-next.invariant.reads c.in_err-after.field-0.0 c.in_err-after.ensures)

pub loop-next-preserved : goal.loop-next-preserved
loop-next-preserved c = record {
  parts = spelled_kept _ _ _ _ _ c.loop-next.invariant.parts c.in_ok-after.ensures;
  reads = spelled_goes c.args.expected.now c.loop-next.next-index _ c.args.tokens.now c.loop-next.rest.now _ c.loop-next-test.true c.loop-next.invariant.reads c.in_ok-after.field-0-0.now c.in_ok-after.after.now c.loop-next.invariant.parts c.in_ok-after.ensures;
}

pub returns : goal.returns
returns c = spelled_done c.args.expected.now c.loop-next.next-index c.args.tokens.now c.loop-next.rest.now _ c.loop-next-test.false c.loop-next.invariant.reads ∙ ap (λ f. got (f, c.loop-next.rest.now)) (sym c.split_at.ensures.front)
