use Rattle.std.proofs.Common.{sym, ◌∙◌}
use Rattle.std.proofs.lemmas.Result.{err_from_is_err_and}
use Rattle.vd_forest.specs.Store.{at}
use Rattle.vd_forest.proofs.StoreLemmas.{extends_trans}
use Rattle.vd_first_lex.specs.declared.tokens.TheConstants.{AND}
use Rattle.vd_first_grammar.specs.Symbols.{word}
use Rattle.vd_first_grammar.specs.Reader.{is, expression_at}
use Rattle.vd_first_grammar.proofs.Loops.{conjoined_shortens, loop_goes, loop_fails, loop_done, loop_shorter, chain_from}
use Rattle.vd_first_grammar.proofs.reader_expressions.+expression.Goals as goal

pub chain_at-returns-in_err-made-clause-tree : goal.chain_at-returns-in_err-made-clause-tree
chain_at-returns-in_err-made-clause-tree t c =
    let p = err_from_is_err_and c.from_residual-in_err-made.result c.from_residual-in_err-made.ensures.1 in
    let total = c.loop-place.invariant.reads ∙ chain_from c.args.outs.now (expression_at c.args.outs.now c.args.inner) c.args.tokens.now c.in_ok-left.rest.now c.place_at-place.result (at c.factor_at.new.store c.in_ok-left.left) c.place_at-place.ensures c.in_ok-left.ensures.tree in
    rw (p.1, p.2) (loop_fails (is (word AND)) _ (conjoined_shortens c.args.outs.now c.args.inner c.place_at-place.result) (at c.loop-place.store c.loop-place.left) c.loop-place.rest.now c.in_err-made.field-0.0 _ (sym c.begins.ensures ∙ c.loop-place-test.true) c.in_err-made.ensures.tree total)

pub chain_at-loop-place-smaller : goal.chain_at-loop-place-smaller
chain_at-loop-place-smaller t c = loop_shorter (is (word AND)) _ (conjoined_shortens c.args.outs.now c.args.inner c.place_at-place.result) (at c.loop-place.store c.loop-place.left) c.loop-place.rest.now (at c.conjoined_at.new.store c.in_ok-made.made, c.in_ok-made.after.now) c.in_ok-made.ensures.tree

pub chain_at-loop-place-preserved : goal.chain_at-loop-place-preserved
chain_at-loop-place-preserved t c = record {
  within = c.in_ok-made.ensures.within;
  extends = extends_trans _ _ _ c.loop-place.invariant.extends c.conjoined_at.ensures.extends;
  reads = loop_goes (is (word AND)) _ (conjoined_shortens c.args.outs.now c.args.inner c.place_at-place.result) (at c.loop-place.store c.loop-place.left) c.loop-place.rest.now (at c.conjoined_at.new.store c.in_ok-made.made, c.in_ok-made.after.now) _ (sym c.begins.ensures ∙ c.loop-place-test.true) c.in_ok-made.ensures.tree c.loop-place.invariant.reads;
}

pub chain_at-returns-clause-tree : goal.chain_at-returns-clause-tree
chain_at-returns-clause-tree t c =
    let total = c.loop-place.invariant.reads ∙ chain_from c.args.outs.now (expression_at c.args.outs.now c.args.inner) c.args.tokens.now c.in_ok-left.rest.now c.place_at-place.result (at c.factor_at.new.store c.in_ok-left.left) c.place_at-place.ensures c.in_ok-left.ensures.tree in
    loop_done (is (word AND)) _ (conjoined_shortens c.args.outs.now c.args.inner c.place_at-place.result) (at c.loop-place.store c.loop-place.left) c.loop-place.rest.now _ (sym c.begins.ensures ∙ c.loop-place-test.false) total
