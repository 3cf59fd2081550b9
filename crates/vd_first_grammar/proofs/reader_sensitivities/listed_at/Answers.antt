use Rattle.std.proofs.Common.{sym, ◌∙◌}
use Rattle.std.proofs.lemmas.Result.{err_from_is_err_and}
use Rattle.vd_forest.specs.Store.{at}
use Rattle.vd_forest.proofs.StoreLemmas.{extends_trans}
use Rattle.vd_first_lex.specs.declared.tokens.TheConstants.{COMMA}
use Rattle.vd_first_grammar.specs.Symbols.{mark}
use Rattle.vd_first_grammar.specs.Reader.{is}
use Rattle.vd_first_grammar.proofs.Agreement.{further_listed_shorter}
use Rattle.vd_first_grammar.proofs.Loops.{loop_goes, loop_fails, loop_done, loop_shorter}
use Rattle.vd_first_grammar.proofs.reader_sensitivities.listed_at.Goals as goal

pub returns-in_err-tree-clause-tree : goal.returns-in_err-tree-clause-tree
returns-in_err-tree-clause-tree c =
    let p = err_from_is_err_and c.from_residual-in_err-tree.result c.from_residual-in_err-tree.ensures.1 in
    rw (p.1, p.2) (loop_fails (is (mark COMMA)) _ (further_listed_shorter c.args.outs.now) (at c.loop-store.store c.loop-store.made) c.loop-store.rest.now c.in_err-tree.field-0.0 _ (sym c.begins.ensures ∙ c.loop-store-test.true) c.in_err-tree.ensures.tree c.loop-store.invariant.reads)

pub loop-store-smaller : goal.loop-store-smaller
loop-store-smaller c = loop_shorter (is (mark COMMA)) _ (further_listed_shorter c.args.outs.now) (at c.loop-store.store c.loop-store.made) c.loop-store.rest.now (at c.further_listed_at.new.store c.in_ok-tree.tree, c.in_ok-tree.after.now) c.in_ok-tree.ensures.tree

pub loop-store-preserved : goal.loop-store-preserved
loop-store-preserved c = record {
  within = c.in_ok-tree.ensures.within;
  extends = extends_trans _ _ _ c.loop-store.invariant.extends c.further_listed_at.ensures.extends;
  reads = loop_goes (is (mark COMMA)) _ (further_listed_shorter c.args.outs.now) (at c.loop-store.store c.loop-store.made) c.loop-store.rest.now (at c.further_listed_at.new.store c.in_ok-tree.tree, c.in_ok-tree.after.now) _ (sym c.begins.ensures ∙ c.loop-store-test.true) c.in_ok-tree.ensures.tree c.loop-store.invariant.reads;
}

pub returns-clause-tree : goal.returns-clause-tree
returns-clause-tree c =
    loop_done (is (mark COMMA)) _ (further_listed_shorter c.args.outs.now) (at c.loop-store.store c.loop-store.made) c.loop-store.rest.now _ (sym c.begins.ensures ∙ c.loop-store-test.false) c.loop-store.invariant.reads
