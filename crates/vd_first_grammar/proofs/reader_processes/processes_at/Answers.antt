use Rattle.std.proofs.Common.{sym, ◌∙◌}
use Rattle.std.proofs.lemmas.Result.{err_from_is_err_and}
use Rattle.vd_forest.specs.Store.{at}
use Rattle.vd_forest.proofs.StoreLemmas.{extends_trans}
use Rattle.vd_first_lex.specs.declared.tokens.TheConstants.{PROCESS}
use Rattle.vd_first_grammar.specs.Symbols.{word}
use Rattle.vd_first_grammar.specs.Known.{known_of}
use Rattle.vd_first_grammar.specs.Reader.{is}
use Rattle.vd_first_grammar.proofs.AgreementFiles.{process_shorter}
use Rattle.vd_first_grammar.proofs.Loops.{loop_goes, loop_fails, loop_done, loop_shorter}
use Rattle.vd_first_grammar.proofs.reader_processes.processes_at.Goals as goal

pub returns-in_err-tree-clause-tree : goal.returns-in_err-tree-clause-tree
returns-in_err-tree-clause-tree c =
    let p = err_from_is_err_and c.from_residual.result c.from_residual.ensures.1 in
    rw (p.1, p.2) (loop_fails (is (word PROCESS)) _ (process_shorter c.args.revision (known_of c.args.known.now) c.args.allowance) (at c.loop-revision.store c.loop-revision.made) c.loop-revision.rest.now c.in_err-tree.field-0.0 _ (sym c.begins.ensures ∙ c.loop-revision-test.true) c.in_err-tree.ensures.tree c.loop-revision.invariant.reads)

pub loop-revision-smaller : goal.loop-revision-smaller
loop-revision-smaller c = loop_shorter (is (word PROCESS)) _ (process_shorter c.args.revision (known_of c.args.known.now) c.args.allowance) (at c.loop-revision.store c.loop-revision.made) c.loop-revision.rest.now (at c.process_at.new.store c.in_ok-tree.tree, c.in_ok-tree.after.now) c.in_ok-tree.ensures.tree

pub loop-revision-preserved : goal.loop-revision-preserved
loop-revision-preserved c = record {
  within = c.in_ok-tree.ensures.within;
  extends = extends_trans _ _ _ c.loop-revision.invariant.extends c.process_at.ensures.extends;
  reads = loop_goes (is (word PROCESS)) _ (process_shorter c.args.revision (known_of c.args.known.now) c.args.allowance) (at c.loop-revision.store c.loop-revision.made) c.loop-revision.rest.now (at c.process_at.new.store c.in_ok-tree.tree, c.in_ok-tree.after.now) _ (sym c.begins.ensures ∙ c.loop-revision-test.true) c.in_ok-tree.ensures.tree c.loop-revision.invariant.reads;
}

pub returns-clause-tree : goal.returns-clause-tree
returns-clause-tree c =
    loop_done (is (word PROCESS)) _ (process_shorter c.args.revision (known_of c.args.known.now) c.args.allowance) (at c.loop-revision.store c.loop-revision.made) c.loop-revision.rest.now _ (sym c.begins.ensures ∙ c.loop-revision-test.false) c.loop-revision.invariant.reads
