use Rattle.std.proofs.Common.{sym, ◌∙◌}
use Rattle.std.proofs.lemmas.Result.{err_from_is_err_and}
use Rattle.vd_forest.proofs.StoreLemmas.{extends_trans}
use Rattle.vd_first_lex.specs.declared.tokens.TheConstants.{COMMA}
use Rattle.vd_first_grammar.specs.Symbols.{mark}
use Rattle.vd_first_grammar.specs.PortNames.{names_read}
use Rattle.vd_first_grammar.specs.Reader.{is, further_name_at}
use Rattle.vd_first_grammar.proofs.Agreement.{further_name_shorter}
use Rattle.vd_first_grammar.proofs.Loops.{loop_goes, loop_fails, loop_done, loop_shorter}
use Rattle.vd_first_grammar.proofs.reader_ports.names_at.Goals as goal

pub returns-in_err-more-clause-names : goal.returns-in_err-more-clause-names
returns-in_err-more-clause-names c =
    let p = err_from_is_err_and c.from_residual-in_err-more.result c.from_residual-in_err-more.ensures.1 in
    rw (p.1, p.2) (loop_fails (is (mark COMMA)) further_name_at further_name_shorter (names_read c.loop-alloc.store c.loop-alloc.declared c.loop-alloc.names) c.loop-alloc.rest.now c.in_err-more.field-0.0 _ (sym c.begins.ensures ∙ c.loop-alloc-test.true) c.in_err-more.ensures.names c.loop-alloc.invariant.reads)

pub loop-alloc-smaller : goal.loop-alloc-smaller
loop-alloc-smaller c = loop_shorter (is (mark COMMA)) further_name_at further_name_shorter (names_read c.loop-alloc.store c.loop-alloc.declared c.loop-alloc.names) c.loop-alloc.rest.now (names_read c.further_name_at.new.store c.further_name_at.new.declared c.in_ok-more.more, c.in_ok-more.after.now) c.in_ok-more.ensures.names

pub loop-alloc-preserved : goal.loop-alloc-preserved
loop-alloc-preserved c = record {
  within = c.in_ok-more.ensures.within;
  extends = extends_trans _ _ _ c.loop-alloc.invariant.extends c.further_name_at.ensures.extends;
  reads = loop_goes (is (mark COMMA)) further_name_at further_name_shorter (names_read c.loop-alloc.store c.loop-alloc.declared c.loop-alloc.names) c.loop-alloc.rest.now (names_read c.further_name_at.new.store c.further_name_at.new.declared c.in_ok-more.more, c.in_ok-more.after.now) _ (sym c.begins.ensures ∙ c.loop-alloc-test.true) c.in_ok-more.ensures.names c.loop-alloc.invariant.reads;
}

pub returns-clause-names : goal.returns-clause-names
returns-clause-names c =
    loop_done (is (mark COMMA)) further_name_at further_name_shorter (names_read c.loop-alloc.store c.loop-alloc.declared c.loop-alloc.names) c.loop-alloc.rest.now _ (sym c.begins.ensures ∙ c.loop-alloc-test.false) c.loop-alloc.invariant.reads
