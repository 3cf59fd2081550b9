use Rattle.std.proofs.Common.{sym, ◌∙◌}
use Rattle.std.proofs.lemmas.Result.{err_from_is_err_and}
use Rattle.vd_forest.specs.Store.{at}
use Rattle.vd_forest.proofs.StoreLemmas.{extends_trans}
use Rattle.vd_first_lex.specs.declared.tokens.TheConstants.{SEMICOLON}
use Rattle.vd_first_grammar.specs.Symbols.{mark}
use Rattle.vd_first_grammar.specs.Known.{known_of}
use Rattle.vd_first_grammar.specs.Reader.{is, further_port_at}
use Rattle.vd_first_grammar.proofs.Agreement.{further_port_shorter}
use Rattle.vd_first_grammar.proofs.Loops.{loop_goes, loop_fails, loop_done, loop_shorter}
use Rattle.vd_first_grammar.proofs.reader_ports.ports_at.Goals as goal

pub returns-in_err-port-clause-ports : goal.returns-in_err-port-clause-ports
returns-in_err-port-clause-ports c =
    let p = err_from_is_err_and c.from_residual-in_err-port.result c.from_residual-in_err-port.ensures.1 in
    rw (p.1, p.2) (loop_fails (is (mark SEMICOLON)) further_port_at further_port_shorter (record { made = at c.loop-alloc.store c.loop-alloc.made; known = known_of c.loop-alloc.known }) c.loop-alloc.rest.now c.in_err-port.field-0.0 _ (sym c.begins.ensures ∙ c.loop-alloc-test.true) c.in_err-port.ensures.port c.loop-alloc.invariant.reads)

pub loop-alloc-smaller : goal.loop-alloc-smaller
loop-alloc-smaller c = loop_shorter (is (mark SEMICOLON)) further_port_at further_port_shorter (record { made = at c.loop-alloc.store c.loop-alloc.made; known = known_of c.loop-alloc.known }) c.loop-alloc.rest.now (record { made = at c.further_port_at.new.store c.in_ok-port.port; known = known_of c.further_port_at.new.known }, c.in_ok-port.after.now) c.in_ok-port.ensures.port

pub loop-alloc-preserved : goal.loop-alloc-preserved
loop-alloc-preserved c = record {
  within = c.in_ok-port.ensures.within;
  extends = extends_trans _ _ _ c.loop-alloc.invariant.extends c.further_port_at.ensures.extends;
  reads = loop_goes (is (mark SEMICOLON)) further_port_at further_port_shorter (record { made = at c.loop-alloc.store c.loop-alloc.made; known = known_of c.loop-alloc.known }) c.loop-alloc.rest.now (record { made = at c.further_port_at.new.store c.in_ok-port.port; known = known_of c.further_port_at.new.known }, c.in_ok-port.after.now) _ (sym c.begins.ensures ∙ c.loop-alloc-test.true) c.in_ok-port.ensures.port c.loop-alloc.invariant.reads;
}

pub returns-clause-ports : goal.returns-clause-ports
returns-clause-ports c =
    loop_done (is (mark SEMICOLON)) further_port_at further_port_shorter (record { made = at c.loop-alloc.store c.loop-alloc.made; known = known_of c.loop-alloc.known }) c.loop-alloc.rest.now _ (sym c.begins.ensures ∙ c.loop-alloc-test.false) c.loop-alloc.invariant.reads
