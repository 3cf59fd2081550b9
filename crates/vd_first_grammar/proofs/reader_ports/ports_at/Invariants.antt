use Rattle.std.proofs.Common.{◌≡◌, ◌≤◌, length}
use Rattle.vd_forest.specs.Store.{at, Extends}
use Rattle.vd_first_lex.specs.declared.tokens.TheConstants.{SEMICOLON}
use Rattle.vd_first_grammar.specs.Symbols.{mark}
use Rattle.vd_first_grammar.specs.Known.{known_of}
use Rattle.vd_first_grammar.specs.Reader.{is, further_port_at, ports_at, repeated_at}
use Rattle.vd_first_grammar.proofs.reader_ports.ports_at.Given as goal

abbrev pub invariant-loop-alloc : goal.invariant-loop-alloc
invariant-loop-alloc l = record {
  within : l.made ≤ length l.store;
  extends : Extends l.fn.store l.store;
  reads : repeated_at (is (mark SEMICOLON)) further_port_at (record { made = at l.store l.made; known = known_of l.known }) l.rest ≡ ports_at (known_of l.fn.known) l.fn.tokens;
}

abbrev pub decreases-loop-alloc : goal.decreases-loop-alloc
decreases-loop-alloc l = length l.rest
