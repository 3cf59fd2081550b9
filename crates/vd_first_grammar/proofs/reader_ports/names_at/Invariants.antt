use Rattle.std.proofs.Common.{◌≡◌, ◌≤◌, length}
use Rattle.vd_forest.specs.Store.{Extends}
use Rattle.vd_first_lex.specs.declared.tokens.TheConstants.{COMMA}
use Rattle.vd_first_grammar.specs.Symbols.{mark}
use Rattle.vd_first_grammar.specs.PortNames.{names_read}
use Rattle.vd_first_grammar.specs.Reader.{is, further_name_at, names_at, repeated_at}
use Rattle.vd_first_grammar.proofs.reader_ports.names_at.Given as goal

abbrev pub invariant-loop-alloc : goal.invariant-loop-alloc
invariant-loop-alloc l = record {
  within : l.names.made ≤ length l.store;
  extends : Extends l.fn.store l.store;
  reads : repeated_at (is (mark COMMA)) further_name_at (names_read l.store l.declared l.names) l.rest ≡ names_at l.fn.declared l.fn.tokens;
}

abbrev pub decreases-loop-alloc : goal.decreases-loop-alloc
decreases-loop-alloc l = length l.rest
