use Rattle.std.proofs.Common.{◌≡◌, ◌≤◌, length}
use Rattle.vd_forest.specs.Forest.{nothing}
use Rattle.vd_forest.specs.Store.{at, Extends}
use Rattle.vd_first_lex.specs.declared.tokens.TheConstants.{PROCESS}
use Rattle.vd_first_grammar.specs.Symbols.{word}
use Rattle.vd_first_grammar.specs.Known.{known_of}
use Rattle.vd_first_grammar.specs.Reader.{is, process_at, repeated_at}
use Rattle.vd_first_grammar.proofs.reader_processes.processes_at.Given as goal

abbrev pub invariant-loop-revision : goal.invariant-loop-revision
invariant-loop-revision l = record {
  within : l.made ≤ length l.store;
  extends : Extends l.fn.store l.store;
  reads : repeated_at (is (word PROCESS)) (process_at l.revision (known_of l.known) l.allowance) (at l.store l.made) l.rest ≡ repeated_at (is (word PROCESS)) (process_at l.revision (known_of l.known) l.allowance) nothing l.fn.tokens;
}

abbrev pub decreases-loop-revision : goal.decreases-loop-revision
decreases-loop-revision l = length l.rest
