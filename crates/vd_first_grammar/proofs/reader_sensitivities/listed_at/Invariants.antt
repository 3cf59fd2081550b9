use Rattle.std.proofs.Common.{◌≡◌, ◌≤◌, length}
use Rattle.vd_forest.specs.Store.{at, Extends}
use Rattle.vd_first_lex.specs.declared.tokens.TheConstants.{COMMA}
use Rattle.vd_first_grammar.specs.Symbols.{mark}
use Rattle.vd_first_grammar.specs.Reader.{is, further_listed_at, listed_at, repeated_at}
use Rattle.vd_first_grammar.proofs.reader_sensitivities.listed_at.Given as goal

abbrev pub invariant-loop-store : goal.invariant-loop-store
invariant-loop-store l = record {
  within : l.made ≤ length l.store;
  extends : Extends l.fn.store l.store;
  reads : repeated_at (is (mark COMMA)) (further_listed_at l.outs) (at l.store l.made) l.rest ≡ listed_at l.outs l.fn.tokens;
}

abbrev pub decreases-loop-store : goal.decreases-loop-store
decreases-loop-store l = length l.rest
