use Rattle.std.proofs.Common.{◌≡◌, ◌-◌, length, take, drop, ◌++◌}
use Rattle.std.specs.Prelude.{map}
use Rattle.vd_first_grammar.specs.Given.{symbol_of}
use Rattle.vd_first_grammar.specs.Reader.{spelled_at}
use Rattle.vd_first_grammar.proofs.Loops.{with_front}
use Rattle.vd_first_grammar.proofs.reader_steps.spelled_at.Given as goal

abbrev pub invariant-loop-next : goal.invariant-loop-next
invariant-loop-next l = record {
  parts : take (length l.tokens - length l.rest) l.tokens ++ l.rest ≡ l.tokens;
  reads : with_front (take (length l.tokens - length l.rest) l.tokens) (spelled_at (map symbol_of (drop l.next-index l.expected)) l.rest) ≡ spelled_at (map symbol_of l.expected) l.tokens;
}
