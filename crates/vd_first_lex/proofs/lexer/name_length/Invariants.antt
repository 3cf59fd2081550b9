use Rattle.std.proofs.Common.{length, ◌-◌, ◌≡◌, ◌+◌, ◌≤◌, drop}
use Rattle.vd_first_lex.proofs.NameLemmas.{rest_length}
use Rattle.vd_first_lex.proofs.lexer.name_length.Given as goal

-- what goes on behind the n bytes is the rest of what goes on behind the letter
abbrev pub invariant-loop-n : goal.invariant-loop-n
invariant-loop-n l = record {
  within : l.n ≤ length l.rest;
  counted : 1 + rest_length (drop 1 l.rest) ≡ l.n + rest_length (drop l.n l.rest);
}

abbrev pub decreases-loop-n : goal.decreases-loop-n
decreases-loop-n l = length l.rest - l.n
