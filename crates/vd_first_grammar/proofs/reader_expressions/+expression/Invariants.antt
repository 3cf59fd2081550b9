use Rattle.std.proofs.Common.{◌≡◌, ◌≤◌, length, ◌+◌, ◌*◌}
use Rattle.vd_forest.specs.Store.{at, Extends}
use Rattle.vd_first_lex.specs.declared.tokens.TheConstants.{AND}
use Rattle.vd_first_grammar.specs.Symbols.{word}
use Rattle.vd_first_grammar.specs.Reader.{is, conjoined_at, expression_at, repeated_at}
use Rattle.vd_first_grammar.proofs.reader_expressions.+expression.Given as goal

abbrev pub decreases-chain_at : goal.decreases-chain_at
decreases-chain_at l = 8 * l.inner + 7

abbrev pub decreases-conjoined_at : goal.decreases-conjoined_at
decreases-conjoined_at l = 8 * l.inner + 6

abbrev pub decreases-expression_at : goal.decreases-expression_at
decreases-expression_at l = 8 * l.allowance

abbrev pub decreases-factor_at : goal.decreases-factor_at
decreases-factor_at l = 8 * l.inner + 5

abbrev pub decreases-primary_at : goal.decreases-primary_at
decreases-primary_at l = 8 * l.inner + 4

abbrev pub invariant-chain_at-loop-place : goal.invariant-chain_at-loop-place
invariant-chain_at-loop-place l = record {
  within : l.left ≤ length l.store;
  extends : Extends l.initial.store l.store;
  reads : repeated_at (is (word AND)) (conjoined_at l.outs (expression_at l.outs l.inner) l.place) (at l.store l.left) l.rest ≡ repeated_at (is (word AND)) (conjoined_at l.outs (expression_at l.outs l.inner) l.place) (at l.initial.store l.initial.left) l.initial.rest;
}

abbrev pub decreases-chain_at-loop-place : goal.decreases-chain_at-loop-place
decreases-chain_at-loop-place l = length l.rest
