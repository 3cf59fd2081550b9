use Rattle.std.proofs.Common.{ℕ}
use Rattle.vd_forest.specs.Store.{at}
use Rattle.vd_first_grammar.proofs.Units.{units_read, units_fail}
use Rattle.vd_first_grammar.proofs.reader.units_of.Goals as goal

pub returns-in-Ok-file_at-clause-answer : goal.returns-in-Ok-file_at-clause-answer
returns-in-Ok-file_at-clause-answer c =
    units_read c.args.revision c.expressions_limit-allowance.result c.args.tokens.now c.expressions_limit-allowance.ensures c.requires.ends c.in-Ok-file_at.field-0-1.now (at c.file_at.new.store c.in-Ok-file_at.units) c.in-Ok-file_at.ensures.tree

pub returns-clause-answer : goal.returns-clause-answer
returns-clause-answer c =
    rw c.end_of.ensures (units_fail c.args.revision c.expressions_limit-allowance.result c.args.tokens.now c.expressions_limit-allowance.ensures c.requires.ends (λ (n : ℕ). at c.file_at.new.store n) c.in-Err.stop c.in-Err.ensures.tree)
