use Rattle.std.proofs.Common.{◌∙◌}
use Rattle.vd_name_expressions.proofs.ExpressionReadLemmas.{made_of_read}
use Rattle.vd_name_expressions.proofs.expression_reading.read_node.Goals as goal

pub returns-clause-is : goal.returns-clause-is
returns-clause-is c =
    made_of_read c.read_as.new.out c.args.at.now c.args.names.now c.in_ok-read.read _ _ (c.cursor.ensures ∙ c.in_ok-number.ensures.is) c.args.wanted.now
    c.in_ok-read.ensures.is
