use Rattle.std.proofs.Common.{IfOk, subst, ◌∙◌}
use Rattle.vd_naming.specs.Expressions.{read_as_mark}
use Rattle.vd_name_expressions.specs.Reads.{IsRead}
use Rattle.vd_name_expressions.proofs.expression_reading.read_first_mark.Goals as goal

pub returns-clause-is : goal.returns-clause-is
returns-clause-is c =
    subst (λ t. IfOk c.read_as_mark.result (λ read. IsRead c.read_as_mark.new.out read (read_as_mark c.args.at.now c.args.names.now t)))
    (c.cursor.ensures ∙ c.in_ok-number.ensures.is) c.read_as_mark.ensures.is
