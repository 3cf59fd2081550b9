use Rattle.std.proofs.Common.{◌&&◌, ap, ap₂, sym, ◌∙◌}
use Rattle.vd_meaning.specs.Operators.{symbol}
use Rattle.vd_meaning.specs.Tables.{operand_types, table}
use Rattle.vd_name_rules.proofs.OperatorLemmas.{marks}
use Rattle.vd_trees.specs.declared.revision.Revision.TheVariants.{V2019}
use Rattle.vd_value_rules.specs.Operators.{any_nine_valued, is_ordering}
use Rattle.vd_name_rules.proofs.operators.orders_nine_values.Goals as goal

pub returns-then-is_ordering : goal.returns-then-is_ordering
returns-then-is_ordering c =
    let t = table V2019 c.args.declarations.now in
    ap₂ (λ o a. o && a)
    (sym c.if-is_ordering.true ∙ c.is_ordering.ensures ∙ ap is_ordering (c.symbol_named-named.ensures ∙ ap symbol c.name_of.ensures))
    (c.any_nine_valued.ensures ∙ ap (λ ps. any_nine_valued t (marks c.args.declarations.now ps)) c.parameters_of.ensures)

pub returns-else-is_ordering : goal.returns-else-is_ordering
returns-else-is_ordering c =
    let t = table V2019 c.args.declarations.now in
    c.if-is_ordering.false ∙ ap (λ o. o && any_nine_valued t (operand_types t c.args.number))
    (sym c.if-is_ordering.false ∙ c.is_ordering.ensures ∙ ap is_ordering (c.symbol_named-named.ensures ∙ ap symbol c.name_of.ensures))
