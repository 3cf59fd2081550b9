use Rattle.std.proofs.Common.{ap, sym, ◌∙◌}
use Rattle.vd_meaning.specs.Tables.{actual_mark}
use Rattle.vd_static_rules.proofs.TypeLemmas.{refused_by}
use Rattle.vd_value_rules.specs.Types.{is_type_generic}
use Rattle.vd_static_rules.proofs.types.is_refused_by.Goals as goal

pub returns-then-is_type_generic : goal.returns-then-is_type_generic
returns-then-is_type_generic c = λ d k ks knows.
    refused_by d k.env c.args.formal c.args.copy c.number.result c.is_type_generic.result c.may_be_actual-may_be.result
    (c.number.ensures ∙ c.actual_mark-mark.ensures c.args.design.now.revision ∙ ap (λ t. actual_mark t c.of.result) (sym knows.table) ∙ ap (actual_mark d.table) c.of.ensures)
    (c.may_be_actual-may_be.ensures d k ks knows)
    (c.is_type_generic.ensures ∙ ap is_type_generic (c.class_of.ensures ∙ ap (λ t. (t.declared c.number-2.result).class) (sym knows.table) ∙ ap (λ n. (d.table.declared n).class) c.number-2.ensures))
    c.if-is_type_generic.true
