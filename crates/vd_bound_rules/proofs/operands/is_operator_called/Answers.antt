use Rattle.std.proofs.Common.{ap, ap₂, slice_index_or, sym, ◌∙◌}
use Rattle.vd_bound_rules.proofs.SortLemmas.{called_is}
use Rattle.vd_bound_rules.specs.Sorts.{called_as}
use Rattle.vd_meaning.specs.Names.{number_or}
use Rattle.vd_meaning.specs.Tables.{followed, is_brought, no_declaration, role_of, table}
use Rattle.vd_bound_rules.proofs.operands.is_operator_called.Goals as goal

pub returns : goal.returns
returns c = λ d revision same.
    let ds = c.args.declarations.now in
    let number = number_or c.args.node.declaration in
    let role = c.role_of-role.ensures revision ∙ ap (λ t. role_of t c.args.node.declaration) (sym same) in
    let function = c.followed-number.ensures revision ∙ ap (followed (table revision ds)) c.number_or.ensures in
    let brought = c.is_brought.ensures ∙ ap is_brought (c.class_of.ensures ∙ ap (λ n. (slice_index_or ds n no_declaration).class) function
    ∙ ap (λ t. (t.declared (followed t number)).class) (sym same)) in
    c.called_by.ensures ∙ ap₂ called_as role brought ∙ called_is d (role_of d.table c.args.node.declaration) number
