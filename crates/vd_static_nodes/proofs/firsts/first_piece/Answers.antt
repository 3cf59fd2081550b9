use Rattle.std.proofs.Common.{IfOk, ap, inl, inr, sym, ◌∙◌}
use Rattle.vd_operations.specs.Roles.{read_role}
use Rattle.vd_meaning.specs.Tables.{ElementRole, FunctionRole, MarkRole, NoRole, SignalRole}
use Rattle.vd_static_values.specs.Entries.{table_of}
use Rattle.vd_static_values.specs.Names.{IsName}
use Rattle.vd_static_nodes.proofs.FirstLemmas.{standing_by}
use Rattle.vd_static_nodes.proofs.firsts.first_piece.Goals as goal

pub returns-in-Signal-clause-named : goal.returns-in-Signal-clause-named
returns-in-Signal-clause-named c = λ e ground.
    let node = c.args.node.now in
    standing_by (table_of c.args.ground.now) node (IsName c.args.ground.now.subtypes.now e c.signal.result) SignalRole c.number_or-number.result
    (c.in-Signal.ensures c.args.ground.now.revision) c.number_or-number.ensures (c.signal.ensures.named e node.mark ground)

pub returns-in-Function-clause-named : goal.returns-in-Function-clause-named
returns-in-Function-clause-named c = λ e ground.
    standing_by (table_of c.args.ground.now) c.args.node.now (λ p. IfOk c.called_here.result (λ x. IsName c.args.ground.now.subtypes.now e x p)) FunctionRole
    c.number_or-number.result (c.in-Function.ensures c.args.ground.now.revision) c.number_or-number.ensures (c.called_here.ensures.named e ground)

pub returns-in-Mark-clause-named : goal.returns-in-Mark-clause-named
returns-in-Mark-clause-named c = λ e ground.
    let node = c.args.node.now in
    standing_by (table_of c.args.ground.now) node (IsName c.args.ground.now.subtypes.now e c.mark.result) MarkRole c.number_or-number.result
    (c.in-Mark.ensures c.args.ground.now.revision) c.number_or-number.ensures (c.mark.ensures.named e node.mark ground)

pub returns-in-Element-clause-named : goal.returns-in-Element-clause-named
returns-in-Element-clause-named c = λ e ground.
    let store = c.args.ground.now.subtypes.now in
    let revision = c.args.ground.now.revision in
    let by = standing_by (table_of c.args.ground.now) c.args.node.now (IsName store e c.no_name.result) in
    let number = c.number_or-number.result in
    elim c.in-Element.is [
      | inl is ↦ by ElementRole number (ap read_role (sym is) ∙ c.role_of.ensures revision) c.number_or-number.ensures (c.no_name.ensures.named store e)
      | inr is ↦ by NoRole number (ap read_role (sym is) ∙ c.role_of.ensures revision) c.number_or-number.ensures (c.no_name.ensures.named store e)
    ]
