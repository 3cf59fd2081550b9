use Rattle.std.proofs.Common.{◌&&◌, ap, subst, sym, ◌∙◌}
use Rattle.vd_operations.specs.Roles.{read_role}
use Rattle.vd_meaning.specs.Brackets.{argument_read, by_role, called_with, operation_called}
use Rattle.vd_meaning.specs.Facets.{nth, value_of}
use Rattle.vd_meaning.specs.Names.{conversion_of, number_or}
use Rattle.vd_meaning.specs.Tables.{Role, followed, is_vector}
use Rattle.vd_static_values.specs.Entries.{table_of}
use Rattle.vd_static_values.specs.Names.{IsName}
use Rattle.vd_static_values.specs.Nodes.{IsBracketed}
use Rattle.vd_static_nodes.proofs.PieceLemmas.{other_role}
use Rattle.vd_static_nodes.proofs.brackets.bracketed.Goals as goal

pub returns-in_ok-name-in-Function-clause-bracketed : goal.returns-in_ok-name-in-Function-clause-bracketed
returns-in_ok-name-in-Function-clause-bracketed c = λ e ms p ground nodes.
    let g = c.args.ground.now in
    let t = table_of g in
    let n = c.args.node.now in
    let x = c.in_ok-name-in-Function.name in
    let role = sym (ap read_role c.in-Function.is) ∙ c.role_of.ensures g.revision in
    let function = c.followed-function.ensures g.revision ∙ ap (followed t) c.number_or.ensures in
    subst (λ (r : Role). IsName g.subtypes.now e x (by_role r t n ms p)) role
    (subst (λ f. IsName g.subtypes.now e x (called_with (operation_called t f) t f n ms p)) function
    (c.in_ok-name-in-Function.ensures.named e n ms p ground nodes))

pub returns-in_ok-name-in-Mark-clause-bracketed : goal.returns-in_ok-name-in-Mark-clause-bracketed
returns-in_ok-name-in-Mark-clause-bracketed c = λ e ms p ground nodes.
    let g = c.args.ground.now in
    let t = table_of g in
    let n = c.args.node.now in
    let x = c.in_ok-name-in-Mark.name in
    let role = sym (ap read_role c.in-Mark.is) ∙ c.role_of.ensures g.revision in
    let operand = nth 0 ms in
    subst (λ (r : Role). IsName g.subtypes.now e x (by_role r t n ms p)) role
    (subst (λ k. IsName g.subtypes.now e x
    (conversion_of (is_vector k && is_vector (number_or operand.mark)) k n.mark (value_of operand) operand.known (argument_read p ms) operand.name))
    c.number_or-in-Mark.ensures
    (c.in_ok-name-in-Mark.ensures.named e ms n.mark (argument_read p ms) ground nodes))

pub returns-in_default-clause-sound : goal.returns-in_default-clause-sound
returns-in_default-clause-sound c = c.element_or_slice.ensures.sound c.args.ground.now.subtypes.now

pub returns-in_default-clause-bracketed : goal.returns-in_default-clause-bracketed
returns-in_default-clause-bracketed c = λ e ms p ground nodes.
    let g = c.args.ground.now in
    let t = table_of g in
    let n = c.args.node.now in
    subst (λ (r : Role). IsBracketed g.subtypes.now e c.element_or_slice.result (nth 0 ms).known p (by_role r t n ms p)) (c.role_of.ensures g.revision)
    (other_role g.subtypes.now e n ms p t c.element_or_slice.result c.role_of.result c.in_default.not-Function c.in_default.not-Mark
    (c.element_or_slice.ensures.bracketed g.subtypes.now e n ms p nodes))
