use Rattle.std.proofs.Common.{ap, sym, ◌∙◌}
use Rattle.vd_forest.specs.Forest.{more, skipped}
use Rattle.vd_forest.specs.Store.{at}
use Rattle.vd_static_names.proofs.JumpLemmas.{field_at, none_behind, none_of_other}
use Rattle.vd_static_names.specs.Jumps.{field_trees}
use Rattle.vd_static_names.proofs.indicated_fields.FieldTable.field.Goals as goal

pub returns-in_ok-grow-in-Record-clause-is : goal.returns-in_ok-grow-in-Record-clause-is
returns-in_ok-grow-in-Record-clause-is c =
    let store = c.args.store.now in
    let head = c.in-Some.head in
    let opened = c.in-Some.ensures.is ∙ ap (λ f. more f head.text.now head.place (at store head.parts) (at store head.next)) c.in-Record.is in
    field_at store (at store c.args.subtype) head.text.now head.place (at store head.parts) (at store head.next) c.args.number c.jump_over.result
    opened c.jump_over.ensures.is

pub returns-in_ok-grow-in-Record-clause-found : goal.returns-in_ok-grow-in-Record-clause-found
returns-in_ok-grow-in-Record-clause-found c =
    let store = c.args.store.now in
    let head = c.in-Some.head in
    let opened = c.in-Some.ensures.is ∙ ap (λ f. more f head.text.now head.place (at store head.parts) (at store head.next)) c.in-Record.is in
    c.jump_over.ensures.is ∙ ap (λ f. skipped c.args.number (field_trees f)) (sym opened)

pub returns-in_default-clause-found : goal.returns-in_default-clause-found
returns-in_default-clause-found c = none_behind (at c.args.store.now c.args.subtype) c.args.number c.in_default.ensures.is

pub returns-in_default-form-clause-found : goal.returns-in_default-form-clause-found
returns-in_default-form-clause-found c =
    let store = c.args.store.now in
    let head = c.in-Some.head in
    none_of_other (at store c.args.subtype) c.args.number head.form head.text.now head.place (at store head.parts) (at store head.next)
    c.in-Some.ensures.is c.in_default-form.not-Record
