use Rattle.vd_forest.specs.Store.{at}
use Rattle.vd_static_names.proofs.JumpLemmas.{none_behind, none_of_other}
use Rattle.vd_static_names.proofs.fields.fields_from.Goals as goal

pub returns-in_default-clause-is : goal.returns-in_default-clause-is
returns-in_default-clause-is c = none_behind (at c.args.subtypes.now c.args.subtype) c.args.number c.in_default.ensures.is

pub returns-in_default-form-clause-is : goal.returns-in_default-form-clause-is
returns-in_default-form-clause-is c =
    let store = c.args.subtypes.now in
    let head = c.in-Some.head in
    none_of_other (at store c.args.subtype) c.args.number head.form head.text.now head.place (at store head.parts) (at store head.next)
    c.in-Some.ensures.is c.in_default-form.not-Record
