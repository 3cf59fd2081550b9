use Rattle.vd_static_names.proofs.FieldLemmas.{field_stored}
use Rattle.vd_static_names.proofs.fields.field_in_table.Goals as goal

pub returns-in_ok-found-in-Stored-clause-is : goal.returns-in_ok-found-in-Stored-clause-is
returns-in_ok-found-in-Stored-clause-is c =
    let w = c.in_ok-found-in-Stored in
    field_stored c.args.subtypes.now c.args.number c.args.subtype c.in-Stored.of w.found c.in-Stored.is w.ensures.found
