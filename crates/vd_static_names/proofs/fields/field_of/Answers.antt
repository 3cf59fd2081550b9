use Rattle.vd_static_names.proofs.FieldLemmas.{field_stored}
use Rattle.vd_static_names.proofs.fields.field_of.Goals as goal

pub returns-in-Stored-clause-is : goal.returns-in-Stored-clause-is
returns-in-Stored-clause-is c =
    field_stored c.args.subtypes.now c.args.number c.args.subtype c.in-Stored.of c.fields_from.result c.in-Stored.is c.fields_from.ensures.is
