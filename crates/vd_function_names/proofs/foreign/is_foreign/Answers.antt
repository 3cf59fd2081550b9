use Rattle.vd_operations.specs.Roles.{read_role}
use Rattle.vd_function_names.proofs.ForeignLemmas.{foreign_some}
use Rattle.vd_function_names.proofs.foreign.is_foreign.Goals as goal
use Rattle.vd_meaning.specs.Tables.{table}
use Rattle.vd_value_rules.specs.Designs.{Design}

pub returns-in-Some : goal.returns-in-Some
returns-in-Some c = λ revision units.
    let d : Design = record { revision = revision; table = table revision c.args.declarations.now; units = units } in
    foreign_some d c.args.locals.now c.args.number c.in-Some.id (read_role c.role_of.result) c.has-is_local.result c.is_foreign_role.result c.in-Some.is
    (c.role_of.ensures revision) c.has-is_local.ensures c.is_foreign_role.ensures
