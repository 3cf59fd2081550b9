use Rattle.std.proofs.Common.{◌≡◌, drop}
use Rattle.vd_name_rows.specs.Members.{declared_in}
use Rattle.vd_name_rows.specs.declared.sorts.Sort.TheVariants as sort
use Rattle.vd_naming.specs.Units.{entering_libraries}
use Rattle.vd_name_clauses.proofs.contexts.enter_libraries.Given as goal

abbrev pub invariant-loop-id : goal.invariant-loop-id
invariant-loop-id l =
    (entering_libraries l.region (drop l.id-index l.id-items) l.names).design
    ≡ (entering_libraries l.fn.region (declared_in l.fn.context sort.Any l.fn.names) l.fn.names).design
