-- What units declare at their ends, as it is seen with the design behind their parts.
use Rattle.std.specs.Prelude.{ℕ, []}
use Rattle.vd_declarations.specs.declared.classes.Class.TheVariants as class
use Rattle.vd_declarations.specs.declared.declarations.Declaration.{Declaration}
use Rattle.vd_name_rows.specs.declared.sorts.Sort.TheVariants as sort
use Rattle.vd_name_rows.specs.Designs.{At, Design, Outcome}
use Rattle.vd_name_rows.specs.Members.{declared_in}
use Rattle.vd_name_rows.specs.Noting.{with_span, span_to}
use Rattle.vd_naming.specs.Endings.{Ended, declares, closed}
use Rattle.vd_naming.specs.Units.{unit_of, entering_unit, package_with}
use Rattle.vd_name_entering.specs.declared.ended.Ended as code
use Rattle.vd_name_entering.specs.Ended.{seen_ended}

abbrev pub entity_with : Ended → Declaration
entity_with x =
    record (unit_of class.Entity x) { parameters = declared_in x.inside.region sort.Port x.inner.design; generics = declared_in x.inside.region sort.Generic x.inner.design }

-- trees have no part in these
abbrev pub entity_declared : code.Ended → Design → Declaration
entity_declared x d = entity_with (seen_ended [] d x)

abbrev pub package_declared : code.Ended → Design → Declaration
package_declared x d = package_with (declared_in x.inside.now.region sort.Generic d) (seen_ended [] d x)

-- a package's span
abbrev pub with_own_span : ℕ → At → Design → Design
with_own_span k inside d = with_span k (span_to inside.header k inside.region d) d

-- a context whose name is an identifier
abbrev pub single_context_end : Ended → Outcome
single_context_end x = declares x x.inner.tree (entering_unit (unit_of class.Context x) (closed x.inside.region x.inner.design))
