-- A function that its body declares, as it is entered where it is known whether the body is tied to its unit.
use Rattle.std.specs.Prelude.{ℕ, Bool, if◌then◌else◌}
use Rattle.vd_declarations.specs.declared.declarations.Declaration.{Declaration}
use Rattle.vd_name_rows.specs.Designs.{Design}
use Rattle.vd_name_rows.specs.Entering.{Entering, entering}
use Rattle.vd_name_rows.specs.Noting.{with_span, with_body, tied_to}
use Rattle.vd_naming.specs.Endings.{Ended}
use Rattle.vd_naming.specs.Functions.{header_span}

abbrev pub with_end : Ended → Bool → ℕ → Design → Design
with_end x tied k d = if tied then tied_to k x.outer.unit (with_body k d) else with_body k d

abbrev pub ended_body : Ended → Bool → ℕ → Declaration → Entering
ended_body x tied k new = let e = entering x.outer.region new x.inner.design in
    record e { design = with_end x tied k (with_span k (header_span x) e.design) }
