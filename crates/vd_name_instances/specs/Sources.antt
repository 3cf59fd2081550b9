-- What is copied for an instance, as code has it.
use Rattle.std.specs.Prelude.{ℕ, List}
use Rattle.vd_declarations.specs.declared.declarations.Declaration.{Declaration}
use Rattle.vd_visible.specs.Sights.{Standpoint, sight_from}
use Rattle.vd_name_rows.specs.declared.at.Actual.{Actual}
use Rattle.vd_name_rows.specs.declared.notes.Span.{Span}
use Rattle.vd_naming.specs.Copies.{Copying}

-- the place of the instance in place of what is seen from there
pub record Source : Type 0 where
  pub span : Span
  pub generic : Declaration
  pub outer : ℕ
  pub first : ℕ
  pub first_region : ℕ
  pub place : Standpoint
  pub actuals : List Actual

abbrev pub seen_copying : Source → Copying
seen_copying x = record {
  span = x.span;
  generic = x.generic;
  outer = x.outer;
  first = x.first;
  first_region = x.first_region;
  known = record { sight = sight_from x.place; generics = x.generic.generics; types = x.actuals };
  actuals = x.actuals;
}
