-- What is known of each number among the generics of an instance and their actuals.
use Rattle.std.specs.Prelude.{ℕ, List}
use Rattle.vd_name_rows.specs.declared.at.Actual.{Actual}
use Rattle.vd_naming.specs.Associations.{is_among_numbers}
use Rattle.vd_naming.specs.Actuals.{actual_of}
use Rattle.vd_name_actuals.specs.declared.stand_ins.StandIn.{StandIn}

-- the generics, and pairs of a generic and its actual
pub record Pairs : Type 0 where
  pub generics : List ℕ
  pub actuals : List Actual

abbrev pub stand_in : Pairs → ℕ → StandIn
stand_in p k = record { is_generic = is_among_numbers p.generics k; actual = actual_of k p.actuals }
