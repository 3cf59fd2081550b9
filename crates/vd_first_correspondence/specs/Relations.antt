-- Which process of the 1993 design goes with which of the 2019 one.
use Rattle.std.specs.Prelude.{◌≡◌}
use Rattle.vd_first_elaboration.specs.Processes.{statements_of, sensitivity, Process}

-- the drivers have the same numbers, the statements are the same, and both are sensitive to the same names
pub record SameProcess (p q : Process) : Type 0 where
  pub first_driver : p.first_driver ≡ q.first_driver
  pub statements : statements_of p.parts ≡ statements_of q.parts
  pub sensitivity_is : sensitivity p.parts ≡ sensitivity q.parts
