-- What entering declarations comes to, in words of contracts.
use Rattle.std.specs.Prelude.{◌≡◌, Option}
use Rattle.vd_bytes.specs.declared.answers.Refused.{Refused}
use Rattle.vd_name_rows.specs.Designs.{Design}
use Rattle.vd_name_rows.specs.Entering.{Entering}

-- the design behind it, and the first rule that is broken
pub record IsEntered (d : Design) (refused : Option Refused) (want : Entering) : Type 0 where
  pub design : d ≡ want.design
  pub first : refused ≡ want.first
