-- A tray in memory on which no call fails.
use Rattle.vd_bytes.specs.Begun.{Begun}
use Rattle.vd_bytes.specs.Folder.{Files}

-- what contracts see of it: its files, and the channels that were begun
pub record SureState : Type 0 where
  pub files : Files
  pub begun : Begun
