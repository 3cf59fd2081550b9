-- A tray in memory.
use Rattle.std.specs.Prelude.{ℕ}
use Rattle.vd_bytes.specs.Begun.{Begun}
use Rattle.vd_bytes.specs.Calls.{Numbers}
use Rattle.vd_bytes.specs.Folder.{Files}
use Rattle.vd_bytes.specs.Outs.{Written}

-- what contracts see of it: its files, what was written, the channels that were begun, the calls of each kind, the counts of faults, and how many
-- bytes a call takes at most
pub record MemoryState : Type 0 where
  pub files : Files
  pub out : Written
  pub begun : Begun
  pub opens : Numbers
  pub reads : Numbers
  pub writes : Numbers
  pub read_faults : ℕ
  pub write_faults : ℕ
  pub most : ℕ
