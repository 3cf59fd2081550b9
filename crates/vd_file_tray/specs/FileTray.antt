-- What a tray of real files tells of itself.
use Rattle.std.specs.Prelude.{◌≡◌, ◌⊎◌, ℕ, Bool}
use Rattle.vd_bytes.specs.declared.channels.Channel.{Channel}
use Rattle.vd_bytes.specs.Begun.{Begun, after_begin}
use Rattle.vd_bytes.specs.Trays.{after_fault}

-- whether a file is open for reading, which channels were begun (a file of Design or Map was created, or emptied), how many calls of
-- opening and reading failed, and how many of writing
pub record FileState : Type 0 where
  pub is_reading : Bool
  pub begun : Begun
  pub read_faults : ℕ
  pub write_faults : ℕ

-- a piece was written, or some first bytes of it
abbrev pub after_write : FileState → Channel → FileState
after_write s to = record s { begun = after_begin s.begun to }

-- writing failed, before or after the channel was begun
abbrev pub IsAfterWriteFault : FileState → Channel → FileState → Type 0
IsAfterWriteFault old to new =
    (new ≡ record old { write_faults = after_fault old.write_faults })
    ⊎ (new ≡ record (after_write old to) { write_faults = after_fault old.write_faults })
