use Rattle.std.proofs.Common.{◌≡◌, ◌-◌, ◌≤◌, length, take}
use Rattle.vd_bytes.specs.Trays.{Appends, OnlyWrites}
use Rattle.vd_bytes.proofs.writing.write_all.Given as goal

abbrev pub invariant-pieces : goal.invariant-pieces
invariant-pieces g l =
    record {
      inside : l.done ≤ length l.bytes;
      appended : Appends (g.T.Tray.written l.fn.tray l.to) (g.T.Tray.written l.tray l.to) (take l.done l.bytes);
      no_fault : g.T.Tray.write_faults l.tray ≡ g.T.Tray.write_faults l.fn.tray;
      only_writes : OnlyWrites g.T.Tray.files g.T.Tray.is_open g.T.Tray.open_name g.T.Tray.rest g.T.Tray.written g.T.Tray.is_begun g.T.Tray.read_faults g.T.Tray.write_faults l.to l.fn.tray l.tray;
    }

abbrev pub decreases-pieces : goal.decreases-pieces
decreases-pieces g l = length l.bytes - l.done
