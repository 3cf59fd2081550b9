use Rattle.std.proofs.Common.{◌≡◌, ◌-◌, ◌≤◌, true, IfSome, vec_len}
use Rattle.vd_bytes.specs.Trays.{SameCounts, OnlyReads}
use Rattle.vd_bytes.proofs.ReadSteps.{IsReadUpTo}
use Rattle.vd_bytes.proofs.reading.read_rest.Given as goal

abbrev pub invariant-pieces : goal.invariant-pieces
invariant-pieces g l =
    record {
      is_open : g.T.Tray.is_open l.tray ≡ true;
      name : g.T.Tray.open_name l.tray ≡ g.T.Tray.open_name l.fn.tray;
      short : vec_len l.bytes ≤ l.left;
      so_far : IfSome (g.T.Tray.rest l.fn.tray) (λ told. IsReadUpTo told l.bytes.items (g.T.Tray.rest l.tray));
      no_fault : SameCounts (g.T.Tray.read_faults l.fn.tray) (g.T.Tray.read_faults l.tray);
      only_reads : OnlyReads g.T.Tray.files g.T.Tray.written g.T.Tray.is_begun g.T.Tray.read_faults g.T.Tray.write_faults l.fn.tray l.tray;
    }

abbrev pub decreases-pieces : goal.decreases-pieces
decreases-pieces g l = l.left - vec_len l.bytes
