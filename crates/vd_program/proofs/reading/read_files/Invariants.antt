use Rattle.std.proofs.Common.{◌≡◌, ◌+◌, length, take, IfSome}
use Rattle.vd_bytes.specs.Trays.{SameCounts, OnlyReads}
use Rattle.vd_words.specs.Words.{texts_of}
use Rattle.vd_program.specs.Outcomes.{contents_of, total_length}
use Rattle.vd_program.proofs.reading.read_files.Given as goal

abbrev pub invariant-loop-i : goal.invariant-loop-i
invariant-loop-i g l =
    record {
      contents : IfSome (g.T.Tray.files l.fn.tray) (λ told. l.contents.items ≡ contents_of told (texts_of (take l.i l.names)));
      as_many : length l.contents.items ≡ l.i;
      left : l.left + total_length l.contents.items ≡ 8388608;
      no_fault : SameCounts (g.T.Tray.read_faults l.fn.tray) (g.T.Tray.read_faults l.tray);
      only_reads : OnlyReads g.T.Tray.files g.T.Tray.written g.T.Tray.is_begun g.T.Tray.read_faults g.T.Tray.write_faults l.fn.tray l.tray;
    }
