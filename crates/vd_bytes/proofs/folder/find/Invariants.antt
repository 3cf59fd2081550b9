use Rattle.std.proofs.Common.{◌≡◌, drop}
use Rattle.vd_bytes.specs.Trays.{content_of, has_file}
use Rattle.vd_bytes.specs.Folder.{told_of}
use Rattle.vd_bytes.proofs.folder.find.Given as goal

-- the files that were passed don't have the name
abbrev pub invariant-loop-i : goal.invariant-loop-i
invariant-loop-i l =
    record {
      content : content_of (told_of (drop l.i l.files)) l.name ≡ content_of (told_of l.files) l.name;
      found : has_file (told_of (drop l.i l.files)) l.name ≡ has_file (told_of l.files) l.name;
    }
