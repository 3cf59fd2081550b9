use Rattle.std.proofs.Common.{ap, ◌∙◌}
use Rattle.vd_bytes.specs.Folder.{told_of}
use Rattle.vd_bytes.proofs.Folders.{told_of-files_from}
use Rattle.vd_bytes.proofs.folder.Folder.new.Goals as goal

pub returns-clause-told : goal.returns-clause-told
returns-clause-told c = ap told_of c.in_ok-files.ensures ∙ told_of-files_from c.args.names.items c.args.contents.items
