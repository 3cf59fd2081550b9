use Rattle.std.proofs.Common.{refl}
use Rattle.vd_grammar93.proofs.reader.lists.Goals as goal

pub returns : goal.returns
returns c = record { terminals = refl; start = refl; marked = refl; rows = refl; claims = refl; empties = refl }
