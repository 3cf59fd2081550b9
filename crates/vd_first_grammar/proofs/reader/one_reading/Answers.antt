use Rattle.vd_first_grammar.proofs.OneReading.{one_reading}
use Rattle.vd_first_grammar.proofs.reader.one_reading.Goals as goal

pub returns : goal.returns
returns c = one_reading
