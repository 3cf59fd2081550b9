use Rattle.vd_lex.proofs.SpelledLemmas.{spellings_read_back}
use Rattle.vd_lex.proofs.laws.spellings_read_back.Goals as goal

pub returns : goal.returns
returns c = spellings_read_back
