use Rattle.vd_first_lex.proofs.KindLemmas.{possible_tokens}
use Rattle.vd_first_print.proofs.reading_back.token_lists_are_possible.Goals as goal

pub returns : goal.returns
returns c = possible_tokens
