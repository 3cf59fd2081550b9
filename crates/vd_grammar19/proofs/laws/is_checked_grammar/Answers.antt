use Rattle.vd_grammar19.proofs.Checked.{grammar_is_checked}
use Rattle.vd_grammar19.proofs.laws.is_checked_grammar.Goals as goal

pub returns : goal.returns
returns c = grammar_is_checked
