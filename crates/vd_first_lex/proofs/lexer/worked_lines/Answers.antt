use Rattle.vd_first_lex.proofs.LexingExamples.{reads_worked_line, breaks_worked_line}
use Rattle.vd_first_lex.proofs.lexer.worked_lines.Goals as goal

pub returns : goal.returns
returns c = record { reads = reads_worked_line; breaks = breaks_worked_line }
