use Rattle.std.proofs.Common.{[], drop}
use Rattle.vd_first_lex.specs.Lexis.{spots_of}
use Rattle.vd_first_lex.specs.Scans.{ReadsTokens}
use Rattle.vd_first_lex.proofs.lexer.lex.Given as goal

abbrev pub invariant-loop-line : goal.invariant-loop-line
invariant-loop-line l = ReadsTokens l.words.revision [] l.lexer.tokens.items (spots_of l.text.file l.text.lines) (spots_of l.text.file (drop l.line-index l.text.lines))
