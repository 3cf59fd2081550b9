use Rattle.std.proofs.Common.{drop}
use Rattle.vd_lex.specs.Scans.{IsTextRead}
use Rattle.vd_lex.proofs.lexer.lex_with.Given as goal

abbrev pub invariant-loop-line : goal.invariant-loop-line
invariant-loop-line l = IsTextRead l.words.revision l.text l.lexer.tokens l.lexer.state (drop l.line-index l.text.lines)
