use Rattle.std.proofs.Common.{◌≡◌, ◌+◌, length}
use Rattle.vd_directives.specs.Lines.{place_at}
use Rattle.vd_lex.specs.Scans.{ReadsTokens}
use Rattle.vd_lex.proofs.lexer.Lexer.read_line.Given as goal

abbrev pub invariant-loop-rest : goal.invariant-loop-rest
invariant-loop-rest l = record {
  same_file : l.place.file ≡ l.fn.file;
  column : l.place.column + length l.rest ≡ length l.line.bytes + 1;
  reads : ReadsTokens l.words.revision l.initial.self.tokens l.self.tokens l.initial.self.state (place_at l.fn.file l.line.number 1) l.line.bytes l.self.state l.place l.rest;
}

abbrev pub decreases-loop-rest : goal.decreases-loop-rest
decreases-loop-rest l = length l.rest
