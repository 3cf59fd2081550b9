use Rattle.std.proofs.Common.{◌≡◌, ◌+◌, length}
use Rattle.vd_first_lex.specs.Lexis.{line_spots}
use Rattle.vd_first_lex.specs.Scans.{spots_from, ReadsTokens}
use Rattle.vd_first_lex.proofs.lexer.Lexer.read_line.Given as goal

abbrev pub invariant-loop-rest : goal.invariant-loop-rest
invariant-loop-rest l = record {
  same_file : l.place.file ≡ l.fn.file;
  same_line : l.place.line ≡ l.line.number;
  column : l.place.column + length l.rest ≡ length l.line.bytes + 1;
  reads : ReadsTokens l.words.revision l.initial.self.tokens.items l.self.tokens.items (line_spots l.fn.file l.line.number 1 l.line.bytes) (spots_from l.place l.rest);
}

abbrev pub decreases-loop-rest : goal.decreases-loop-rest
decreases-loop-rest l = length l.rest
