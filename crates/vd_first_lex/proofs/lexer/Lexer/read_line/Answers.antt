use Rattle.std.proofs.Common.{◌≡◌, [], sym, refl, subst, ap, length, drop, arith}
use Rattle.std.proofs.lemmas.Bool.Decides.{Decides-eqb}
use Rattle.std.proofs.lemmas.List.{nil_from_length}
use Rattle.std.proofs.lemmas.Result.{err_from_is_err_and}
use Rattle.vd_first_lex.specs.Lexis.{line_spots}
use Rattle.vd_first_lex.specs.Scans.{spots_from, moved, ReadsTokens}
use Rattle.vd_first_lex.proofs.ReadLemmas.{reads_none, reads_then, refused_then, reads_line_end}
use Rattle.vd_first_lex.proofs.lexer.Lexer.read_line.Goals as goal

pub loop-rest-init : goal.loop-rest-init
loop-rest-init c =
    let line = c.args.line.now in
    let old = c.args.self.now.tokens.items in
    record {
      same_file = refl;
      same_line = refl;
      column = omega (arith, ap length c.as_slice-rest.ensures);
      reads = subst (λ bs. ReadsTokens c.args.words.now.revision old old (line_spots c.args.file line.number 1 line.bytes) (line_spots c.args.file line.number 1 bs)) (sym c.as_slice-rest.ensures)
          (reads_none c.args.words.now.revision old (line_spots c.args.file line.number 1 line.bytes));
    }

pub returns-in_err-n-clause-broken : goal.returns-in_err-n-clause-broken
returns-in_err-n-clause-broken c =
    let line = c.args.line.now in
    let p = err_from_is_err_and c.from_residual.result c.from_residual.ensures.1 in
    rw (p.1, p.2) (refused_then c.args.words.now.revision c.args.self.now.tokens.items c.loop-rest.self.tokens.items (line_spots c.args.file line.number 1 line.bytes) (spots_from c.loop-rest.place c.loop-rest.rest.now) c.loop-rest.invariant.reads _ c.in_err-n.ensures.broken)

pub loop-rest-preserved : goal.loop-rest-preserved
loop-rest-preserved c =
    let line = c.args.line.now in
    let old = c.args.self.now.tokens.items in
    let new = c.read_piece.new.self.tokens.items in
    let bs = c.loop-rest.rest.now in
    let n = c.in_ok-n.n in
    let whole = line_spots c.args.file line.number 1 line.bytes in
    record {
      same_file = c.loop-rest.invariant.same_file;
      same_line = c.loop-rest.invariant.same_line;
      column = omega (arith, c.split_at.ensures.back_len, c.loop-rest.invariant.column);
      reads = subst (λ after. ReadsTokens c.args.words.now.revision old new whole (spots_from (moved c.loop-rest.place n) after)) (sym c.split_at.ensures.back)
          (reads_then c.args.words.now.revision old c.loop-rest.self.tokens.items new whole (spots_from c.loop-rest.place bs) (spots_from (moved c.loop-rest.place n) (drop n bs)) c.loop-rest.invariant.reads c.in_ok-n.ensures.read);
    }

pub returns-clause-read : goal.returns-clause-read
returns-clause-read c =
    let line = c.args.line.now in
    let old = c.args.self.now.tokens.items in
    let mid = c.loop-rest.self.tokens.items in
    let none : c.loop-rest.rest.now ≡ [] = nil_from_length c.loop-rest.rest.now ((Decides-eqb (length c.loop-rest.rest.now) 0).0 (sym c.loop-rest-test.ensures)) in
    reads_then c.args.words.now.revision old mid mid (line_spots c.args.file line.number 1 line.bytes) (spots_from c.loop-rest.place []) []
    (subst (λ bs. ReadsTokens c.args.words.now.revision old mid (line_spots c.args.file line.number 1 line.bytes) (spots_from c.loop-rest.place bs)) none c.loop-rest.invariant.reads)
    (reads_line_end c.args.words.now.revision mid c.loop-rest.place)
