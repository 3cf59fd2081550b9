use Rattle.std.proofs.Common.{◌≡◌, [], sym, refl, subst, ap, length, drop, arith}
use Rattle.std.proofs.lemmas.Bool.Decides.{Decides-eqb}
use Rattle.std.proofs.lemmas.List.{nil_from_length}
use Rattle.std.proofs.lemmas.Result.{err_from_is_err_and}
use Rattle.vd_directives.specs.Lines.{place_at}
use Rattle.vd_lex.specs.Lexis.{moved}
use Rattle.vd_lex.specs.Scans.{ReadsTokens}
use Rattle.vd_lex.proofs.ReadLemmas.{reads_none, reads_then, reads_piece, line_refused, line_read, some_from}
use Rattle.vd_lex.proofs.lexer.Lexer.read_line.Goals as goal

pub loop-rest-init : goal.loop-rest-init
loop-rest-init c =
    let line = c.args.line.now in
    let old = c.args.self.now.tokens in
    let st = c.args.self.now.state in
    let p = place_at c.args.file line.number 1 in
    record {
      same_file = refl;
      column = omega (arith, ap length c.as_slice-rest.ensures);
      reads = subst (λ bs. ReadsTokens c.args.words.now.revision old old st p line.bytes st p bs) (sym c.as_slice-rest.ensures)
          (reads_none c.args.words.now.revision old st p line.bytes);
    }

pub returns-in_err-n-clause-broken : goal.returns-in_err-n-clause-broken
returns-in_err-n-clause-broken c =
    let line = c.args.line.now in
    let p = err_from_is_err_and c.from_residual.result c.from_residual.ensures.1 in
    rw (p.1, p.2) (line_refused c.args.words.now.revision c.args.file line c.args.self.now.tokens c.loop-rest.self.tokens c.args.self.now.state c.loop-rest.self.state c.loop-rest.place c.loop-rest.rest.now _
    (some_from c.loop-rest.rest.now (sym c.loop-rest-test.ensures)) c.loop-rest.invariant.reads c.in_err-n.ensures.broken)

pub loop-rest-preserved : goal.loop-rest-preserved
loop-rest-preserved c =
    let line = c.args.line.now in
    let old = c.args.self.now.tokens in
    let st = c.args.self.now.state in
    let mid = c.loop-rest.self in
    let new = c.read_piece.new.self in
    let bs = c.loop-rest.rest.now in
    let n = c.in_ok-n.n in
    let p = place_at c.args.file line.number 1 in
    let some = some_from bs (sym c.loop-rest-test.ensures) in
    record {
      same_file = c.loop-rest.invariant.same_file;
      column = omega (arith, c.split_at.ensures.back_len, c.loop-rest.invariant.column);
      reads = subst (λ after. ReadsTokens c.args.words.now.revision old new.tokens st p line.bytes new.state (moved c.loop-rest.place n) after) (sym c.split_at.ensures.back)
          (reads_then c.args.words.now.revision old mid.tokens new.tokens st p line.bytes mid.state c.loop-rest.place bs new.state (moved c.loop-rest.place n) (drop n bs) c.loop-rest.invariant.reads
          (reads_piece c.args.words.now.revision mid.state c.loop-rest.place bs some n new.state mid.tokens new.tokens c.in_ok-n.ensures.read));
    }

pub returns-clause-read : goal.returns-clause-read
returns-clause-read c =
    let bs = c.loop-rest.rest.now in
    let none : bs ≡ [] = nil_from_length bs ((Decides-eqb (length bs) 0).0 (sym c.loop-rest-test.ensures)) in
    line_read c.args.words.now.revision c.args.file c.args.line.now c.args.self.now.tokens c.loop-rest.self.tokens c.args.self.now.state c.loop-rest.self.state c.loop-rest.place bs c.loop-rest.invariant.same_file none c.loop-rest.invariant.reads
