use Rattle.std.proofs.Common.{◌≡◌, ◌+◌, ◌<◌, ◌≤◌, subst, length, get_or, drop}
use Rattle.std.proofs.lemmas.Result.{err_from_is_err_and}
use Rattle.vd_lex.specs.Scans.{IsLineRead, IsLineRefused}
use Rattle.vd_lex.proofs.ReadLemmas.{text_start, text_line, text_refused, lines_more, lines_all, finished, unfinished}
use Rattle.vd_lex.proofs.lexer.lex_with.Goals as goal

pub loop-line-init : goal.loop-line-init
loop-line-init c =
    let text = c.args.text.now in
    let r = c.args.words.now.revision in
    rw (c.new-lexer.ensures.tokens, c.new-lexer.ensures.state) (text_start r text)

pub returns-in_err-read_line-clause-broken : goal.returns-in_err-read_line-clause-broken
returns-in_err-read_line-clause-broken c =
    let text = c.args.text.now in
    let r = c.args.words.now.revision in
    let ls = text.lines in
    let i = c.loop-line.line-index in
    let l = c.line-item.result in
    let here = subst (λ xs. i < length xs) c.as_slice-line-items.ensures c.loop-line-test.true in
    let is = subst (λ xs. l ≡ get_or xs i l) c.as_slice-line-items.ensures c.line-item.is in
    let now = lines_more r text c.loop-line.lexer.tokens c.loop-line.lexer.state ls i l here is c.loop-line.invariant in
    let p = err_from_is_err_and c.from_residual.result c.from_residual.ensures.1 in
    let refused = subst (λ st. IsLineRefused r text.file l st c.in_err-read_line.field-0.0) c.pass_line_end.ensures.state c.in_err-read_line.ensures.broken in
    rw (p.1, p.2) (text_refused r text c.loop-line.lexer.tokens c.loop-line.lexer.state l (drop (i + 1) ls) _ now refused)

pub loop-line-preserved : goal.loop-line-preserved
loop-line-preserved c =
    let text = c.args.text.now in
    let r = c.args.words.now.revision in
    let ls = text.lines in
    let i = c.loop-line.line-index in
    let l = c.line-item.result in
    let old = c.loop-line.lexer in
    let mid = c.pass_line_end.new.self in
    let new = c.read_line.new.self in
    let here = subst (λ xs. i < length xs) c.as_slice-line-items.ensures c.loop-line-test.true in
    let is = subst (λ xs. l ≡ get_or xs i l) c.as_slice-line-items.ensures c.line-item.is in
    let now = lines_more r text old.tokens old.state ls i l here is c.loop-line.invariant in
    let read = subst (λ ts. IsLineRead r text.file l ts new.tokens mid.state new.state) c.pass_line_end.ensures.tokens c.in_ok-read_line.ensures.read in
    let read2 = subst (λ st. IsLineRead r text.file l old.tokens new.tokens st new.state) c.pass_line_end.ensures.state read in
    text_line r text old.tokens new.tokens old.state new.state l (drop (i + 1) ls) now read2

pub returns-clause-read : goal.returns-clause-read
returns-clause-read c =
    let text = c.args.text.now in
    let r = c.args.words.now.revision in
    let lexer = c.loop-line.lexer in
    let end = subst (λ ls. length ls ≤ c.loop-line.line-index) c.as_slice-line-items.ensures c.loop-line-test.false in
    let all = lines_all r text lexer.tokens lexer.state text.lines c.loop-line.line-index end c.loop-line.invariant in
    finished r text lexer.tokens lexer.state c.end_of.result c.finish.result c.end_of.ensures all c.finish.ensures.read

pub returns-clause-broken : goal.returns-clause-broken
returns-clause-broken c =
    let text = c.args.text.now in
    let r = c.args.words.now.revision in
    let lexer = c.loop-line.lexer in
    let end = subst (λ ls. length ls ≤ c.loop-line.line-index) c.as_slice-line-items.ensures c.loop-line-test.false in
    let all = lines_all r text lexer.tokens lexer.state text.lines c.loop-line.line-index end c.loop-line.invariant in
    unfinished r text lexer.tokens lexer.state c.finish.result all c.finish.ensures.broken
