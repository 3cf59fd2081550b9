use Rattle.std.proofs.Common.{◌≡◌, ◌+◌, ◌<◌, ◌≤◌, ◌++◌, [], ◌∷◌, sym, ◌∙◌, subst, ap, is_ok, length, get_or, drop}
use Rattle.std.proofs.lemmas.Result.{err_from_is_err_and}
use Rattle.vd_first_lex.specs.declared.tokens.Kind.TheVariants.{End}
use Rattle.vd_first_lex.specs.Lexis.{line_spots, spots_of, IsTokenList}
use Rattle.vd_first_lex.specs.Scans.{ReadsTokens}
use Rattle.vd_first_lex.proofs.KindLemmas.{possible_tokens, ends_once}
use Rattle.vd_first_lex.proofs.ReadLemmas.{reads_none, reads_then, reads_in_front, refused_then, refused_in_front, refused_in, spots_of-more, spots_of-all, token_list, on_ok, at_ok}
use Rattle.vd_first_lex.proofs.lexer.lex.Goals as goal
use Rattle.vd_first_lex.proofs.lexer.lex.Goals.{After-drop-words-5}

pub loop-line-init : goal.loop-line-init
loop-line-init c =
    let text = c.args.text.now in
    let whole = spots_of text.file text.lines in
    subst (λ ts. ReadsTokens c.in_ok-words.words.revision [] ts whole whole) (sym c.new-lexer.ensures)
    (reads_none c.in_ok-words.words.revision [] whole)

pub returns-in_err-read_line-clause-broken : goal.returns-in_err-read_line-clause-broken
returns-in_err-read_line-clause-broken c =
    let text = c.args.text.now in
    let ls = text.lines in
    let i = c.loop-line.line-index in
    let l = c.line-item.result in
    let rest = spots_of text.file (drop (i + 1) ls) in
    let line = line_spots text.file l.number 1 l.bytes in
    let old = c.loop-line.lexer.tokens.items in
    let here = subst (λ xs. i < length xs) c.as_slice-line-items.ensures c.loop-line-test.true in
    let is = subst (λ xs. l ≡ get_or xs i l) c.as_slice-line-items.ensures c.line-item.is in
    let now = subst (λ ss. ReadsTokens c.in_ok-words.words.revision [] old (spots_of text.file ls) ss) (spots_of-more text.file ls i l here is) c.loop-line.invariant in
    let p = err_from_is_err_and c.from_residual-in_err-read_line.result c.from_residual-in_err-read_line.ensures.1 in
    let made = at_ok (λ w. w.revision ≡ c.args.revision) _ c.new.result c.map_err.result c.in_ok-words.words c.map_err.ensures.cases c.in_ok-words.was c.new.ensures in
    rw (p.1, p.2) (refused_in c.in_ok-words.words.revision c.args.revision made text _ (refused_then c.in_ok-words.words.revision [] old (spots_of text.file ls) (line ++ rest) now _ (refused_in_front c.in_ok-words.words.revision line rest _ c.in_err-read_line.ensures.broken)))

pub loop-line-preserved : goal.loop-line-preserved
loop-line-preserved c =
    let text = c.args.text.now in
    let ls = text.lines in
    let i = c.loop-line.line-index in
    let l = c.line-item.result in
    let rest = spots_of text.file (drop (i + 1) ls) in
    let line = line_spots text.file l.number 1 l.bytes in
    let old = c.loop-line.lexer.tokens.items in
    let new = c.read_line.new.self.tokens.items in
    let here = subst (λ xs. i < length xs) c.as_slice-line-items.ensures c.loop-line-test.true in
    let is = subst (λ xs. l ≡ get_or xs i l) c.as_slice-line-items.ensures c.line-item.is in
    let now = subst (λ ss. ReadsTokens c.in_ok-words.words.revision [] old (spots_of text.file ls) ss) (spots_of-more text.file ls i l here is) c.loop-line.invariant in
    reads_then c.in_ok-words.words.revision [] old new (spots_of text.file ls) (line ++ rest) rest now (reads_in_front c.in_ok-words.words.revision old new line rest c.in_ok-read_line.ensures.read)

read : (c : After-drop-words-5) → IsTokenList c.args.revision c.args.text.now c.add_mark.new.self.tokens.items
read c =
    let text = c.args.text.now in
    let old = c.loop-line.lexer.tokens.items in
    let end = subst (λ ls. length ls ≤ c.loop-line.line-index) c.as_slice-line-items.ensures c.loop-line-test.false in
    let all = subst (λ ss. ReadsTokens c.in_ok-words.words.revision [] old (spots_of text.file text.lines) ss) (spots_of-all text.file text.lines c.loop-line.line-index end) c.loop-line.invariant in
    let added = on_ok c.add_mark.result (sym c.map_err-2.ensures.variant ∙ ap is_ok c.in_ok-map_err.was) c.add_mark.ensures in
    let made = at_ok (λ w. w.revision ≡ c.args.revision) _ c.new.result c.map_err.result c.in_ok-words.words c.map_err.ensures.cases c.in_ok-words.was c.new.ensures in
    subst (λ r. IsTokenList r text c.add_mark.new.self.tokens.items) made (subst (IsTokenList c.in_ok-words.words.revision text) (sym (added ∙ ap (λ p. old ++ record { kind = End; text = []; place = p } ∷ []) c.end_of.ensures)) (token_list c.in_ok-words.words.revision text old all))

pub returns-clause-read : goal.returns-clause-read
returns-clause-read c = read c

pub returns-clause-possible : goal.returns-clause-possible
returns-clause-possible c = possible_tokens c.args.revision c.args.text.now _ (read c)

pub returns-clause-ends : goal.returns-clause-ends
returns-clause-ends c = ends_once c.args.revision c.args.text.now _ (read c)
