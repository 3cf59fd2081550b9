use Rattle.std.proofs.Common.{◌≡◌, ◌+◌, ◌-◌, ◌<◌, length, get_or, sym, ◌∙◌, subst, ap}
use Rattle.vd_directives.specs.Lines.{place_at}
use Rattle.vd_lex.proofs.ReadLemmas.{end_place-last}
use Rattle.vd_lex.proofs.lexer.end_of.Goals as goal

pub returns-in-Some : goal.returns-in-Some
returns-in-Some c =
    let file = c.args.text.now.file in
    let line = c.in-Some.line.now in
    let item = c.in-Some.ensures.item in
    let some = subst (λ ls. 0 < length ls) c.as_slice.ensures item.3.0 in
    let is = subst (λ ls. line ≡ get_or ls (length ls - 1) line) c.as_slice.ensures item.1 in
    ap (λ bs. place_at file line.number (length bs + 1)) c.as_slice-in-Some.ensures ∙ sym (end_place-last file c.args.text.now.lines line some is)
