use Rattle.std.proofs.Common.{sym, ◌∙◌, refl, subst, ap, is_ok, drop}
use Rattle.vd_first_lex.specs.Scans.{spots_from, moved, ReadsTokens}
use Rattle.vd_first_lex.proofs.ReadLemmas.{on_ok, reads_spacing, reads_token, breaks_here}
use Rattle.vd_first_lex.proofs.TokenLemmas.{name_begins}
use Rattle.vd_first_lex.proofs.lexer.Lexer.read_piece.Goals as goal

pub returns-then-is_spacing-clause-read : goal.returns-then-is_spacing-clause-read
returns-then-is_spacing-clause-read c = reads_spacing c.args.words.now.revision c.args.self.now.tokens.items c.args.place c.args.rest.now c.requires (sym c.if-is_spacing.ensures)

pub returns-then-is_letter-clause-read : goal.returns-then-is_letter-clause-read
returns-then-is_letter-clause-read c =
    let old = c.args.self.now.tokens.items in
    let bs = c.args.rest.now in
    let n = c.name_length-n.result in
    let added = on_ok c.add_name.result (sym c.map_err.ensures.variant ∙ ap is_ok c.in_ok-map_err.was) c.add_name.ensures in
    subst (λ ts. ReadsTokens c.args.words.now.revision old ts (spots_from c.args.place bs) (spots_from (moved c.args.place n) (drop n bs))) (sym added)
    (reads_token c.args.words.now.revision old c.args.place bs n _ (name_begins c.args.words.now.revision bs n (sym c.if-is_letter.ensures) c.name_length-n.ensures))

pub returns-in_ok-map_err-in-Some-clause-read : goal.returns-in_ok-map_err-in-Some-clause-read
returns-in_ok-map_err-in-Some-clause-read c =
    let old = c.args.self.now.tokens.items in
    let bs = c.args.rest.now in
    let n = c.in-Some.n in
    let added = on_ok c.add_mark.result (sym c.map_err-in-Some.ensures.variant ∙ ap is_ok c.in_ok-map_err-in-Some.was) c.add_mark.ensures in
    subst (λ ts. ReadsTokens c.args.words.now.revision old ts (spots_from c.args.place bs) (spots_from (moved c.args.place n) (drop n bs))) (sym added)
    (reads_token c.args.words.now.revision old c.args.place bs n _ (c.in-Some.ensures.found c.args.words.now.revision))

pub returns-in-None-clause-broken : goal.returns-in-None-clause-broken
returns-in-None-clause-broken c = (refl, breaks_here c.args.words.now.revision c.args.place c.args.rest.now c.requires (sym c.if-is_spacing.ensures) (c.in-None.ensures.none c.args.words.now.revision))
