use Rattle.std.proofs.Common.{sym, subst, ◌∙◌}
use Rattle.std.proofs.lemmas.Bool.{ltb-true, ltb-false}
use Rattle.vd_gram.proofs.AdvanceLemmas.{refused_more, deep_end, refused_behind, read_all}
use Rattle.vd_gram.proofs.reading.Reading.finish.Goals as goal

pub returns-then-symbol_ahead : goal.returns-then-symbol_ahead
returns-then-symbol_ahead g c =
    refused_more c.args.checked.now.table c.args.checked.now.checked c.args.symbols.now c.args.deep c.args.place c.requires.steps c.args.self.now c.requires.ahead (λ e. c.if-symbol_ahead.true (c.symbol_ahead.ensures ∙ e))

pub returns-then-is_too_deep : goal.returns-then-is_too_deep
returns-then-is_too_deep g c =
    deep_end c.args.checked.now.table c.args.checked.now.checked c.args.symbols.now c.args.deep c.args.place c.requires.steps c.args.self.now c.requires.ahead (sym c.symbol_ahead.ensures ∙ c.if-symbol_ahead.false) (ltb-true _ _ (sym c.is_too_deep.ensures ∙ c.if-is_too_deep.true))

pub returns-then-place-symbols : goal.returns-then-place-symbols
returns-then-place-symbols g c =
    refused_behind c.args.checked.now.table c.args.checked.now.checked c.args.symbols.now c.args.deep c.args.place c.requires.steps c.args.self.now c.requires.ahead (sym c.symbol_ahead.ensures ∙ c.if-symbol_ahead.false) (ltb-false _ _ (sym c.is_too_deep.ensures ∙ c.if-is_too_deep.false)) c.if-place-symbols.true

pub returns : goal.returns
returns g c =
    let p = read_all c.args.checked.now.table c.args.checked.now.checked c.args.symbols.now c.args.deep c.args.place c.requires.steps c.args.self.now c.requires.ahead (ltb-false _ _ (sym c.is_too_deep.ensures ∙ c.if-is_too_deep.false)) c.if-place-symbols.false in
    record { tree = p.tree; parse = p.parse; taken = subst (g.B.Builder.HasTaken c.args.builder.now) (sym p.steps_are) c.requires.taken }
