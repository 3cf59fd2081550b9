use Rattle.std.proofs.Common.{◌++◌, [], ◌∷◌, sym, subst, ◌∙◌}
use Rattle.std.proofs.lemmas.Bool.{ltb-true, ltb-false}
use Rattle.vd_gram.specs.declared.steps.Step.TheVariants.{Leaf}
use Rattle.vd_gram.proofs.AdvanceLemmas.{refused_other, deep_after, stands_after}
use Rattle.vd_gram.proofs.reading.Reading.accept.Goals as goal

pub returns-then-next-symbol_ahead-clause-answer : goal.returns-then-next-symbol_ahead-clause-answer
returns-then-next-symbol_ahead-clause-answer g c =
    refused_other c.args.checked.now.table c.args.checked.now.checked c.args.symbols.now c.args.deep c.args.place c.args.next c.requires.looking.steps c.args.self.now
    c.requires.terminal c.requires.looking.ahead (λ e. c.if-next-symbol_ahead.true (e ∙ sym c.symbol_ahead.ensures))

pub returns-then-is_too_deep-clause-answer : goal.returns-then-is_too_deep-clause-answer
returns-then-is_too_deep-clause-answer g c =
    deep_after c.args.checked.now.table c.args.checked.now.checked c.args.symbols.now c.args.deep c.args.place c.args.next c.requires.looking.steps c.args.self.now
    c.requires.terminal c.requires.looking.ahead (c.if-next-symbol_ahead.false ∙ c.symbol_ahead.ensures) (ltb-true _ _ (sym c.is_too_deep.ensures ∙ c.if-is_too_deep.true))

pub returns-clause-answer : goal.returns-clause-answer
returns-clause-answer g c =
    let steps = c.requires.looking.steps in
    record {
      steps = steps ++ Leaf c.args.next.symbol c.args.place ∷ [];
      taken = subst (λ n. g.B.Builder.HasTaken c.leaf.new.self (steps ++ Leaf c.args.next.symbol n ∷ [])) c.in_ok-narrow.ensures.same (c.in_ok-leaf.ensures.told steps c.requires.looking.taken);
      stands = stands_after c.args.checked.now.table c.args.checked.now.checked c.args.symbols.now c.args.deep c.args.place c.args.next steps c.args.self.now
          c.requires.terminal c.requires.looking.ahead (c.if-next-symbol_ahead.false ∙ c.symbol_ahead.ensures) (ltb-false _ _ (sym c.is_too_deep.ensures ∙ c.if-is_too_deep.false));
    }

pub leaf-requires : goal.leaf-requires
leaf-requires g c = (c.requires.looking.steps, c.requires.looking.taken)
