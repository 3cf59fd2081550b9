use Rattle.std.proofs.Common.{◌++◌, [], ◌∷◌, sym, subst, ◌∙◌}
use Rattle.vd_gram.specs.declared.steps.Step.TheVariants.{Leaf}
use Rattle.vd_shapes.specs.Machine.{run, begun}
use Rattle.vd_shapes.specs.Standing.{StandsAt}
use Rattle.vd_shapes.proofs.MachineLemmas.{run_more}
use Rattle.vd_shapes.proofs.growing.GrowingBuilder.leaf.Goals as goal

pub returns-clause-told : goal.returns-clause-told
returns-clause-told c = λ steps h.
    let g = c.args.self.now in
    let told = c.in_ok-take_part.ensures.stands (run g.actions.now g.tokens.now begun steps) c.args._place h.stands in
    let k = c.in_ok-take_part.ensures.kept in
    record {
      stands =
          subst (StandsAt c.take_part.new.self)
          (sym (run_more g.actions.now g.tokens.now begun steps (Leaf c.args.symbol c.args._place)) ∙ (λ i. run (sym k.actions i).now (sym k.tokens i).now begun (steps ++ Leaf c.args.symbol c.args._place ∷ []))) told;
    }
