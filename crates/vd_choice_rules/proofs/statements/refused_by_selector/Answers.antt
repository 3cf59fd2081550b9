use Rattle.vd_choice_rules.proofs.StatementLemmas.{found_same, of_arrays, of_scalars}
use Rattle.vd_choice_rules.proofs.statements.refused_by_selector.Goals as goal

pub returns-then-selecting : goal.returns-then-selecting
returns-then-selecting c = λ d k ks s knows is.
    found_same _ _ c.refused_of_arrays.result (of_arrays k.env c.args.selecting.now s is c.if-selecting.true) (c.refused_of_arrays.ensures d k ks s knows is)

pub returns-else-selecting : goal.returns-else-selecting
returns-else-selecting c = λ d k ks s knows is.
    found_same _ _ c.refused_of_scalars.result (of_scalars k.env c.args.selecting.now s is c.if-selecting.false) (c.refused_of_scalars.ensures d k ks s knows is)
