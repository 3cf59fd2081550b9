use Rattle.std.proofs.Common.{None, Some, ap, subst, sym, ◌∙◌}
use Rattle.vd_known_generics.proofs.ActualLemmas.{is_actual}
use Rattle.vd_known_generics.proofs.ElementLemmas.{given_for}
use Rattle.vd_known_generics.specs.Elements.{IsGiven, given_by}
use Rattle.vd_meaning.specs.Generics.{element_for, value_in, value_known}
use Rattle.vd_meaning.specs.Tables.{actual_mark}
use Rattle.vd_known_generics.proofs.actuals.actual_at.Goals as goal

pub returns : goal.returns
returns c = λ d k ks xs knows are.
    let place = c.args.place in
    let generic = c.args.generic in
    let given = c.in_ok-given.ensures ∙ ap given_by c.element_for.ensures in
    is_actual c.args.design.now.table.subtypes d k xs place generic c.args.copy c.actual_mark-mark.result c.in_ok-given.given c.marked.result
    (subst (λ o. IsGiven o (value_in (element_for place generic xs) k.env) (value_known (element_for place generic xs) k.env)) (sym given)
    (given_for k.env place generic c.args.nodes.now xs are))
    (c.actual_mark-mark.ensures c.args.design.now.revision ∙ ap (λ t. actual_mark t c.args.copy) (sym knows.table)) (c.marked.ensures d k ks knows)
