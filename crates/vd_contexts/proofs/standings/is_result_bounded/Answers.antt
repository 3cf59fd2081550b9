use Rattle.std.proofs.Common.{◌≤◌, ◌∙◌, ap, length, subst, sym}
use Rattle.vd_forest.specs.Store.{at}
use Rattle.vd_value_rules.specs.Indicated.{indicated_in}
use Rattle.vd_meaning.specs.Declarations.{has_bounds}
use Rattle.vd_contexts.proofs.standings.is_result_bounded.Goals as goal

pub cursor-requires : goal.cursor-requires
cursor-requires c =
    let r = c.requires.ready in
    subst (λ z. c.result_subtype-subtype.result ≤ length z) (sym c.store.ensures) (c.result_subtype-subtype.ensures.within r.design.table r.now r.round r.knows.known)

pub returns : goal.returns
returns c = λ d k ks knows.
    let n = c.result_subtype-subtype.result in
    c.has_bounds.ensures ∙ ap (λ f. has_bounds (indicated_in f).subtype) (c.cursor.ensures ∙ ap (λ fs. at fs n) c.store.ensures)
    ∙ ap has_bounds (c.result_subtype-subtype.ensures.is d.table k ks knows.known)
