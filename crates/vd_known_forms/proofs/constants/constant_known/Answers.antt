use Rattle.std.proofs.Common.{◌&&◌, ◌≡◌, ◌∷◌, ap, subst, sym, ◌∙◌}
use Rattle.vd_environments.specs.Environments.{all_bounds}
use Rattle.vd_forest.specs.Store.{at}
use Rattle.vd_value_rules.specs.Indicated.{indicated_in}
use Rattle.vd_known_forms.proofs.ConstantLemmas.{known_by_parts}
use Rattle.vd_known_designs.specs.Known.{AreKnown}
use Rattle.vd_meaning.specs.Declarations.{has_bounds}
use Rattle.vd_known_forms.proofs.constants.constant_known.Goals.{else-bounds, else-known, then-bounds, then-known}
use Rattle.vd_known_forms.proofs.constants.constant_known.Goals as goal

pub returns-clause-known : goal.returns-clause-known
returns-clause-known c = λ d i k ks knows is.
    let a = c.args.known.is_local in
    let b = c.in_ok-bounds.bounds.is_local in
    let h = c.has_bounds-has_bounds.result in
    let table = c.args.design.now.table in
    let same = c.in_ok-bounds.ensures.same in
    let value_is : c.if-known.value ≡ (a && b) =
    elim c.if-known.branch [
      | then-known w ↦ w.value-is ∙ sym (ap (λ x. x && b) w.if-known.true)
      | else-known w ↦ w.value-is ∙ w.if-known.false ∙ sym (ap (λ x. x && b) w.if-known.false)
    ] in
    let result_is : c.if-bounds.result ≡ (c.if-known.value && h) =
    elim c.if-bounds.branch [
      | then-bounds w ↦ w.result-is ∙ sym (ap (λ x. x && h) w.if-bounds.true)
      | else-bounds w ↦ w.result-is ∙ w.if-bounds.false ∙ sym (ap (λ x. x && h) w.if-bounds.false)
    ] in
    let own = c.cursor.ensures ∙ ap (λ fs. at fs c.args.own) (c.store.ensures ∙ same) in
    known_by_parts a b h c.if-bounds.result c.is_inside.result c.args.known.is_global i k.env (result_is ∙ ap (λ x. x && h) value_is)
    (ap (λ s. s.is_local) (c.in_ok-bounds.ensures.bounds ∙ ap (λ j. all_bounds j.make) is.is))
    (c.has_bounds-has_bounds.ensures ∙ ap (λ j. has_bounds j.subtype) (ap indicated_in own ∙ is.is))
    (c.is_inside.ensures d.table k ks (subst (λ fs. AreKnown d.table (record table { subtypes = fs }) (k ∷ ks)) (sym same) knows.known))
