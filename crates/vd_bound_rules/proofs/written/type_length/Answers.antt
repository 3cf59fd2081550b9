use Rattle.std.proofs.Common.{ap, length, subst, sym, ◌≤◌, ◌∙◌}
use Rattle.vd_bound_rules.specs.Written.{IsTypeLength}
use Rattle.vd_forest.specs.Store.{at}
use Rattle.vd_value_rules.specs.Indicated.{indicated_in}
use Rattle.vd_bound_rules.proofs.written.type_length.Goals as goal

pub cursor-requires : goal.cursor-requires
cursor-requires c =
    let r = c.requires in
    subst (λ s. c.of_type-number.result ≤ length s) (sym c.store.ensures) (c.of_type-number.ensures r.design r.now r.round r.knows).within

pub returns : goal.returns
returns c = λ d k ks knows.
    let i = c.of_type-number.ensures d k ks knows in
    subst (IsTypeLength c.length_in.result) (ap indicated_in c.cursor.ensures ∙ ap (λ s. indicated_in (at s c.of_type-number.result)) c.store.ensures ∙ i.is) c.length_in.ensures
