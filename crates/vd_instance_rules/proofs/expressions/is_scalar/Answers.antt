use Rattle.std.proofs.Common.{◌≤◌, ◌∙◌, ap, length, subst, sym}
use Rattle.vd_forest.specs.Store.{at}
use Rattle.vd_value_rules.specs.Indicated.{indicated_in}
use Rattle.vd_instance_rules.proofs.ScalarLemmas.{scalar_is}
use Rattle.vd_meaning.specs.Names.{scalars_of}
use Rattle.vd_instance_rules.proofs.expressions.is_scalar.Goals as goal

pub cursor-requires : goal.cursor-requires
cursor-requires c =
    let r = c.requires.ready in
    subst (λ z. c.own-own.result ≤ length z) (sym c.store.ensures) (c.own-own.ensures r.design.table r.now r.round r.knows.known).within

pub returns : goal.returns
returns c = λ d k ks knows.
    c.is_some.ensures
    ∙ scalar_is c.scalar.result (k.env.denotes c.args.number).subtype
    (c.scalar.ensures ∙ ap (λ f. scalars_of (indicated_in f).subtype) (c.cursor.ensures ∙ ap (λ z. at z c.own-own.result) c.store.ensures)
    ∙ ap (λ i. scalars_of i.subtype) (c.own-own.ensures d.table k ks knows.known).is
    ∙ ap (λ n. scalars_of (k.env.denotes n).subtype) c.number.ensures)
