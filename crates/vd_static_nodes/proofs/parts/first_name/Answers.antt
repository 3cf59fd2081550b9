use Rattle.std.proofs.Common.{◌≡◌, subst, sym}
use Rattle.std.proofs.lemmas.Result.{IfOk-weaker}
use Rattle.vd_meaning.specs.Facets.{Meaning, nth}
use Rattle.vd_static_values.specs.Names.{IsName}
use Rattle.vd_static_parts.proofs.PartLemmas.{nth_here, nth_missing}
use Rattle.vd_static_nodes.proofs.parts.first_name.Goals as goal

pub returns-in-Some-clause-named : goal.returns-in-Some-clause-named
returns-in-Some-clause-named c = λ subtypes e ms nodes.
    let first = (nth_here subtypes e 0 c.args.parts.now ms c.in-Some.first.now nodes (sym c.in-Some.ensures.value)).sense.name in
    IfOk-weaker c.again.result (λ x. x ≡ c.in-Some.first.now.sense.name) (λ x. IsName subtypes e x (nth 0 ms).name)
    (λ x is. subst (λ y. IsName subtypes e y (nth 0 ms).name) (sym is) first)
    c.again.ensures

pub returns-in-None-clause-named : goal.returns-in-None-clause-named
returns-in-None-clause-named c = λ subtypes e ms nodes.
    subst (λ (m : Meaning). IsName subtypes e c.no_name.result m.name) (sym (nth_missing subtypes e 0 c.args.parts.now ms nodes (sym c.in-None.ensures.value)))
    (c.no_name.ensures.named subtypes e)
