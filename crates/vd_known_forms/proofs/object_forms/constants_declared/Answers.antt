use Rattle.std.proofs.Common.{ap, ◌∷◌, ◌∙◌}
use Rattle.vd_value_rules.specs.Indicated.{static_of}
use Rattle.vd_known_forms.proofs.FormLemmas.{at_part, constants_same, early_found, ready_again}
use Rattle.vd_meaning.specs.Facets.{nth}
use Rattle.vd_meaning.specs.Meanings.{meanings}
use Rattle.vd_value_rules.specs.Knowledge.{early_value, indicated_twice, meaning_at, parts_at}
use Rattle.vd_known_forms.proofs.object_forms.constants_declared.Goals as goal

pub declared_together-requires : goal.declared_together-requires
declared_together-requires c =
    let r = c.requires.ready in
    record { ready = ready_again r.design c.node.new.design r.now r.round (c.in_ok-expression.ensures.knows r.design (r.now ∷ r.round) r.knows) }

pub early_value-requires : goal.early_value-requires
early_value-requires c =
    let r = c.requires.ready in
    (c.in_ok-objects.ensures.indicated r.design r.now r.round (c.in_ok-expression.ensures.knows r.design _ r.knows)).own.within

pub constants-requires-clause-own_in : goal.constants-requires-clause-own_in
constants-requires-clause-own_in c =
    let r = c.requires.ready in
    (c.in_ok-objects.ensures.indicated r.design r.now r.round (c.in_ok-expression.ensures.knows r.design _ r.knows)).own.within

pub constants-requires-clause-choosing_in : goal.constants-requires-clause-choosing_in
constants-requires-clause-choosing_in c =
    let r = c.requires.ready in
    (c.in_ok-objects.ensures.indicated r.design r.now r.round (c.in_ok-expression.ensures.knows r.design _ r.knows)).choosing.within

pub returns-clause-knows : goal.returns-clause-knows
returns-clause-knows c = λ d n inner k ks knows.
    let parts = c.args.parts.now in
    let fs = c.args.design.now.table.subtypes in
    let x = c.in_ok-expression.expression in
    let m = meaning_at d 2 parts in
    let i = indicated_twice d k (parts_at 1 parts) in
    let g = early_value (m.known k.env) (λ s. m.value s k.env) i.own in
    let is = c.in_ok-expression.ensures.node d k ks knows in
    let here = c.in_ok-expression.ensures.knows d (k ∷ ks) knows in
    let same = at_part (λ q. q) d 2 parts c.skip.result c.skip.ensures in
    let are = c.in_ok-objects.ensures.indicated d k ks here in
    let found = early_found fs k.env x (nth 0 (meanings d.table c.skip.result)) m _ i.own c.in_ok-value.value is same are.own.is c.in_ok-value.ensures in
    constants_same d c.constants.new.design k ks c.constants.result c.deref.result.now (meaning_at d 0 parts).numbers i (static_of x.sense.known) (m.known k.env) g
    (c.deref.ensures.value ∙ c.in_ok-objects.ensures.numbers d) (is.sense.known ∙ ap (λ q. q.known k.env) same)
    (c.constants.ensures.knows d i k ks g found (c.in_ok-objects.ensures.knows d (k ∷ ks) here) are)
