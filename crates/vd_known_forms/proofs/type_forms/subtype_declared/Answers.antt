use Rattle.std.proofs.Common.{ap, subst, ◌∷◌, ◌∙◌}
use Rattle.vd_forest.specs.Forest.{parts_of}
use Rattle.vd_known_designs.specs.Designs.{AreIndicated}
use Rattle.vd_known_forms.proofs.TypeFormLemmas.{type_set}
use Rattle.vd_meaning.specs.Meanings.{made}
use Rattle.vd_meaning.specs.Names.{number_or}
use Rattle.vd_value_rules.specs.Knowledge.{indicated_twice, meaning_at, parts_at}
use Rattle.vd_known_forms.proofs.type_forms.subtype_declared.Goals as goal

pub set_type-requires-clause-own_in : goal.set_type-requires-clause-own_in
set_type-requires-clause-own_in c = let r = c.requires.ready in (c.in_ok-of.ensures.indicated r.design r.now r.round r.knows).own.within

pub set_type-requires-clause-choosing_in : goal.set_type-requires-clause-choosing_in
set_type-requires-clause-choosing_in c = let r = c.requires.ready in (c.in_ok-of.ensures.indicated r.design r.now r.round r.knows).choosing.within

pub returns-clause-knows : goal.returns-clause-knows
returns-clause-knows c = λ d inner k ks knows.
    type_set d c.indicated_twice.new.design c.set_type.new.self (number_or (made c.args.node.now (meaning_at d 0 c.args.parts.now))) c.number.result c.in_ok-of.of (indicated_twice d k (parts_at 1 c.args.parts.now)) k ks c.set_type.result
    (c.number.ensures ∙ c.number_made-number.ensures d.table) (c.in_ok-of.ensures.knows d (k ∷ ks) knows)
    (subst (λ f. AreIndicated c.indicated_twice.new.design.table.subtypes c.in_ok-of.of (indicated_twice d k f)) (c.parts-indication.ensures ∙ ap parts_of c.skip.ensures) (c.in_ok-of.ensures.indicated d k ks knows))
    c.set_type.ensures.extends c.set_type.ensures.known
