use Rattle.std.proofs.Common.{◌∷◌, ap, ◌∙◌}
use Rattle.vd_forest.specs.Forest.{parts_of}
use Rattle.vd_value_rules.specs.Indicated.{static_of}
use Rattle.vd_known_generics.proofs.InstanceLemmas.{at_part, parameter_set}
use Rattle.vd_value_rules.specs.Knowledge.{indicated_twice}
use Rattle.vd_known_generics.proofs.instances.parameter_known.Goals as goal

pub later_objects-requires-clause-own_in : goal.later_objects-requires-clause-own_in
later_objects-requires-clause-own_in c = let r = c.requires.ready in (c.in_ok-of.ensures.indicated r.design r.now r.round r.knows).own.within

pub later_objects-requires-clause-choosing_in : goal.later_objects-requires-clause-choosing_in
later_objects-requires-clause-choosing_in c = let r = c.requires.ready in (c.in_ok-of.ensures.indicated r.design r.now r.round r.knows).choosing.within

pub returns-clause-knows : goal.returns-clause-knows
returns-clause-knows c = λ d k ks knows.
    parameter_set c.later_objects.result d c.later_objects.new.design k ks c.deref.result.now c.parts.result c.args.parts.now (static_of c.never.result)
    (c.deref.ensures.value ∙ c.in_ok-numbers.ensures d.table ∙ at_part d 1 c.args.parts.now c.skip.result (λ m. m.numbers) c.skip.ensures)
    (c.parts.ensures ∙ ap parts_of c.skip-2.ensures) c.never.ensures
    (c.later_objects.ensures.knows d (indicated_twice d k c.parts.result) k ks (c.in_ok-of.ensures.knows d (k ∷ ks) knows) (c.in_ok-of.ensures.indicated d k ks knows))
