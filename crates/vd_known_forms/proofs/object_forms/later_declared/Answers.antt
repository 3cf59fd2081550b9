use Rattle.std.proofs.Common.{subst, ◌∷◌, ◌∙◌}
use Rattle.std.specs.Prelude.{OnOk}
use Rattle.vd_value_rules.specs.Indicated.{static_of}
use Rattle.vd_known_designs.specs.Designs.{Knows}
use Rattle.vd_value_rules.specs.Knowledge.{indicated_twice, later_objects as objects_later, parts_at}
use Rattle.vd_known_forms.proofs.object_forms.later_declared.Goals as goal

pub later_objects-requires-clause-own_in : goal.later_objects-requires-clause-own_in
later_objects-requires-clause-own_in c = let r = c.requires.ready in (c.in_ok-objects.ensures.indicated r.design r.now r.round r.knows).own.within

pub later_objects-requires-clause-choosing_in : goal.later_objects-requires-clause-choosing_in
later_objects-requires-clause-choosing_in c = let r = c.requires.ready in (c.in_ok-objects.ensures.indicated r.design r.now r.round r.knows).choosing.within

pub returns-clause-knows : goal.returns-clause-knows
returns-clause-knows c = λ d k ks knows.
    let i = indicated_twice d k (parts_at c.args.indication c.args.parts.now) in
    subst (λ ns. OnOk c.later_objects.result (Knows d c.later_objects.new.design (objects_later ns i (static_of c.args.known) k ∷ ks)))
    (c.deref.ensures.value ∙ c.in_ok-objects.ensures.numbers d)
    (c.later_objects.ensures.knows d i k ks (c.in_ok-objects.ensures.knows d (k ∷ ks) knows) (c.in_ok-objects.ensures.indicated d k ks knows))
