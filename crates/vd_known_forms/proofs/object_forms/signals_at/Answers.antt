use Rattle.std.proofs.Common.{subst, ◌∷◌, ◌∙◌}
use Rattle.std.specs.Prelude.{OnOk}
use Rattle.vd_known_designs.specs.Designs.{Knows}
use Rattle.vd_value_rules.specs.Knowledge.{indicated_twice, parts_at, signals_known}
use Rattle.vd_known_forms.proofs.object_forms.signals_at.Goals as goal

pub signals-requires : goal.signals-requires
signals-requires c = let r = c.requires.ready in record { own_in = (c.in_ok-objects.ensures.indicated r.design r.now r.round r.knows).own.within }

pub returns-clause-knows : goal.returns-clause-knows
returns-clause-knows c = λ d k ks knows.
    let i = indicated_twice d k (parts_at c.args.indication c.args.parts.now) in
    subst (λ ns. OnOk c.signals.result (Knows d c.signals.new.design (signals_known ns i k ∷ ks)))
    (c.deref.ensures.value ∙ c.in_ok-objects.ensures.numbers d)
    (c.signals.ensures.knows d i k ks (c.in_ok-objects.ensures.knows d (k ∷ ks) knows) (c.in_ok-objects.ensures.indicated d k ks knows))
