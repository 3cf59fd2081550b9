use Rattle.std.proofs.Common.{subst, ◌∷◌}
use Rattle.std.specs.Prelude.{OnOk}
use Rattle.vd_known_designs.specs.Designs.{Knows}
use Rattle.vd_value_rules.specs.Knowledge.{indicated_twice, later_objects as objects_later, meaning_at, parts_at}
use Rattle.vd_known_forms.proofs.object_forms.variables_declared.Goals as goal

pub returns-clause-knows : goal.returns-clause-knows
returns-clause-knows c = λ d n inner k ks knows.
    let parts = c.args.parts.now in
    subst (λ s. OnOk c.later_declared.result (Knows d c.later_declared.new.design (objects_later (meaning_at d 0 parts).numbers (indicated_twice d k (parts_at 1 parts)) s k ∷ ks)))
    c.never.ensures (c.later_declared.ensures.knows d k ks knows)
