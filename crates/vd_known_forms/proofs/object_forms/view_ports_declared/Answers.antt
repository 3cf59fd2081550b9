use Rattle.std.proofs.Common.{refl, subst, ◌∷◌, ◌∙◌}
use Rattle.std.specs.Prelude.{OnOk}
use Rattle.vd_known_designs.specs.Designs.{Knows}
use Rattle.vd_known_forms.proofs.FormLemmas.{at_part, knows_viewed, viewed}
use Rattle.vd_value_rules.specs.Knowledge.{signals_known, view_port_indicated}
use Rattle.vd_known_forms.proofs.object_forms.view_ports_declared.Goals as goal

pub signals-requires : goal.signals-requires
signals-requires c =
    let r = c.requires.ready in
    let d = viewed c.args.interfaces.now r.design in
    record { own_in = (c.in_ok-of.ensures.indicated d r.now r.round refl (knows_viewed c.args.interfaces.now r.design c.args.design.now _ r.knows)).own.within }

pub returns-clause-knows : goal.returns-clause-knows
returns-clause-knows c = λ d n inner k ks views knows.
    let i = view_port_indicated d k c.args.parts.now in
    subst (λ ns. OnOk c.signals.result (Knows d c.signals.new.design (signals_known ns i k ∷ ks)))
    (c.deref.ensures.value ∙ c.in_ok-numbers.ensures d.table ∙ at_part (λ m. m.numbers) d 1 c.args.parts.now c.skip.result c.skip.ensures)
    (c.signals.ensures.knows d i k ks (c.in_ok-of.ensures.knows d (k ∷ ks) knows) (c.in_ok-of.ensures.indicated d k ks views knows))
