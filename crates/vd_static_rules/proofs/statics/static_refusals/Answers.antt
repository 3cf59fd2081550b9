use Rattle.vd_port_modes.specs.Source.{design_in}
use Rattle.vd_static_rules.proofs.StaticLemmas.{static_firsts}
use Rattle.vd_static_rules.proofs.statics.static_refusals.Goals as goal

pub returns-clause-finds : goal.returns-clause-finds
returns-clause-finds c = λ s ks knows around.
    let d = design_in c.args._interfaces.now in
    static_firsts d s.known.env c.args.node.now.form.form c.args.node.now.parts c.in_ok-of_parts.of_parts c.in_ok-of_signals.of_signals c.lesser.result
    (c.in_ok-of_parts.ensures.finds d s.known ks knows) (c.in_ok-of_signals.ensures.finds d s.known ks (c.in_ok-of_parts.ensures.knows d _ knows)) c.lesser.ensures

pub sensitivity_refused-requires : goal.sensitivity_refused-requires
sensitivity_refused-requires c =
    let r = c.requires.ready in
    record { ready = record { design = r.design; now = r.now; round = r.round; knows = c.in_ok-of_parts.ensures.knows r.design _ r.knows } }
