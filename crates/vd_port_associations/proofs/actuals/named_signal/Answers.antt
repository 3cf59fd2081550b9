use Rattle.std.proofs.Common.{◌∙◌, ap₂}
use Rattle.vd_port_associations.proofs.ActualLemmas.{signal_by_name}
use Rattle.vd_port_associations.specs.Associations.{signal_named_if}
use Rattle.vd_port_modes.specs.Source.{design_in}
use Rattle.vd_port_associations.proofs.actuals.named_signal.Goals as goal

pub returns-in_ok-is_whole-in-Name-clause-signal : goal.returns-in_ok-is_whole-in-Name-clause-signal
returns-in_ok-is_whole-in-Name-clause-signal c = λ k ks knows.
    let d = design_in c.args.interfaces.now in
    let t = c.in-Some.tree in
    c.signal_if.ensures ∙ ap₂ (λ r b. signal_named_if d t.place r b) c.in_ok-name-in-Name.ensures (c.in_ok-is_whole-in-Name.ensures.whole d k ks knows)
    ∙ signal_by_name d k.env c.args.trees.now t.form t.text.now t.place t.parts t.next c.in-Some.ensures c.in-Name.is
