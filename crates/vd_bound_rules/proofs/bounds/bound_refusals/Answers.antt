use Rattle.std.proofs.Common.{None, Option, ap, ◌∙◌, ◌∷◌}
use Rattle.vd_bound_rules.proofs.ReadyLemmas.{still_ready}
use Rattle.vd_bound_rules.proofs.RefusalLemmas.{bounds_found}
use Rattle.vd_port_modes.specs.Source.{design_in}
use Rattle.vd_bytes.specs.declared.answers.Refused.{Refused}
use Rattle.vd_value_rules.specs.declared.firsts.Firsts.{Firsts}
use Rattle.vd_bound_rules.proofs.bounds.bound_refusals.Goals as goal

pub copied_operands-requires : goal.copied_operands-requires
copied_operands-requires c = record { ready = still_ready c.args.design.now c.unconstrained.new.design c.requires.ready c.in_ok-declared.ensures.knows }

pub returns-clause-finds : goal.returns-clause-finds
returns-clause-finds c = λ s ks knows around.
    let d = design_in c.args.interfaces.now in
    let n = c.args.node.now in
    ap (λ (o : Option Refused). let f : Firsts = record { of_names = None; of_rules = o } in f) c.lesser.ensures
    ∙ bounds_found d s n.form n.place n.parts c.revision.result c.args.around.now.is_copied c.in_ok-declared.declared c.in_ok-written.written
    c.revision.ensures around.copied (c.in_ok-declared.ensures.is d s ks knows)
    (c.in_ok-written.ensures.is d s ks (c.in_ok-declared.ensures.knows d (s.known ∷ ks) knows))
