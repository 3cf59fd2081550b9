use Rattle.std.proofs.Common.{◌∙◌, ap, ap₂, sym}
use Rattle.vd_instance_rules.proofs.FirstLemmas.{found_same}
use Rattle.vd_instance_rules.proofs.ReadyLemmas.{still_ready}
use Rattle.vd_instance_rules.specs.Instances.{actual_for_port, design_at, port_map_at, read_association}
use Rattle.vd_value_rules.specs.Groups.{firsts_of}
use Rattle.vd_value_rules.specs.Actuals.{actual_broken, actual_sort, for_port}
use Rattle.vd_value_rules.specs.Designs.{mode_of_port}
use Rattle.vd_instance_rules.proofs.associations.refusals_for_port.Goals as goal

pub actual_refusals-requires : goal.actual_refusals-requires
actual_refusals-requires c = record {
  ready = still_ready c.args.design.now _ c.requires.ready c.in_ok-actual-in-Some.ensures.knows;
  instance = c.requires.instance;
}

pub returns-in-None-clause-refused : goal.returns-in-None-clause-refused
returns-in-None-clause-refused c = λ k ks knows.
    let d = design_at c.args.instance.now in
    let m = port_map_at c.args.instance.now in
    let a = read_association c.args.association.now in
    c.nothing_refused.ensures
    ∙ ap (λ o. firsts_of (for_port (λ p. actual_broken d k.env m p a (mode_of_port d p) (actual_sort d k.env a.actual)) o)) (sym c.in-None.is ∙ c.port_of.ensures)

pub returns-in_ok-actual-in-Some-clause-refused : goal.returns-in_ok-actual-in-Some-clause-refused
returns-in_ok-actual-in-Some-clause-refused c = λ k ks knows.
    let d = design_at c.args.instance.now in
    let m = port_map_at c.args.instance.now in
    let a = read_association c.args.association.now in
    found_same _ (firsts_of (actual_for_port d k.env m a)) c.actual_refusals.result
    (ap₂ (λ mode s. firsts_of (actual_broken d k.env m c.in-Some.port a mode s)) c.mode_of_port-mode.ensures (c.in_ok-actual-in-Some.ensures.sort k ks knows)
    ∙ ap (λ o. firsts_of (for_port (λ p. actual_broken d k.env m p a (mode_of_port d p) (actual_sort d k.env a.actual)) o)) (sym c.in-Some.is ∙ c.port_of.ensures))
    (c.actual_refusals.ensures.refused k ks (c.in_ok-actual-in-Some.ensures.knows d _ knows))
