use Rattle.std.proofs.Common.{[], ap, refl, sym, take}
use Rattle.vd_instance_rules.proofs.LoopLemmas.{refusals_all, refusals_more, seen_more}
use Rattle.vd_instance_rules.proofs.ReadyLemmas.{still_ready}
use Rattle.vd_instance_rules.specs.Instances.{design_at, port_map_at, read_association, read_associations}
use Rattle.vd_value_rules.specs.Groups.{firsts_of, joined_firsts}
use Rattle.vd_value_rules.specs.Actuals.{all_associations_broken}
use Rattle.vd_instance_rules.proofs.associations.associations_refusals.Goals as goal

pub association_refusals-requires : goal.association_refusals-requires
association_refusals-requires c = record {
  ready = still_ready c.args.design.now _ c.requires.ready c.loop-association.invariant.knows;
  instance = c.requires.instance;
}

pub loop-association-init : goal.loop-association-init
loop-association-init c =
    let x = c.args.instance.now in
    record {
      knows = λ d ks knows. knows;
      seen = c.new-seen.ensures;
      found = λ k ks knows.
          ap (λ f. joined_firsts f (firsts_of (all_associations_broken (design_at x) k.env (port_map_at x) [] (read_associations c.args.associations.now))))
          c.nothing_refused-found.ensures;
    }

pub loop-association-preserved : goal.loop-association-preserved
loop-association-preserved c =
    let xs = c.args.associations.now in
    let j = c.loop-association.association-index in
    let x = c.association-item.result in
    let d = design_at c.args.instance.now in
    let m = port_map_at c.args.instance.now in
    let inv = c.loop-association.invariant in
    let bs = read_associations (take j xs) in
    record {
      knows = λ e ks knows. c.in_ok-own.ensures.knows e ks (inv.knows e ks knows);
      seen = seen_more xs j x c.loop-association-test.true (sym c.association-item.is) c.associate.new.seen
          (c.in_ok-associate.ensures bs (read_association x) inv.seen refl);
      found = λ k ks knows.
          refusals_more xs j x c.loop-association-test.true (sym c.association-item.is) d k.env m c.loop-association.found c.repeated-again.result c.in_ok-own.own
          c.together-here.result c.together-found.result _ (c.repeated-again.ensures bs inv.seen) (c.in_ok-own.ensures.refused k ks (inv.knows d _ knows))
          c.together-here.ensures c.together-found.ensures (inv.found k ks knows);
    }

pub returns-clause-refused : goal.returns-clause-refused
returns-clause-refused c = λ k ks knows.
    refusals_all c.args.associations.now c.loop-association.association-index (design_at c.args.instance.now) k.env (port_map_at c.args.instance.now)
    c.loop-association.found _ c.loop-association-test.false (c.loop-association.invariant.found k ks knows)
