use Rattle.std.proofs.Common.{◌∷◌}
use Rattle.vd_bound_rules.proofs.LengthLemmas.{element_more}
use Rattle.vd_bound_rules.proofs.ReadyLemmas.{still_ready}
use Rattle.vd_bound_rules.proofs.aggregates.length_of_elements.Goals as goal

pub loop-first-preserved : goal.loop-first-preserved
loop-first-preserved c =
    let n = c.in-Some.first in
    let i = c.loop-first.invariant in
    record {
      ready = still_ready c.loop-first.design c.length_of_element.new.design i.ready c.in_ok-own.ensures.knows;
      knows = λ d ks known. c.in_ok-own.ensures.knows d ks (i.knows d ks known);
      is = λ d k ks knows.
          element_more d k.env c.loop-first.rest n.form n.text.now n.place n.parts n.next c.in-Some.ensures c.loop-first.length c.in_ok-own.own c.in_ok-length.length _
          (c.in_ok-own.ensures.is d k ks (i.knows d (k ∷ ks) knows)) c.in_ok-length.ensures (i.is d k ks knows);
    }
