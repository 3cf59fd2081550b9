use Rattle.std.proofs.Common.{ap}
use Rattle.vd_forest.proofs.StoreLemmas.{extends_same, extends_trans}
use Rattle.vd_value_rules.specs.Indicated.{static_of}
use Rattle.vd_known_forms.proofs.FormLemmas.{no_parameter_left, one_parameter, ready_again}
use Rattle.vd_value_rules.specs.Declaring.{parameters_known}
use Rattle.vd_known_forms.proofs.function_forms.parameters_known.Goals as goal

pub loop-first-init : goal.loop-first-init
loop-first-init c = record {
  ready = c.requires.ready;
  left = λ d k ks knows. record { now = k; knows = knows; all = ap (λ f. parameters_known d f k) c.fork-rest.ensures };
  extends = extends_same c.args.design.now.table.subtypes;
}

pub loop-first-preserved : goal.loop-first-preserved
loop-first-preserved c =
    let x = c.loop-first.design in
    let y = c.later_declared.new.design in
    let inv = c.loop-first.invariant in
    let n = c.in-Some.first in
    let r = inv.ready in
    record {
      ready = ready_again r.design y _ r.round (c.in_ok-later_declared.ensures.knows r.design r.now r.round r.knows);
      left = λ d k ks knows.
          one_parameter d x y c.loop-first.rest n.form n.text.now n.place n.parts n.next (parameters_known d c.args.parameters.now k) ks (static_of c.never.result) c.in-Some.ensures c.never.ensures
          (λ l at. c.in_ok-later_declared.ensures.knows d l ks at) (inv.left d k ks knows);
      extends = extends_trans c.args.design.now.table.subtypes x.table.subtypes y.table.subtypes inv.extends c.in_ok-later_declared.ensures.extends;
    }

pub returns-clause-knows : goal.returns-clause-knows
returns-clause-knows c = λ d k ks knows.
    no_parameter_left d c.loop-first.design c.loop-first.rest (parameters_known d c.args.parameters.now k) ks c.in_default.ensures (c.loop-first.invariant.left d k ks knows)
