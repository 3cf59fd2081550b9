use Rattle.std.proofs.Common.{◌∷◌, ap, sym, subst, ◌∙◌}
use Rattle.vd_forest.proofs.StoreLemmas.{extends_trans}
use Rattle.vd_known_designs.specs.Designs.{Knows}
use Rattle.vd_known_generics.proofs.InstanceLemmas.{known_more}
use Rattle.vd_value_rules.specs.Declaring.{parameters_known}
use Rattle.vd_known_generics.proofs.instances.parameters_known.Goals as goal

pub parameter_known-requires : goal.parameter_known-requires
parameter_known-requires c =
    let r = c.requires.ready in
    let here = c.loop-first.invariant.knows r.design r.now r.round r.knows in
    record { ready = record { design = r.design; now = here.so_far; round = r.round; knows = here.knows } }

pub loop-first-preserved : goal.loop-first-preserved
loop-first-preserved c =
    let n = c.in-Some.first in
    record {
      knows = λ d k ks knows.
          known_more d c.loop-first.design c.parameter_known.new.design ks c.loop-first.rest n.form n.text.now n.place n.parts n.next (parameters_known d c.args.parameters.now k)
          c.in-Some.ensures (c.loop-first.invariant.knows d k ks knows) (λ so_far here. c.in_ok-parameter_known.ensures.knows d so_far ks here);
      extends = extends_trans c.args.design.now.table.subtypes c.loop-first.design.table.subtypes c.parameter_known.new.design.table.subtypes c.loop-first.invariant.extends c.in_ok-parameter_known.ensures.extends;
    }

pub returns-clause-knows : goal.returns-clause-knows
returns-clause-knows c = λ d k ks knows.
    let here = c.loop-first.invariant.knows d k ks knows in
    subst (λ l. Knows d c.loop-first.design (l ∷ ks)) (sym (ap (λ f. parameters_known d f here.so_far) c.in_default.ensures) ∙ here.comes_to) here.knows
