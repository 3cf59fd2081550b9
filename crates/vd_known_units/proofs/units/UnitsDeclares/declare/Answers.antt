use Rattle.std.proofs.Common.{subst, sym, ◌∷◌, ◌∙◌}
use Rattle.std.specs.Prelude.{OnOk}
use Rattle.vd_known_designs.specs.Designs.{Knows}
use Rattle.vd_known_forms.proofs.FormLemmas.{ready_again}
use Rattle.vd_known_units.proofs.InstanceLemmas.{instance_declares, other_declares}
use Rattle.vd_value_rules.specs.Declaring.{declaring}
use Rattle.vd_known_units.proofs.units.UnitsDeclares.declare.Goals as goal

pub instance_declared-requires : goal.instance_declared-requires
instance_declared-requires c =
    let r = c.requires.remembering in
    record { ready = ready_again r.design c.back.new.design r.before r.round (c.back.ensures.knows r.design r.now r.before r.round r.knows) }

pub returns-then-is_instance : goal.returns-then-is_instance
returns-then-is_instance c = record {
  knows = λ d inner k ks views knows.
      let n = c.args.node.now in
      subst (λ q. OnOk c.instance_declared.result (Knows d c.instance_declared.new.design (q ∷ ks)))
      (instance_declares (declaring n.form) d n c.args.parts.now inner k (sym c.is_instance.ensures ∙ c.if-is_instance.true))
      (c.instance_declared.ensures.knows d k ks views (c.back.ensures.knows d inner k ks knows));
}

pub returns-else-is_instance : goal.returns-else-is_instance
returns-else-is_instance c = record {
  knows = λ d inner k ks views knows.
      let n = c.args.node.now in
      subst (λ q. OnOk c.node_declared.result (Knows d c.node_declared.new.design (q ∷ ks)))
      (other_declares (declaring n.form) d n c.args.parts.now inner k (sym c.is_instance.ensures ∙ c.if-is_instance.false))
      (c.node_declared.ensures.knows d inner k ks views knows);
}
