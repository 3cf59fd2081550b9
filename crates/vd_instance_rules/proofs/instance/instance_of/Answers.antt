use Rattle.std.proofs.Common.{ap, ap₂, slice_index_or, subst, ◌∙◌, ℕ}
use Rattle.vd_bytes.specs.declared.places.Place.{Place}
use Rattle.vd_forest.specs.Forest.{Forest}
use Rattle.vd_instance_rules.specs.Instances.{entity_at}
use Rattle.vd_meaning.specs.Tables.{no_declaration}
use Rattle.vd_port_associations.specs.Numbers.{Holds}
use Rattle.vd_port_modes.specs.Source.{design_in}
use Rattle.vd_resolved.specs.declared.node.Resolved.{Resolved}
use Rattle.vd_value_rules.specs.Actuals.{PortMap, generic_actuals_of}
use Rattle.vd_instance_rules.proofs.instance.instance_of.Goals as goal

pub returns-clause-is : goal.returns-clause-is
returns-clause-is c = record {
  same = c.requires.same;
  generics = subst (Holds c.in_ok-generics.generics)
      (c.generics_of.ensures ∙ ap (λ ds. (slice_index_or ds c.entity_of-entity.result no_declaration).generics) c.declarations.ensures) c.in_ok-generics.ensures;
}

pub returns-clause-map : goal.returns-clause-map
returns-clause-map c =
    let d = design_in c.args.interfaces.now in
    let map : ℕ → Forest Resolved → Place → PortMap = λ e f p. record { entity = e; generic_actuals = generic_actuals_of d f; place = p } in
    ap₂ (λ e f. map e f c.place_or.result) (c.entity_of-entity.ensures d.table) c.fork.ensures
    ∙ ap (λ p. map (entity_at d.table c.args.node.now.parts) c.args.node.now.parts p) c.place_or.ensures
