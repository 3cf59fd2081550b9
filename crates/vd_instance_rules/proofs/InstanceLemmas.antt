-- Nodes that are instances.
use Rattle.std.proofs.Common.{◌≡◌, ◌∙◌, List, ap, sym, ℕ}
use Rattle.std.specs.Prelude.{IfOk, Result}
use Rattle.vd_bytes.specs.declared.places.Place.{Place}
use Rattle.vd_forest.specs.Forest.{Forest}
use Rattle.vd_forms.specs.declared.form.Form.TheVariants as form
use Rattle.vd_instance_rules.proofs.FirstLemmas.{found_same}
use Rattle.vd_instance_rules.specs.Instances.{design_at, entity_at, port_map_at}
use Rattle.vd_instance_rules.specs.declared.instance.Instance.{Instance}
use Rattle.vd_port_modes.specs.Source.{Source, design_in}
use Rattle.vd_resolved.specs.declared.node.Resolved.{Resolved}
use Rattle.vd_value_rules.specs.Groups.{firsts_of}
use Rattle.vd_value_rules.specs.declared.firsts.Firsts.{Firsts}
use Rattle.vd_value_rules.specs.Actuals.{PortMap, broken_instance, generic_actuals_of, instance_broken, port_map_broken}
use Rattle.vd_value_rules.specs.Choices.{place_or}
use Rattle.vd_value_rules.specs.Knowledge.{parts_at}
use Rattle.vd_value_rules.specs.Standings.{State}

module _ (src : Source) (s : State) (place : Place) (parts : Forest Resolved) where
  abbrev map_there : PortMap
  map_there = record { entity = entity_at (design_in src).table parts; generic_actuals = generic_actuals_of (design_in src) parts; place = place_or s.label place }

  pub instance_found : {E : Type 0} (x : Instance) (n : Resolved) (ports : List ℕ) (elements : Forest Resolved) (r : Result Firsts E)
      → x.interfaces.now ≡ src → port_map_at x ≡ map_there → ports ≡ ((design_in src).table.declared x.entity).parameters → elements ≡ parts_at 3 parts
      → n.form ≡ form.EntityInstantiation
      → IfOk r (λ f. f ≡ firsts_of (port_map_broken (design_at x) s.known.env (port_map_at x) ports elements))
      → IfOk r (λ f. f ≡ firsts_of (broken_instance (design_in src) s n place parts))
  instance_found x n ports elements r source map ports_are elements_are named found =
      found_same (firsts_of (port_map_broken (design_at x) s.known.env (port_map_at x) ports elements)) (firsts_of (broken_instance (design_in src) s n place parts)) r
      (ap (λ i. firsts_of (port_map_broken (design_in i) s.known.env (port_map_at x) ports elements)) source
      ∙ ap (λ m. firsts_of (port_map_broken (design_in src) s.known.env m ports elements)) map
      ∙ ap (λ l. firsts_of (port_map_broken (design_in src) s.known.env map_there l elements))
      (ports_are ∙ ap (λ (m : PortMap). ((design_in src).table.declared m.entity).parameters) map)
      ∙ ap (λ l. firsts_of (port_map_broken (design_in src) s.known.env map_there ((design_in src).table.declared map_there.entity).parameters l)) elements_are
      ∙ ap (λ f. firsts_of (instance_broken f (design_in src) s place parts)) (sym named)) found
