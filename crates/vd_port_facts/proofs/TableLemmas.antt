-- What stands in the tables is what the definitions say of a design.
use Rattle.std.proofs.Common.{◌≡◌, ◌==◌, ◌++◌, ◌<◌, ◌+◌, ℕ, zero, suc, Bool, true, false, cond, List, [], ◌∷◌, Option, Some, None, map, get_or, slice_index_or, drop, length, refl, sym, ap, ap₂, ◌∙◌, arith}
use Rattle.std.specs.Str.{bytes_eq}
use Rattle.vd_meaning.specs.Elaborations.{units_of}
use Rattle.vd_meaning.specs.NodeFacets.{ArchitectureUnit, EntityUnit, Generics, PackageUnit, Ports, Unit'}
use Rattle.vd_meaning.specs.Hierarchies.{EntityText, entity_in}
use Rattle.vd_port_facts.specs.Reading.{entities_in, generics_or_none, no_ports, read_generics, read_or_none, read_ports}
use Rattle.vd_port_facts.specs.Tables.{AreFacts, first_place, generics_found, last_place, no_entity, ports_found}
use Rattle.vd_port_facts.specs.declared.entities.ListedEntity.{ListedEntity}
use Rattle.vd_port_facts.specs.declared.generics.ListedGenerics.{ListedGenerics}
use Rattle.vd_port_facts.specs.declared.ports.ListedPorts.{ListedPorts}
use Rattle.vd_resolved.specs.Trees.{ResolvedTree}
use Rattle.vd_trees.specs.declared.revision.Revision.{Revision}
use Rattle.vd_value_rules.specs.Designs.{design_of, is_listed, port_among, port_of, ports_in}

-- what stands at a place, and behind it
at_place : {A : Type 0} (whole : List A) (k : ℕ) (x d : A) (xs : List A) → drop k whole ≡ x ∷ xs → get_or whole k d ≡ x
at_place [] zero x d xs is = absurd (cc)
at_place [] (suc k) x d xs is = absurd (cc)
at_place (y ∷ ys) zero x d xs is = cc
at_place (y ∷ ys) (suc k) x d xs is = at_place ys k x d xs is

behind_place : {A : Type 0} (whole : List A) (k : ℕ) (x : A) (xs : List A) → drop k whole ≡ x ∷ xs → drop (suc k) whole ≡ xs
behind_place [] zero x xs is = absurd (cc)
behind_place [] (suc k) x xs is = absurd (cc)
behind_place (y ∷ ys) zero x xs is = cc
behind_place (y ∷ ys) (suc k) x xs is = behind_place ys k x xs is

-- ---- ports

module _ (whole : List ListedPorts) (n : ℕ) where
  ports_by : (b : Bool) (k : ℕ) (p : Ports) (place : Option ℕ) (rest : Option Ports) → get_or whole k no_ports ≡ read_ports p
      → ports_found whole place ≡ read_or_none rest → ports_found whole (cond b (Some k) place) ≡ read_or_none (cond b (Some p) rest)
  ports_by true k p place rest here behind = here
  ports_by false k p place rest here behind = behind

  placed : (k : ℕ) (ps : List Ports) → drop k whole ≡ map read_ports ps
      → ports_found whole (first_place k (map read_ports ps) n) ≡ read_or_none (port_among ps n)
  placed k [] is = refl
  placed k (p ∷ ps) is =
      ports_by (is_listed n p.objects.numbers) k p (first_place (suc k) (map read_ports ps) n) (port_among ps n)
      (at_place whole k (read_ports p) no_ports (map read_ports ps) is)
      (placed (suc k) ps (behind_place whole k (read_ports p) (map read_ports ps) is))

-- ---- entities

module _ (whole : List ListedEntity) (name : List ℕ) where
  entity_by : (b : Bool) (k : ℕ) (g : Generics) (ports : List Ports) (place : Option ℕ) (found : Option EntityText)
      → (get_or whole k no_entity).generics ≡ read_generics g → generics_found whole place ≡ generics_or_none found
      → generics_found whole (cond b (Some k) place) ≡ generics_or_none (cond b (Some (record { generics = g; ports = ports })) found)
  entity_by true k g ports place found here before = here
  entity_by false k g ports place found here before = before

  named : (k : ℕ) (us : List Unit') (place : Option ℕ) (found : Option EntityText) → drop k whole ≡ entities_in us
      → generics_found whole place ≡ generics_or_none found
      → generics_found whole (last_place place k (entities_in us) name) ≡ generics_or_none (entity_in found us name)
  named k [] place found is before = before
  named k (ArchitectureUnit own of region ∷ us) place found is before = named k us place found is before
  named k (PackageUnit p ∷ us) place found is before = named k us place found is before
  named k (EntityUnit own generics ports ∷ us) place found is before =
      let x : ListedEntity = record { name = own; generics = read_generics generics } in
      named (suc k) us (cond (bytes_eq own name) (Some k) place)
      (cond (bytes_eq own name) (Some (record { generics = generics; ports = ports })) found)
      (behind_place whole k x (entities_in us) is)
      (entity_by (bytes_eq own name) k generics ports place found (ap (λ y. y.generics) (at_place whole k x no_entity (entities_in us) is)) before)

pub are_facts : (r : Revision) (tree : ResolvedTree) (ps : List ListedPorts) (xs : List ListedEntity) (places : ℕ → Option ℕ) (names : List ℕ → Option ℕ)
    → ps ≡ map read_ports (ports_in (units_of r tree).units) → xs ≡ entities_in (units_of r tree).units
    → ((n : ℕ) → places n ≡ first_place 0 ps n) → ((name : List ℕ) → names name ≡ last_place None 0 xs name)
    → AreFacts r tree places ps names xs
are_facts r tree ps xs places names ports entities places_are names_are = record {
  ports_are = λ n.
      ap (ports_found ps) (places_are n) ∙ ap (λ qs. ports_found ps (first_place 0 qs n)) ports
      ∙ placed ps n 0 (ports_in (units_of r tree).units) ports;
  generics_are = λ name.
      ap (generics_found xs) (names_are name) ∙ ap (λ ys. generics_found xs (last_place None 0 ys name)) entities
      ∙ named xs name 0 (units_of r tree).units None None entities refl;
}
