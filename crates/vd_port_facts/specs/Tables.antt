-- What stands in the tables: where the first ports of a number are listed, and the last entity of a name.
use Rattle.std.specs.Prelude.{◌≡◌, List, None, Option, Some, [], bytes_eq, if◌then◌else◌, slice_index_or, suc, ℕ, ◌∷◌}
use Rattle.vd_meaning.specs.Hierarchies.{entity_in}
use Rattle.vd_port_facts.specs.Reading.{generics_or_none, no_generics, no_ports, read_or_none}
use Rattle.vd_port_facts.specs.declared.entities.ListedEntity.{ListedEntity}
use Rattle.vd_port_facts.specs.declared.generics.ListedGenerics.{ListedGenerics}
use Rattle.vd_port_facts.specs.declared.ports.ListedPorts.{ListedPorts}
use Rattle.vd_resolved.specs.Trees.{ResolvedTree}
use Rattle.vd_trees.specs.declared.revision.Revision.{Revision}
use Rattle.vd_value_rules.specs.Designs.{design_of, is_listed, port_of}

-- of ports, of which the first have this place
abbrev pub first_place : ℕ → List ListedPorts → ℕ → Option ℕ
first_place k [] n = None
first_place k (p ∷ ps) n = if is_listed n p.numbers then Some k else first_place (suc k) ps n

abbrev pub ports_found : List ListedPorts → Option ℕ → ListedPorts
ports_found ps None = no_ports
ports_found ps (Some place) = slice_index_or ps place no_ports

-- of entities, of which the first has this place, where one was found before
abbrev pub last_place : Option ℕ → ℕ → List ListedEntity → List ℕ → Option ℕ
last_place found k [] name = found
last_place found k (x ∷ xs) name = last_place (if bytes_eq x.name name then Some k else found) (suc k) xs name

abbrev pub no_entity : ListedEntity
no_entity = record { name = []; generics = no_generics }

abbrev pub generics_found : List ListedEntity → Option ℕ → ListedGenerics
generics_found xs None = no_generics
generics_found xs (Some place) = (slice_index_or xs place no_entity).generics

-- what the tables have is what the definitions say of a design
pub record AreFacts (r : Revision) (tree : ResolvedTree) (places : ℕ → Option ℕ) (ps : List ListedPorts) (named : List ℕ → Option ℕ) (xs : List ListedEntity) : Type 0 where
  pub ports_are : (n : ℕ) → ports_found ps (places n) ≡ read_or_none (port_of (design_of r tree) n)
  pub generics_are : (name : List ℕ) → generics_found xs (named name) ≡ generics_or_none (entity_in None (design_of r tree).units.units name)
