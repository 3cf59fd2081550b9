-- What is read of the parts of a design: of ports, of the generics of entities, and of the actuals of a generic map.
use Rattle.std.specs.Prelude.{Bool, List, None, Option, Some, [], false, if◌then◌else◌, is_some, map, true, ℕ, ◌++◌, ◌∷◌}
use Rattle.vd_meaning.specs.NodeFacets.{Actual, EntityUnit, Generics, Part, Ports, Unit', nth}
use Rattle.vd_meaning.specs.Hierarchies.{EntityText}
use Rattle.vd_meaning.specs.Parts.{formal_in, parts}
use Rattle.vd_forest.specs.Forest.{Forest}
use Rattle.vd_forms.specs.declared.form.Form.{Form}
use Rattle.vd_meaning.specs.Facets.{Objects}
use Rattle.vd_meaning.specs.Facets as meant
use Rattle.vd_meaning.specs.Meanings.{meanings}
use Rattle.vd_meaning.specs.Tables.{Table}
use Rattle.vd_port_facts.specs.declared.actuals.ListedActual.{ListedActual}
use Rattle.vd_port_facts.specs.declared.entities.ListedEntity.{ListedEntity}
use Rattle.vd_port_facts.specs.declared.generics.ListedGenerics.{ListedGenerics}
use Rattle.vd_port_facts.specs.declared.ports.ListedPorts.{ListedPorts}
use Rattle.vd_resolved.specs.declared.node.Resolved.{Resolved}
use Rattle.vd_forms.specs.declared.form.Form.TheVariants as form

-- ---- what the first of some trees is

abbrev pub part_first : Table → Forest Resolved → Part
part_first t f = nth 0 (parts t f)

abbrev pub numbers_first : Table → Forest Resolved → List ℕ
numbers_first t f = (meant.nth 0 (meanings t f)).numbers

abbrev pub named_first : Table → Forest Resolved → List ℕ
named_first t f = (part_first t f).named

abbrev pub name_first : Table → Forest Resolved → List ℕ
name_first t f = (part_first t f).meaning.text

abbrev pub formal_first : Table → Forest Resolved → Option ℕ
formal_first t f = (part_first t f).formal

-- ---- ports

abbrev pub read_ports : Ports → ListedPorts
read_ports p = record { numbers = p.objects.numbers; has_default = is_some p.objects.default; named = p.named }

-- what is no port
abbrev pub no_ports : ListedPorts
no_ports = record { numbers = []; has_default = false; named = [] }

abbrev pub read_or_none : Option Ports → ListedPorts
read_or_none None = no_ports
read_or_none (Some p) = read_ports p

-- ---- generics

abbrev pub numbers_of : Objects → List ℕ
numbers_of o = o.numbers

abbrev pub read_generics : Generics → ListedGenerics
read_generics g = record { objects = map numbers_of g.objects; defaults = g.defaults }

abbrev pub no_generics : ListedGenerics
no_generics = record { objects = []; defaults = [] }

abbrev pub generics_or_none : Option EntityText → ListedGenerics
generics_or_none None = no_generics
generics_or_none (Some e) = read_generics e.generics

-- the entities among some units
abbrev pub entities_of_unit : Unit' → List ListedEntity
entities_of_unit (EntityUnit name generics ports) = record { name = name; generics = read_generics generics } ∷ []
entities_of_unit _ = []

abbrev pub entities_in : List Unit' → List ListedEntity
entities_in [] = []
entities_in (u ∷ us) = entities_of_unit u ++ entities_in us

-- ---- actuals

abbrev pub read_actual : Actual → ListedActual
read_actual a = record { formal = a.formal; is_open = a.meaning.is_open }

-- of an element of a map
abbrev pub read_element : Part → ListedActual
read_element p = record { formal = formal_in p.meaning.association p.formal; is_open = p.meaning.is_open }

abbrev pub is_map : Form → Bool
is_map form.GenericMap = true
is_map form.PortMap = true
is_map _ = false

-- what an element of a map names in front of `=>`
abbrev pub formal_by : Form → Table → Forest Resolved → Option ℕ
formal_by form.Association t parts = formal_first t parts
formal_by _ t parts = None

-- the actuals of a node
abbrev pub actuals_by : Form → Table → Forest Resolved → List ListedActual
actuals_by f t inside = if is_map f then map read_element (parts t inside) else []
