-- What the rules know of the whole design: its declarations, its views, and the ports and generics of its entities.
use Rattle.std.specs.Prelude.{Bool, List, None, Option, Some, [], false, if◌then◌else◌, true, ℕ, ◌++◌, ◌==◌, ◌∷◌}
use Rattle.std.specs.List.{list_any}
use Rattle.vd_declarations.specs.declared.classes.Class.{Class}
use Rattle.vd_meaning.specs.Building.{Input, Mode}
use Rattle.vd_meaning.specs.Elaborations.{Units, units_of}
use Rattle.vd_meaning.specs.NodeFacets.{ByMode, ByView, ElementMode, EntityUnit, Ports, Unit', View, ViewElement}
use Rattle.vd_meaning.specs.Instances.{conversed, differ, element_mode, view_in}
use Rattle.vd_meaning.specs.Tables.{Table, table}
use Rattle.vd_resolved.specs.Trees.{ResolvedTree}
use Rattle.vd_trees.specs.declared.revision.Revision.{Revision}
use Rattle.vd_trees.specs.declared.revision.Revision.TheVariants.{V1993, V2019}

pub record Design : Type 0 where
  pub revision : Revision
  pub table : Table
  pub units : Units

abbrev pub design_of : Revision → ResolvedTree → Design
design_of r tree = record { revision = r; table = table r tree.declarations; units = units_of r tree }

abbrev pub is_2019 : Revision → Bool
is_2019 V2019 = true
is_2019 V1993 = false

abbrev pub class_of : Design → ℕ → Class
class_of d n = (d.table.declared n).class

-- ---- ports

abbrev pub ports_of_unit : Unit' → List Ports
ports_of_unit (EntityUnit name generics ports) = ports
ports_of_unit _ = []

abbrev pub ports_in : List Unit' → List Ports
ports_in [] = []
ports_in (u ∷ us) = ports_of_unit u ++ ports_in us

abbrev pub is_listed : ℕ → List ℕ → Bool
is_listed n ns = list_any (λ m. m == n) ns

-- the ports that are declared together with one
abbrev pub port_among : List Ports → ℕ → Option Ports
port_among [] n = None
port_among (p ∷ ps) n = if is_listed n p.objects.numbers then Some p else port_among ps n

abbrev pub port_of : Design → ℕ → Option Ports
port_of d n = port_among (ports_in d.units.units) n

-- the mode of a port, or its view
abbrev pub mode_of_ports : Option Ports → ElementMode
mode_of_ports None = ByMode Input
mode_of_ports (Some p) = p.mode

abbrev pub mode_of_port : Design → ℕ → ElementMode
mode_of_port d n = mode_of_ports (port_of d n)

abbrev pub is_view : ElementMode → Bool
is_view (ByMode m) = false
is_view (ByView view converse) = true

-- ---- modes of elements: by the views, of which converses swap `in` and `out`

abbrev pub elements_of : Option View → List ViewElement
elements_of None = []
elements_of (Some view) = view.elements

abbrev pub elements_of_view : Design → Option ℕ → List ViewElement
elements_of_view d view = elements_of (view_in d.units.views view)

-- a mode or a view, and whether modes are swapped round it
pub record Oriented : Type 0 where
  pub mode : ElementMode
  pub is_swapped : Bool

abbrev pub straight : ElementMode → Oriented
straight mode = record { mode = mode; is_swapped = false }

-- of an element of something with a mode or a view
abbrev pub element_oriented : Design → ElementMode → Bool → List ℕ → Oriented
element_oriented d (ByMode m) c name = record { mode = ByMode m; is_swapped = c }
element_oriented d (ByView view k) c name = record { mode = element_mode (elements_of_view d view) name; is_swapped = differ c k }

abbrev pub at_element : Design → Oriented → List ℕ → Oriented
at_element d o name = element_oriented d o.mode o.is_swapped name

-- by the names of elements inside one another
abbrev pub at_fields : Design → Oriented → List (List ℕ) → Oriented
at_fields d o [] = o
at_fields d o (name ∷ names) = at_fields d (at_element d o name) names

-- the one mode that it has; something with a view has none
abbrev pub one_mode : ElementMode → Bool → Option Mode
one_mode (ByMode m) c = Some (conversed c m)
one_mode (ByView view k) c = None

abbrev pub mode_in : Oriented → Option Mode
mode_in o = one_mode o.mode o.is_swapped
