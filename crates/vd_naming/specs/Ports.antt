-- Entity instances: the entity, its architecture, and the associations of its ports. (IEEE 1076, component instantiation statements; port map aspects; association
-- lists)
use Rattle.std.specs.Prelude.{ℕ, suc, ◌==◌, nat_lt, Bool, true, false, ◌&&◌, not, List, [], ◌∷◌, Option, Some, None, if◌then◌else◌, slice_get}
use Rattle.std.specs.Option.{option_or}
use Rattle.std.specs.List.{list_any}
use Rattle.std.specs.Str.{bytes_eq}
use Rattle.vd_bytes.specs.declared.answers.Refused.{Refused}
use Rattle.vd_bytes.specs.declared.places.Place.{Place}
use Rattle.vd_forest.specs.Forest.{Forest, nothing, more, joined, parts_of, next_of, text_of, with_next}
use Rattle.vd_forms.specs.declared.form.Form.{Form}
use Rattle.vd_forms.specs.declared.form.Form.TheVariants as form
use Rattle.vd_forms.specs.Forms.{is_among, expressions, same_form}
use Rattle.vd_trees.specs.declared.revision.Revision.{Revision}
use Rattle.vd_trees.specs.declared.revision.Revision.TheVariants.{V1993}
use Rattle.vd_regions.specs.Scopes.{declaration_at}
use Rattle.vd_resolved.specs.declared.node.Resolved.{Resolved}
use Rattle.vd_overloads.specs.Interpretations.{first_place}
use Rattle.vd_overloads.specs.declared.wanted.Wanted.TheVariants as wanted
use Rattle.vd_visible.specs.Lists.{simple_name}
use Rattle.vd_visible.specs.Sights.{port_in}
use Rattle.vd_name_rows.specs.Noting.{formal_at}
use Rattle.vd_name_rows.specs.declared.sorts.Sort.TheVariants as sort
use Rattle.vd_name_rows.specs.Designs.{At, Design, Outcome, gives}
use Rattle.vd_name_rows.specs.Refusals.{lesser, broken, broken_if}
use Rattle.vd_naming.specs.Expressions.{resolved, unresolved, mark_of, read_as, refused_names}
use Rattle.vd_naming.specs.Selected.{Breaks}
use Rattle.vd_naming.specs.Paths.{named_as, refused_path, is_entity, is_some}
use Rattle.vd_naming.specs.Units.{main_of, found_in, region_inside, region_of_architectures}

-- ---- the entity and its architecture

abbrev pub last_text : Forest Form → List ℕ
last_text nothing = []
last_text (more f text place parts nothing) = text
last_text (more f text place parts (more f' text' place' parts' next)) = last_text (more f' text' place' parts' next)

-- its simple name is kept, with the place of the whole name
abbrev pub instance_entity : At → Design → Place → Forest Form → Outcome
instance_entity at d place tree =
    named_as (λ k. is_entity (declaration_at d.scopes k).class) (record at { word = last_text (parts_of tree); word_place = place }) d place tree

-- the unit with the last architecture of an entity in the whole design, where the next unit has this number
abbrev pub is_architecture_of : List ℕ → Forest Form → Bool
is_architecture_of entity nothing = false
is_architecture_of entity (more form.ArchitectureBody text place parts next) = bytes_eq (text_of (next_of parts)) entity
is_architecture_of entity (more _ text place parts next) = false

abbrev pub last_architecture : List ℕ → ℕ → Forest Form → Option ℕ
last_architecture entity n nothing = None
last_architecture entity n (more f text place parts next) =
    option_or (last_architecture entity (suc n) next) (if is_architecture_of entity (main_of parts) then Some n else None)

-- it stands in front of the unit of the instance
abbrev pub not_in_front : Option ℕ → ℕ → Bool
not_in_front None unit = true
not_in_front (Some n) unit = not (nat_lt n unit)

abbrev pub default_architecture : Forest Form → At → Option ℕ → Option Refused
default_architecture whole at None = None
default_architecture whole at (Some k) = broken_if (not_in_front (last_architecture at.word 0 whole) at.unit) 302 at.word_place

abbrev pub architecture_named : Option ℕ → Design → List ℕ → Option ℕ
architecture_named None d text = None
architecture_named (Some inside) d text = found_in (region_of_architectures inside) sort.Any text d

-- where the entity isn't known, nothing is refused of its architecture
abbrev pub refused_architecture : Option ℕ → Option ℕ → Place → Option Refused
refused_architecture None k place = None
refused_architecture (Some entity) k place = refused_path k (Breaks 302) place

abbrev pub instance_architecture : Forest Form → At → Design → Form → List ℕ → Place → Outcome
instance_architecture whole at d form.Absent text place = gives at d (more (resolved form.Absent None None) text place nothing nothing) (default_architecture whole at at.named)
instance_architecture whole at d f text place =
    let k = architecture_named (region_inside d at.named) d text in
    gives at d (more (resolved f k None) text place nothing nothing) (refused_architecture at.named k place)

-- ---- what stands in front of `=>`: a port, or a conversion of one

pub data Front : Type 0 where
  -- a port, where there is one of the name
  OfPort : (port : Option ℕ) → Front
  -- in brackets behind something else
  Converted : (port : Option ℕ) → Front
  OtherFront : Front

-- the ports of an entity stand in its region
abbrev pub port_named : Design → ℕ → Option (List ℕ) → Option ℕ
port_named d entity None = None
port_named d entity (Some name) = port_in d.scopes (region_inside d (Some entity)) name

abbrev pub name_alone : Forest Form → Option (List ℕ)
name_alone nothing = None
name_alone (more f text place parts nothing) = simple_name f parts
name_alone (more f text place parts (more f' text' place' parts' next)) = None

-- the argument of the last piece of a name, where it is in brackets
abbrev pub last_argument : Forest Form → Option (List ℕ)
last_argument nothing = None
last_argument (more form.Arguments text place parts nothing) = name_alone parts
last_argument (more _ text place parts nothing) = None
last_argument (more f text place parts (more f' text' place' parts' next)) = last_argument (more f' text' place' parts' next)

-- a port with anything behind it is no whole port
abbrev pub front_of_name : Design → ℕ → Forest Form → Front
front_of_name d entity nothing = OtherFront
front_of_name d entity (more f text place parts nothing) = OfPort (port_named d entity (Some text))
front_of_name d entity (more f text place parts (more f' text' place' parts' next)) =
    if is_some (port_named d entity (Some text)) then OtherFront else Converted (port_named d entity (last_argument (more f' text' place' parts' next)))

abbrev pub front : Design → ℕ → Forest Form → Front
front d entity (more form.Name text place parts nothing) = front_of_name d entity parts
front d entity _ = OtherFront

-- A conversion of a port is an expression in which the ports are looked up first.
abbrev pub among_ports : ℕ → At → Design → At
among_ports entity at d = record at { ports = region_inside d (Some entity) }

abbrev pub converted : ℕ → At → Design → Forest Form → Outcome
converted entity at d tree = record (read_as (among_ports entity at d) d wanted.Free tree) { at = at }

-- ---- associations

-- the ports that have an element so far, and whether each element so far is one of a port
pub record Map : Type 0 where
  pub tree : Forest Resolved
  pub first : Option Refused
  pub given : List ℕ
  pub is_known : Bool
  pub is_named : Bool

abbrev pub no_map : Map
no_map = record { tree = nothing; first = None; given = []; is_known = true; is_named = false }

-- an element for a port: its trees, and what is refused in it
abbrev pub is_given : ℕ → Map → Bool
is_given k m = list_any (λ j. j == k) m.given

abbrev pub with_element : ℕ → Place → Outcome → Map → Map
with_element k place o m =
    record m {
      tree = joined m.tree o.tree;
      first = lesser m.first (lesser (broken_if (is_given k m) 310 place) o.first);
      given = k ∷ m.given;
    }

-- an element for no port. Its own names may be refused at the same place
abbrev pub names_of_expression : At → Design → Forest Form → Option Refused
names_of_expression at d nothing = None
names_of_expression at d (more f text place parts next) =
    if is_among expressions f then refused_names at d (more f text place parts nothing) else None

abbrev pub with_other : At → Design → Place → Forest Form → Map → Map
with_other at d place tree m =
    record m {
      tree = joined m.tree (unresolved tree);
      first = lesser m.first (lesser (broken 310 place) (names_of_expression at d tree));
      is_known = false;
    }

abbrev pub is_open : Form → Bool
is_open form.Open = true
is_open _ = false

-- what a port of this type is given
abbrev pub value_as : Option ℕ → At → Design → Forest Form → Outcome
value_as None at d tree = gives at d (unresolved tree) None
value_as (Some t) at d tree = read_as at d (wanted.OfType t) tree

abbrev pub actual : ℕ → Option ℕ → At → Design → Place → Form → Forest Form → Outcome
actual k t at d place form.Open tree = gives at d (unresolved tree) (broken_if (formal_at d k).is_needed 310 place)
actual k t at d place _ tree = value_as t at d tree

-- by position: none stands behind an association
abbrev pub placed : Option ℕ → At → Design → Form → Place → Forest Form → Map → Map
placed None at d f place tree m = with_other at d place tree m
placed (Some k) at d f place tree m = with_element k place (actual k (declaration_at d.scopes k).mark at d place f tree) m

abbrev pub place_of_next : Bool → ℕ → List ℕ → Option ℕ
place_of_next true n ports = None
place_of_next false n ports = slice_get ports n

-- an association: the name of the port has the port's number. The actual of an `out` port whose name is converted has the type of the conversion, and each other one the port's
abbrev pub converted_type : Form → Option ℕ → Option ℕ → Option ℕ
converted_type form.Out conversion own = conversion
converted_type _ conversion own = own

abbrev pub named_front : ℕ → Forest Form → Forest Resolved
named_front k nothing = nothing
named_front k (more f text place parts next) = more (resolved f (Some k) None) text place (unresolved parts) nothing

abbrev pub choices_node : Forest Form → Forest Resolved → Forest Resolved
choices_node nothing inside = nothing
choices_node (more f text place parts next) inside = more (resolved f None None) text place inside nothing

abbrev pub association_node : Place → Forest Form → Forest Resolved → Outcome → Option Refused → Outcome
association_node place choices inside o first =
    record o {
      tree = more (resolved form.Association None None) [] place (joined (choices_node choices inside) o.tree) nothing;
      first = lesser first o.first;
    }

abbrev pub form_of_tree : Forest Form → Form
form_of_tree nothing = form.Absent
form_of_tree (more f text place parts next) = f

abbrev pub associated_with : ℕ → Option ℕ → At → Design → Place → Forest Form → Forest Form → Forest Resolved → Option Refused → Map → Map
associated_with k t at d place choices value inside first m =
    with_element k place (association_node place choices inside (actual k t at d place (form_of_tree value) value) first) m

-- In 1993 an `inout` port goes both ways: where its name is converted, the conversion is to the type of the signal, which is the operand of the actual's own conversion
-- where it has one.
abbrev pub operand_type : Option ℕ → Forest Resolved → Option ℕ
operand_type own nothing = own
operand_type own (more node text place parts nothing) = if same_form node.form form.Arguments && is_some node.declaration then mark_of parts else own
operand_type own (more node text place parts (more node' text' place' parts' next)) = operand_type own (more node' text' place' parts' next)

abbrev pub signal_type : Forest Resolved → Option ℕ
signal_type nothing = None
signal_type (more node text place parts next) = if same_form node.form form.Name then operand_type node.mark parts else node.mark

abbrev pub other_types : Option ℕ → Option ℕ → Bool
other_types (Some t) (Some u) = not (t == u)
other_types _ _ = false

abbrev pub goes_both_ways : Revision → Form → Bool
goes_both_ways V1993 form.InOut = true
goes_both_ways _ mode = false

abbrev pub not_back : ℕ → At → Design → Option ℕ → Option ℕ → Forest Form → Option Refused
not_back k at d conversion own value =
    broken_if (goes_both_ways at.revision (formal_at d k).mode && other_types conversion (signal_type (value_as own at d value).tree)) 305 (first_place value)

abbrev pub by_conversion : ℕ → At → Design → Place → Forest Form → Forest Form → Outcome → Map → Map
by_conversion k at d place choices value o m =
    associated_with k (converted_type (formal_at d k).mode (mark_of o.tree) (declaration_at d.scopes k).mark) at d place choices value o.tree
    (lesser o.first (not_back k at d (mark_of o.tree) (declaration_at d.scopes k).mark value)) m

abbrev pub associated : Front → ℕ → At → Design → Place → Forest Form → Forest Form → Forest Form → Map → Map
associated (OfPort (Some k)) entity at d place choices value tree m =
    associated_with k (declaration_at d.scopes k).mark at d place choices value (named_front k (parts_of choices)) None m
associated (Converted (Some k)) entity at d place choices value tree m =
    by_conversion k at d place choices value (converted entity at d (with_next (parts_of choices) nothing)) m
associated _ entity at d place choices value tree m = with_other at d place tree m

abbrev pub named_from_here : Map → Map
named_from_here m = record m { is_named = true }

abbrev pub with_tree : ℕ → At → Design → ℕ → Form → Place → Forest Form → Forest Form → Map → Map
with_tree entity at d n form.Association place parts tree m =
    associated (front d entity (parts_of parts)) entity at d place parts (with_next (next_of parts) nothing) tree (named_from_here m)
with_tree entity at d n form.OthersAssociation place parts tree m = with_other at d place tree m
with_tree entity at d n f place parts tree m =
    placed (place_of_next m.is_named n (declaration_at d.scopes entity).parameters) at d f place tree m

abbrev pub with_trees : ℕ → At → Design → ℕ → Forest Form → Map → Map
with_trees entity at d n nothing m = m
with_trees entity at d n (more f text place parts next) m =
    with_trees entity at d (suc n) next (with_tree entity at d n f place parts (more f text place parts nothing) m)

-- a port without actual, where each element is one of a port
abbrev pub lacks : Design → Map → ℕ → Bool
lacks d m k = (formal_at d k).is_needed && not (is_given k m)

abbrev pub missing_port : At → Design → List ℕ → Map → Option Refused
missing_port at d ports m = broken_if (m.is_known && list_any (lacks d m) ports) 310 at.label_place

abbrev pub map_outcome : At → Design → Form → List ℕ → Place → List ℕ → Map → Outcome
map_outcome at d f text place ports m =
    gives at d (more (resolved f None None) text place m.tree nothing) (lesser m.first (missing_port at d ports m))

abbrev pub ports_of_entity : Design → Option ℕ → List ℕ
ports_of_entity d None = []
ports_of_entity d (Some k) = (declaration_at d.scopes k).parameters

-- where the entity isn't known, nothing is named
abbrev pub map_of_known : Option ℕ → At → Design → Form → List ℕ → Place → Forest Form → Outcome
map_of_known None at d f text place parts = gives at d (unresolved (more f text place parts nothing)) None
map_of_known (Some k) at d f text place parts =
    map_outcome at d f text place (declaration_at d.scopes k).parameters (with_trees k at d 0 parts no_map)

abbrev pub port_map : At → Design → Form → List ℕ → Place → Forest Form → Outcome
port_map at d f text place parts = map_of_known at.named at d f text place parts
