-- A file's tree and the written one: the map is whole for every top, and the interface is kept.
use Rattle.std.proofs.Common.{◌≡◌, Bool, true, false, List, [], ◌∷◌, map, Option, Some, None, sym, ap, ◌∙◌, subst, append-nil, refl}
use Rattle.std.specs.Prelude.{if◌then◌else◌, ◌&&◌, bytes_eq, IsSome}
use Rattle.vd_forest.specs.Forest.{Forest, parts_of, erased, SameButPlaces}
use Rattle.vd_first_trees.specs.declared.form.Form.{Form}
use Rattle.vd_first_grammar.specs.Derivations.{File, ports_of}
use Rattle.vd_first_grammar.specs.Conditions.{texts_of, port_names as declared_names, MeetsConditions}
use Rattle.vd_first_grammar.specs.Shapes.{port_shape, further_ports_shape, entity_shape, architecture_shape, file_shape}
use Rattle.vd_first_passes.specs.Lowering.{lowered}
use Rattle.vd_first_passes.specs.Flavour.{single_ports, flavoured}
use Rattle.vd_first_names.specs.Maps.{design_rows}
use Rattle.vd_first_grammar.proofs.RunExpressions.{bytes_eq_same}
use Rattle.vd_first_elaboration.specs.Tops.{Top, TopUnits, is_wanted, both_units, library_units, top_units}
use Rattle.vd_first_elaboration.specs.Signals.{port_signal}
use Rattle.vd_first_elaboration.specs.Ports.{Port, declared_ports}
use Rattle.vd_first_elaboration.specs.Interfaces.{entity, architecture, unit_interfaces, interface_of}
use Rattle.vd_first_elaboration.specs.Elaboration.{elaborated_units, elaborated_if, elaboration}
use Rattle.vd_first_correspondence.specs.Laws.{MapsAreWhole, InterfacesAreKept, FilesHaveTops}
use Rattle.vd_first_correspondence.specs.WholeMaps.{IsWhole, IsWholeFor}
use Rattle.vd_first_correspondence.proofs.WholeMapLemmas.{row_of, bare_level, whole}
use Rattle.vd_first_correspondence.proofs.NameLemmas.{own_names}
use Rattle.vd_first_correspondence.proofs.PortLemmas.{ports_erased, ports_single, port_shapes_lowered, rows_of_shapes, names_of_shapes}

-- elaboration and interface don't depend on places
pub same_elaboration : (t u : Forest Form) → SameButPlaces t u → (top : Top) → elaboration t top ≡ elaboration u top
same_elaboration t u s top = ap (λ units. elaborated_if (top_units units top)) s.same

pub same_interface : (t u : Forest Form) → SameButPlaces t u → interface_of t ≡ interface_of u
same_interface t u s = ap (λ units. unit_interfaces (library_units units)) s.same

-- ---- the ports

abbrev pub port_shapes : File → Forest Form
port_shapes f = port_shape f.first_port (further_ports_shape f.other_ports)

-- those of the source
abbrev pub ports_in : File → List Port
ports_in f = declared_ports (erased (port_shapes f))

-- with the lists in the processes, and in the 1993 form, they are the same
pub ports_lowered : (f : File) → declared_ports (erased (lowered (port_shapes f))) ≡ ports_in f
ports_lowered f =
    ports_erased (lowered (port_shapes f)) ∙ ap declared_ports (port_shapes_lowered f.first_port f.other_ports) ∙ sym (ports_erased (port_shapes f))

pub ports_kept : (f : File) → declared_ports (erased (single_ports (lowered (port_shapes f)))) ≡ ports_in f
ports_kept f =
    ports_erased (single_ports (lowered (port_shapes f)))
    ∙ ports_single (lowered (port_shapes f))
    ∙ ap declared_ports (port_shapes_lowered f.first_port f.other_ports)
    ∙ sym (ports_erased (port_shapes f))

pub rows_are : (f : File) → design_rows (file_shape f) ≡ map (row_of f.entity.text) (ports_in f)
rows_are f =
    append-nil _
    ∙ rows_of_shapes f.entity.text f.first_port f.other_ports
    ∙ ap (map (row_of f.entity.text)) (sym (ports_erased (port_shapes f)))

pub names_are : (f : File) → map (λ (p : Port). p.name) (ports_in f) ≡ texts_of (declared_names (ports_of f))
names_are f =
    ap (map (λ (p : Port). p.name)) (ports_erased (port_shapes f)) ∙ names_of_shapes f.first_port f.other_ports

-- ---- the units of a top

abbrev pub source_units : File → TopUnits
source_units f = record { entity = erased (parts_of (entity_shape f)); architecture = erased (parts_of (architecture_shape f)) }

abbrev pub lowered_units : File → TopUnits
lowered_units f =
    record { entity = erased (parts_of (lowered (entity_shape f))); architecture = erased (parts_of (lowered (architecture_shape f))) }

abbrev pub written_units : File → TopUnits
written_units f =
    record { entity = erased (parts_of (flavoured (lowered (entity_shape f)))); architecture = erased (parts_of (flavoured (lowered (architecture_shape f)))) }

-- a unit where the test holds
abbrev pub unit_if : Bool → Forest Form → Option (Forest Form)
unit_if b parts = if b then Some parts else None

signals_whole : (f : File) → MeetsConditions f → IsWhole (design_rows (file_shape f)) (elaborated_units (source_units f)).signals (elaborated_units (written_units f)).signals
signals_whole f m =
    let all = whole f.entity.text f.architecture.text (ports_in f) (own_names f m (ports_in f) (names_are f)) in
    let level = bare_level f.entity.text f.architecture.text in
    subst (λ ports. IsWhole (design_rows (file_shape f)) (map (port_signal level) (ports_in f)) (map (port_signal level) ports)) (sym (ports_kept f))
    (subst (λ rows. IsWhole rows (map (port_signal level) (ports_in f)) (map (port_signal level) (ports_in f))) (sym (rows_are f)) all)

whole_if : (f : File) → MeetsConditions f → (b c : Bool) → IsWholeFor (design_rows (file_shape f)) (elaborated_if (both_units (unit_if b (source_units f).entity) (unit_if c (source_units f).architecture))) (elaborated_if (both_units (unit_if b (written_units f).entity) (unit_if c (written_units f).architecture)))
whole_if f m true true = signals_whole f m
whole_if f m true false = tt
whole_if f m false true = tt
whole_if f m false false = tt

-- the tests by which a top finds its units in a file
abbrev pub has_entity : File → Top → Bool
has_entity f top = bytes_eq f.entity.text top.entity

abbrev pub has_architecture : File → Top → Bool
has_architecture f top = bytes_eq f.of_entity.text top.entity && is_wanted top.architecture f.architecture.text

pub map_whole : MapsAreWhole
map_whole f is = record { for_each = λ top. whole_if f is.conditions (has_entity f top) (has_architecture f top) }

-- ---- the interface

pub interface_kept : InterfacesAreKept
interface_kept f = ap (λ ports. entity f.entity.text ports ∷ architecture f.architecture.text f.of_entity.text ∷ []) (ports_kept f)

-- ---- the tops of a file

some_if : (f : File) (b c : Bool) → b ≡ true → c ≡ true → IsSome (elaborated_if (both_units (unit_if b (source_units f).entity) (unit_if c (source_units f).architecture)))
some_if f true true e d = refl
some_if f true false e d = cc
some_if f false c e d = cc

pub files_have_tops : FilesHaveTops
files_have_tops f m =
    let entity = bytes_eq_same f.entity.text in
    let of_entity = subst (λ x. bytes_eq x f.entity.text ≡ true) (sym m.of_entity) entity in
    let named = bytes_eq_same f.architecture.text in
    record {
      last = some_if f (has_entity f (record { entity = f.entity.text; architecture = None })) (has_architecture f (record { entity = f.entity.text; architecture = None })) entity (ap (λ b. b && true) of_entity);
      named =
          some_if f (has_entity f (record { entity = f.entity.text; architecture = Some f.architecture.text })) (has_architecture f (record { entity = f.entity.text; architecture = Some f.architecture.text })) entity
          (ap (λ b. b && bytes_eq f.architecture.text f.architecture.text) of_entity ∙ named);
    }
