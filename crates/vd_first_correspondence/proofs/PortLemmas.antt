-- The ports of a file's tree: those of its derivation, also after the passes, and the rows of the map.
use Rattle.std.proofs.Common.{◌≡◌, ℕ, Bool, true, false, List, [], ◌∷◌, ◌++◌, map, codes, refl, sym, ap, ◌∙◌, append_assoc}
use Rattle.std.proofs.lemmas.List.{map-append}
use Rattle.std.specs.Prelude.{if◌then◌else◌}
use Rattle.vd_forest.specs.Forest.{Forest, nothing, more, parts_of, next_of, erased, joined}
use Rattle.vd_first_trees.specs.declared.form.Form.{Form}
use Rattle.vd_first_trees.specs.declared.form.Form.TheVariants as form
use Rattle.vd_first_trees.specs.Forms.{same_form}
use Rattle.vd_first_lex.specs.declared.tokens.Token.{Token}
use Rattle.vd_first_grammar.specs.Derivations.{Further, names_of, Port as PortText}
use Rattle.vd_first_grammar.specs.Conditions.{texts_of, port_names as declared_names}
use Rattle.vd_first_grammar.specs.Shapes.{node, identifier, identifiers, if_out, subtype_shape, port_shape, further_ports_shape}
use Rattle.vd_first_passes.specs.Lowering.{lowered}
use Rattle.vd_first_passes.specs.Flavour.{each_port, single_ports}
use Rattle.vd_first_names.specs.Maps.{rows_each, port_rows}
use Rattle.vd_first_elaboration.specs.Ports.{Mode, input, output, mode_word, Port, mode_of, last_text_or, type_mark, ports_named, declared_ports}
use Rattle.vd_first_correspondence.proofs.WholeMapLemmas.{row_of}

-- ---- places play no role

last_erased : (text : List ℕ) (f : Forest Form) → last_text_or text (erased f) ≡ last_text_or text f
last_erased text nothing = refl
last_erased text (more f t p parts next) = last_erased t next

mark_erased : (f : Forest Form) → type_mark (erased f) ≡ type_mark f
mark_erased nothing = refl
mark_erased (more f t p nothing next) = refl
mark_erased (more f t p (more g u q parts after) next) = last_erased [] parts

named_erased : (f : Forest Form) (mode : Mode) (mark : List ℕ) → ports_named (erased f) mode mark ≡ ports_named f mode mark
named_erased nothing mode mark = refl
named_erased (more f t p parts next) mode mark = ap (λ ps. record { name = t; mode = mode; mark = mark } ∷ ps) (named_erased next mode mark)

mode_erased : (f : Forest Form) → mode_of (erased f) ≡ mode_of f
mode_erased nothing = refl
mode_erased (more f t p parts next) = refl

pub next_erased : (f : Forest Form) → next_of (erased f) ≡ erased (next_of f)
next_erased nothing = refl
next_erased (more f t p parts next) = refl

parts_erased : (f : Forest Form) → parts_of (erased f) ≡ erased (parts_of f)
parts_erased nothing = refl
parts_erased (more f t p parts next) = refl

pub ports_erased : (f : Forest Form) → declared_ports (erased f) ≡ declared_ports f
ports_erased nothing = refl
ports_erased (more f t p parts next) =
    let names = ap (λ g. ports_named g (mode_of (next_of (erased parts))) (type_mark (next_of (next_of (erased parts))))) (parts_erased parts)
    ∙ named_erased (parts_of parts) (mode_of (next_of (erased parts))) (type_mark (next_of (next_of (erased parts)))) in
    let mode : mode_of (next_of (erased parts)) ≡ mode_of (next_of parts) = ap mode_of (next_erased parts) ∙ mode_erased (next_of parts) in
    let mark : type_mark (next_of (next_of (erased parts))) ≡ type_mark (next_of (next_of parts)) =
    ap (λ g. type_mark (next_of g)) (next_erased parts) ∙ ap type_mark (next_erased (next_of parts)) ∙ mark_erased (next_of (next_of parts)) in
    let rest = ports_erased next in
    cc

-- ---- ports declared one by one

declared_joined : (f g : Forest Form) → declared_ports (joined f g) ≡ declared_ports f ++ declared_ports g
declared_joined nothing g = refl
declared_joined (more f t p parts next) g =
    ap (λ ps. ports_named (parts_of parts) (mode_of (next_of parts)) (type_mark (next_of (next_of parts))) ++ ps) (declared_joined next g)
    ∙ sym (append_assoc (ports_named (parts_of parts) (mode_of (next_of parts)) (type_mark (next_of (next_of parts)))) (declared_ports next) (declared_ports g))

each_declared : (ids after : Forest Form) → declared_ports (each_port ids after) ≡ ports_named ids (mode_of after) (type_mark (next_of after))
each_declared nothing after = refl
each_declared (more f t p parts next) after = ap (λ ps. record { name = t; mode = mode_of after; mark = type_mark (next_of after) } ∷ ps) (each_declared next after)

pub ports_single : (f : Forest Form) → declared_ports (single_ports f) ≡ declared_ports f
ports_single nothing = refl
ports_single (more f t p parts next) =
    declared_joined (each_port (parts_of parts) (next_of parts)) (single_ports next)
    ∙ ap (λ ps. ps ++ declared_ports (single_ports next)) (each_declared (parts_of parts) (next_of parts))
    ∙ ap (λ ps. ports_named (parts_of parts) (mode_of (next_of parts)) (type_mark (next_of (next_of parts))) ++ ps) (ports_single next)

-- ---- no process stands among the ports

identifiers_lowered : (ts : List Token) → lowered (identifiers ts) ≡ identifiers ts
identifiers_lowered [] = refl
identifiers_lowered (t ∷ ts) = ap (identifier t) (identifiers_lowered ts)

same_either : {A : Type 0} (b : Bool) (x : A) → (if b then x else x) ≡ x
same_either true x = refl
same_either false x = refl

mode_lowered : (p : PortText) (next : Forest Form) → lowered (port_shape p next) ≡ port_shape p (lowered next)
mode_lowered p next =
    let place = p.names.first.place in
    let names = identifiers_lowered (names_of p.names) in
    let mode = same_either (same_form (if_out p.mode.kind) form.ProcessStatement) (node (if_out p.mode.kind) p.mode.place nothing (subtype_shape p.subtype nothing)) in
    ap (λ ids. node form.PortDeclaration place (node form.IdentifierList place ids (lowered (node (if_out p.mode.kind) p.mode.place nothing (subtype_shape p.subtype nothing)))) (lowered next)) names
    ∙ ap (λ m. node form.PortDeclaration place (node form.IdentifierList place (identifiers (names_of p.names)) m) (lowered next)) mode

further_lowered : (ps : List (Further PortText)) → lowered (further_ports_shape ps) ≡ further_ports_shape ps
further_lowered [] = refl
further_lowered (p ∷ ps) = mode_lowered p.item (further_ports_shape ps) ∙ ap (port_shape p.item) (further_lowered ps)

pub port_shapes_lowered : (p : PortText) (ps : List (Further PortText)) → lowered (port_shape p (further_ports_shape ps)) ≡ port_shape p (further_ports_shape ps)
port_shapes_lowered p ps = mode_lowered p (further_ports_shape ps) ∙ ap (port_shape p) (further_lowered ps)

-- ---- the rows of the ports

rows_named : (unit : List ℕ) (ids : Forest Form) (mark : List ℕ) (mode : Mode) (word : List ℕ) → word ≡ mode_word mode → rows_each unit ids mark word ≡ map (row_of unit) (ports_named ids mode mark)
rows_named unit nothing mark mode word e = refl
rows_named unit (more f t p parts next) mark mode word e =
    let rest = rows_named unit next mark mode word e in cc

mode_is_word : (b : Bool) → (if b then codes "out" else codes "in") ≡ mode_word (if b then output else input)
mode_is_word true = refl
mode_is_word false = refl

row_shape : (unit : List ℕ) (p : PortText) (next : Forest Form) → port_rows unit next ≡ map (row_of unit) (declared_ports next) → port_rows unit (port_shape p next) ≡ map (row_of unit) (declared_ports (port_shape p next))
row_shape unit p next e =
    let mode = if same_form (if_out p.mode.kind) form.Out then output else input in
    let first = rows_named unit (identifiers (names_of p.names)) p.subtype.text mode _ (mode_is_word (same_form (if_out p.mode.kind) form.Out)) in
    let both = map-append (row_of unit) (ports_named (identifiers (names_of p.names)) mode p.subtype.text) (declared_ports next) in
    cc

further_rows : (unit : List ℕ) (ps : List (Further PortText)) → port_rows unit (further_ports_shape ps) ≡ map (row_of unit) (declared_ports (further_ports_shape ps))
further_rows unit [] = refl
further_rows unit (p ∷ ps) = row_shape unit p.item (further_ports_shape ps) (further_rows unit ps)

pub rows_of_shapes : (unit : List ℕ) (p : PortText) (ps : List (Further PortText)) → port_rows unit (port_shape p (further_ports_shape ps)) ≡ map (row_of unit) (declared_ports (port_shape p (further_ports_shape ps)))
rows_of_shapes unit p ps = row_shape unit p (further_ports_shape ps) (further_rows unit ps)

-- ---- the names of the ports

names_named : (ts : List Token) (mode : Mode) (mark : List ℕ) → map (λ (p : Port). p.name) (ports_named (identifiers ts) mode mark) ≡ texts_of ts
names_named [] mode mark = refl
names_named (t ∷ ts) mode mark = ap (λ ns. t.text ∷ ns) (names_named ts mode mark)

shape_names : (p : PortText) (next : Forest Form) (ns : List (List ℕ)) → map (λ (p : Port). p.name) (declared_ports next) ≡ ns → map (λ (p : Port). p.name) (declared_ports (port_shape p next)) ≡ texts_of (names_of p.names) ++ ns
shape_names p next ns e =
    let mode = if same_form (if_out p.mode.kind) form.Out then output else input in
    map-append (λ (p : Port). p.name) (ports_named (identifiers (names_of p.names)) mode p.subtype.text) (declared_ports next)
    ∙ ap (λ xs. xs ++ map (λ (p : Port). p.name) (declared_ports next)) (names_named (names_of p.names) mode p.subtype.text)
    ∙ ap (λ ys. texts_of (names_of p.names) ++ ys) e

further_names : (ps : List (Further PortText)) → map (λ (p : Port). p.name) (declared_ports (further_ports_shape ps)) ≡ texts_of (declared_names (map (λ f. f.item) ps))
further_names [] = refl
further_names (p ∷ ps) =
    shape_names p.item (further_ports_shape ps) _ (further_names ps)
    ∙ sym (map-append (λ (t : Token). t.text) (names_of p.item.names) (declared_names (map (λ f. f.item) ps)))

-- the names of the ports of a file's tree are those that the file declares as ports
pub names_of_shapes : (p : PortText) (ps : List (Further PortText)) → map (λ (p : Port). p.name) (declared_ports (port_shape p (further_ports_shape ps))) ≡ texts_of (declared_names (p ∷ map (λ f. f.item) ps))
names_of_shapes p ps =
    shape_names p (further_ports_shape ps) _ (further_names ps)
    ∙ sym (map-append (λ (t : Token). t.text) (names_of p.names) (declared_names (map (λ f. f.item) ps)))
