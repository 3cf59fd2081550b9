-- The tree of a derivation is, up to places, that of the derivation without its places.
use Rattle.std.proofs.Common.{◌≡◌, ℕ, zero, suc, List, [], ◌∷◌, map, Option, Some, None, refl, sym, ap, ◌∙◌}
use Rattle.vd_forest.specs.Forest.{Forest, nothing, more, no_place, erased, SameButPlaces}
use Rattle.vd_first_trees.specs.declared.form.Form.{Form}
use Rattle.vd_first_trees.specs.declared.form.Form.TheVariants as form
use Rattle.vd_first_lex.specs.declared.tokens.Token.{Token}
use Rattle.vd_first_grammar.specs.Derivations.{Expression, name, brackets, inverted, conjoined, Further, names_of, Port, Sensitivity, every, listed, Process, File}
use Rattle.vd_first_grammar.specs.Conditions.{texts_of}
use Rattle.vd_first_grammar.specs.Refusals.{token_in}
use Rattle.vd_first_grammar.specs.Shapes.{identifiers, expression_shape, if_out, port_shape, further_ports_shape, name_nodes, sensitivity_shape, is_shape, assignment_shape, process_shape, processes_shape, optional_identifier, file_shape}
use Rattle.vd_first_print.specs.ReadingBack.{placeless, all_placeless}
use Rattle.vd_first_written.proofs.Placeless.{placeless_expression, placeless_further, placeless_names, placeless_port, placeless_sensitivity, placeless_option, placeless_process, placeless_file}
use Rattle.vd_first_written.proofs.PlacelessNames.{names_placeless}

-- ---- trees without places, from texts alone

abbrev pub bare_identifier : List ℕ → Forest Form → Forest Form
bare_identifier text next = more form.Identifier text no_place nothing next

abbrev pub bare_node : Form → Forest Form → Forest Form → Forest Form
bare_node f parts next = more f [] no_place parts next

abbrev pub bare_identifiers : List (List ℕ) → Forest Form
bare_identifiers [] = nothing
bare_identifiers (text ∷ texts) = bare_identifier text (bare_identifiers texts)

abbrev pub bare_names : List (List ℕ) → Forest Form
bare_names [] = nothing
bare_names (text ∷ texts) = bare_node form.Name (bare_identifier text nothing) (bare_names texts)

pub identifiers_erased : (ts : List Token) → erased (identifiers ts) ≡ bare_identifiers (texts_of ts)
identifiers_erased [] = refl
identifiers_erased (t ∷ ts) = ap (bare_identifier t.text) (identifiers_erased ts)

pub names_erased : (ts : List Token) → erased (name_nodes ts) ≡ bare_names (texts_of ts)
names_erased [] = refl
names_erased (t ∷ ts) = ap (bare_node form.Name (bare_identifier t.text nothing)) (names_erased ts)

abbrev pub bare_port : List (List ℕ) → Form → List ℕ → Forest Form → Forest Form
bare_port texts mode subtype next =
    bare_node form.PortDeclaration
    (bare_node form.IdentifierList (bare_identifiers texts) (bare_node mode nothing (bare_node form.SubtypeIndication (bare_node form.SelectedName (bare_identifier subtype nothing) nothing) nothing)))
    next

pub port_erased : (p : Port) (next : Forest Form) → erased (port_shape p next) ≡ bare_port (texts_of (names_of p.names)) (if_out p.mode.kind) p.subtype.text (erased next)
port_erased p next =
    ap (λ g. bare_node form.PortDeclaration (bare_node form.IdentifierList g (bare_node (if_out p.mode.kind) nothing (bare_node form.SubtypeIndication (bare_node form.SelectedName (bare_identifier p.subtype.text nothing) nothing) nothing))) (erased next))
    (identifiers_erased (names_of p.names))

-- ---- without the places, tree by tree

expression_placeless : (e : Expression) (a b : Forest Form) → erased a ≡ erased b → erased (expression_shape (placeless_expression e) a) ≡ erased (expression_shape e b)
expression_placeless (name t) a b h = ap (bare_node form.Name (bare_identifier t.text nothing)) h
expression_placeless (brackets o e c) a b h = expression_placeless e a b h
expression_placeless (inverted w e) a b h = λ i. bare_node form.Not (expression_placeless e nothing nothing refl i) (h i)
expression_placeless (conjoined e w f) a b h =
    let right = expression_placeless f nothing nothing refl in
    λ i. bare_node form.And (expression_placeless e (expression_shape (placeless_expression f) nothing) (expression_shape f nothing) right i) (h i)

port_placeless : (p : Port) (a b : Forest Form) → erased a ≡ erased b → erased (port_shape (placeless_port p) a) ≡ erased (port_shape p b)
port_placeless p a b h =
    port_erased (placeless_port p) a ∙ (λ i. bare_port (names_placeless p.names i) (if_out p.mode.kind) p.subtype.text (h i)) ∙ sym (port_erased p b)

further_ports_placeless : (fs : List (Further Port)) → erased (further_ports_shape (map (placeless_further placeless_port) fs)) ≡ erased (further_ports_shape fs)
further_ports_placeless [] = refl
further_ports_placeless (f ∷ fs) = port_placeless f.item (further_ports_shape (map (placeless_further placeless_port) fs)) (further_ports_shape fs) (further_ports_placeless fs)

sensitivity_placeless : (s : Sensitivity) (a b : Forest Form) → erased a ≡ erased b → erased (sensitivity_shape (placeless_sensitivity s) a) ≡ erased (sensitivity_shape s b)
sensitivity_placeless (every t) a b h = ap (bare_node form.All nothing) h
sensitivity_placeless (listed ns) a b h =
    let list = names_erased (names_of (placeless_names ns)) ∙ ap bare_names (names_placeless ns) ∙ sym (names_erased (names_of ns)) in
    λ i. bare_node form.SensitivityList (list i) (h i)

is_placeless : (o : Option Token) (t : Token) (a b : Forest Form) → erased a ≡ erased b → erased (is_shape (placeless_option o) (placeless t).place a) ≡ erased (is_shape o t.place b)
is_placeless None t a b h = ap (bare_node form.Absent nothing) h
is_placeless (Some u) t a b h = ap (bare_node form.Is nothing) h

process_placeless : (p : Process) (a b : Forest Form) → erased a ≡ erased b → erased (process_shape (placeless_process p) a) ≡ erased (process_shape p b)
process_placeless p a b h =
    let value = expression_placeless p.value nothing nothing refl in
    let assignment : erased (assignment_shape (placeless p.target) (placeless_expression p.value) nothing) ≡ erased (assignment_shape p.target p.value nothing) =
    λ i. bare_node form.SignalAssignment (bare_node form.Name (bare_identifier p.target.text nothing) (value i)) nothing in
    let after = is_placeless p.is_word p.begin_word (assignment_shape (placeless p.target) (placeless_expression p.value) nothing) (assignment_shape p.target p.value nothing) assignment in
    let parts =
    sensitivity_placeless p.sensitivity (is_shape (placeless_option p.is_word) (placeless p.begin_word).place (assignment_shape (placeless p.target) (placeless_expression p.value) nothing))
    (is_shape p.is_word p.begin_word.place (assignment_shape p.target p.value nothing)) after in
    λ i. bare_node form.ProcessStatement (parts i) (h i)

processes_placeless : (ps : List Process) → erased (processes_shape (map placeless_process ps)) ≡ erased (processes_shape ps)
processes_placeless [] = refl
processes_placeless (p ∷ ps) = process_placeless p (processes_shape (map placeless_process ps)) (processes_shape ps) (processes_placeless ps)

-- ---- the file

optional_placeless : (o : Option Token) → erased (optional_identifier (placeless_option o)) ≡ erased (optional_identifier o)
optional_placeless None = refl
optional_placeless (Some t) = refl

token_text : (ts : List Token) (k : ℕ) → (token_in (all_placeless ts) k).text ≡ (token_in ts k).text
token_text [] k = refl
token_text (t ∷ ts) zero = refl
token_text (t ∷ ts) (suc k) = token_text ts k

abbrev pub bare_context : List ℕ → List ℕ → List ℕ → Forest Form → Forest Form
bare_context library again unit next =
    bare_node form.ContextClause
    (bare_node form.LibraryClause (bare_identifier library nothing)
    (bare_node form.UseClause (bare_node form.SelectedName (bare_identifier again (bare_identifier unit (bare_node form.All nothing nothing))) nothing) nothing))
    next

abbrev pub bare_entity : List ℕ → Forest Form → Forest Form → Forest Form
bare_entity text ports closing = bare_node form.EntityDeclaration (bare_identifier text (bare_node form.PortClause ports (bare_node form.Closing closing nothing))) nothing

abbrev pub bare_architecture : List ℕ → List ℕ → Forest Form → Forest Form → Forest Form
bare_architecture text of_entity processes closing =
    bare_node form.ArchitectureBody (bare_identifier text (bare_identifier of_entity (bare_node form.StatementPart processes (bare_node form.Closing closing nothing)))) nothing

abbrev pub bare_file : Forest Form → Forest Form → Forest Form
bare_file entity_unit architecture =
    bare_node form.DesignUnit entity_unit (bare_node form.DesignUnit (bare_node form.ContextClause nothing architecture) nothing)

shape_placeless : (f : File) → erased (file_shape (placeless_file f)) ≡ erased (file_shape f)
shape_placeless f =
    let ports = port_placeless f.first_port (further_ports_shape (map (placeless_further placeless_port) f.other_ports)) (further_ports_shape f.other_ports) (further_ports_placeless f.other_ports) in
    let library = token_text f.head 1 in
    let again = token_text f.head 4 in
    let unit = token_text f.head 6 in
    let closing1 = optional_placeless f.entity_closing in
    let closing2 = optional_placeless f.architecture_closing in
    let processes = processes_placeless f.processes in
    λ i.
    bare_file (bare_context (library i) (again i) (unit i) (bare_entity f.entity.text (ports i) (closing1 i)))
    (bare_architecture f.architecture.text f.of_entity.text (processes i) (closing2 i))

-- so derivations that are the same up to places have the same tree up to places
pub shape_alike : (f g : File) → placeless_file f ≡ placeless_file g → SameButPlaces (file_shape f) (file_shape g)
shape_alike f g same = record { same = sym (shape_placeless f) ∙ ap (λ h. erased (file_shape h)) same ∙ shape_placeless g }
