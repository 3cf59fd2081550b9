-- The first unknown name of a tree is that of the derivation whose tree it is.
use Rattle.std.proofs.Common.{◌≡◌, Bool, true, false, List, [], ◌∷◌, ◌++◌, map, Option, Some, None, refl, sym, ap, ◌∙◌}
use Rattle.std.specs.Prelude.{if◌then◌else◌, ◌==◌}
use Rattle.std.specs.List.{flat_map}
use Rattle.std.proofs.lemmas.List.{append-nil, map-append}
use Rattle.std.proofs.lemmas.List.Concat.{flat_map-cons}
use Rattle.vd_bytes.specs.declared.places.Place.{Place}
use Rattle.vd_forest.specs.Forest.{Forest, nothing, more, joined}
use Rattle.vd_forest.proofs.ForestLemmas.{joined_nothing}
use Rattle.vd_first_trees.specs.declared.form.Form.{Form}
use Rattle.vd_first_trees.specs.declared.form.Form.TheVariants as form
use Rattle.vd_first_lex.specs.declared.tokens.Kind.{Kind}
use Rattle.vd_first_lex.specs.declared.tokens.Kind.TheVariants.{Word}
use Rattle.vd_first_lex.specs.declared.tokens.Token.{Token}
use Rattle.vd_first_lex.specs.declared.tokens.TheConstants.{OUT}
use Rattle.vd_first_grammar.specs.Derivations.{Expression, name, brackets, inverted, conjoined, names_of, Further, Port, Sensitivity, every, listed, Process, File, ports_of}
use Rattle.vd_first_grammar.specs.Conditions.{texts_of, port_names, expression_names, sensitivity_names, process_names}
use Rattle.vd_first_grammar.specs.Refusals.{object_names}
use Rattle.vd_first_grammar.specs.Shapes.{identifiers, expression_shape, if_out, subtype_shape, port_shape, further_ports_shape, name_nodes, sensitivity_shape, is_shape, assignment_shape, process_shape, processes_shape, optional_identifier, entity_shape, architecture_shape, file_shape}
use Rattle.vd_first_passes.specs.Lowering.{names_in}
use Rattle.vd_first_accept.proofs.ExpressionNames.{name_nodes-append, expression_named}
use Rattle.vd_first_accept.specs.Unknown.{texts_in, listed_names}

-- ---- the names of a tree

names_in-name_nodes : (ts : List Token) → names_in (name_nodes ts) ≡ name_nodes ts
names_in-name_nodes [] = refl
names_in-name_nodes (t ∷ ts) = ap (λ f. more form.Name [] t.place (more form.Identifier t.text t.place nothing nothing) f) (names_in-name_nodes ts)

assignment_named : (target : Token) (value : Expression) → names_in (assignment_shape target value nothing) ≡ name_nodes (target ∷ expression_names value)
assignment_named target value =
    joined_nothing (names_in (more form.Name [] target.place (more form.Identifier target.text target.place nothing nothing) (expression_shape value nothing)))
    ∙ ap (λ f. more form.Name [] target.place (more form.Identifier target.text target.place nothing nothing) f) (expression_named value nothing ∙ joined_nothing (name_nodes (expression_names value)))

is_named : (o : Option Token) (p : Place) (rest : Forest Form) → names_in (is_shape o p rest) ≡ names_in rest
is_named None p rest = refl
is_named (Some t) p rest = refl

sensitivity_named : (s : Sensitivity) (rest : Forest Form) → names_in (sensitivity_shape s rest) ≡ joined (name_nodes (sensitivity_names s)) (names_in rest)
sensitivity_named (every t) rest = refl
sensitivity_named (listed ns) rest = ap (λ f. joined f (names_in rest)) (names_in-name_nodes (names_of ns))

process_named : (p : Process) (next : Forest Form) → names_in (process_shape p next) ≡ joined (name_nodes (process_names p)) (names_in next)
process_named p next =
    let own = p.target ∷ expression_names p.value in
    ap (λ f. joined f (names_in next))
    (sensitivity_named p.sensitivity (is_shape p.is_word p.begin_word.place (assignment_shape p.target p.value nothing))
    ∙ ap (joined (name_nodes (sensitivity_names p.sensitivity))) (is_named p.is_word p.begin_word.place (assignment_shape p.target p.value nothing) ∙ assignment_named p.target p.value)
    ∙ sym (name_nodes-append (sensitivity_names p.sensitivity) own))

processes_named : (ps : List Process) → names_in (processes_shape ps) ≡ name_nodes (flat_map process_names ps)
processes_named [] = refl
processes_named (p ∷ ps) =
    process_named p (processes_shape ps) ∙ ap (joined (name_nodes (process_names p))) (processes_named ps) ∙ sym (name_nodes-append (process_names p) (flat_map process_names ps))
    ∙ ap name_nodes (sym (flat_map-cons process_names p ps))

-- ports have no names of objects
mode_unnamed : (k : Kind) (p : Place) (rest : Forest Form) → names_in (more (if_out k) [] p nothing rest) ≡ names_in rest
mode_unnamed (Word n) p rest = mode_at (n == OUT) p rest
  where
    mode_at : (b : Bool) (p : Place) (rest : Forest Form) → names_in (more (if b then form.Out else form.In) [] p nothing rest) ≡ names_in rest
    mode_at true p rest = refl
    mode_at false p rest = refl
mode_unnamed _ p rest = refl

identifiers_unnamed : (ts : List Token) → names_in (identifiers ts) ≡ nothing
identifiers_unnamed [] = refl
identifiers_unnamed (t ∷ ts) = identifiers_unnamed ts

port_unnamed : (p : Port) (next : Forest Form) → names_in (port_shape p next) ≡ names_in next
port_unnamed p next =
    ap (λ f. joined f (names_in next))
    (ap (λ f. joined f (names_in (more (if_out p.mode.kind) [] p.mode.place nothing (more form.SubtypeIndication [] p.subtype.place (more form.SelectedName [] p.subtype.place (more form.Identifier p.subtype.text p.subtype.place nothing nothing) nothing) nothing)))) (identifiers_unnamed (names_of p.names))
    ∙ mode_unnamed p.mode.kind p.mode.place (subtype_shape p.subtype nothing))

ports_unnamed : (ps : List (Further Port)) → names_in (further_ports_shape ps) ≡ nothing
ports_unnamed [] = refl
ports_unnamed (p ∷ ps) = port_unnamed p.item (further_ports_shape ps) ∙ ports_unnamed ps

optional_unnamed : (o : Option Token) → names_in (optional_identifier o) ≡ nothing
optional_unnamed None = refl
optional_unnamed (Some t) = refl

entity_named : (f : File) → names_in (entity_shape f) ≡ nothing
entity_named f =
    ap (λ g. joined (joined g (joined (names_in (optional_identifier f.entity_closing)) nothing)) nothing)
    (port_unnamed f.first_port (further_ports_shape f.other_ports) ∙ ports_unnamed f.other_ports)
    ∙ ap (λ g. joined (joined g nothing) nothing) (optional_unnamed f.entity_closing)

architecture_named : (f : File) → names_in (architecture_shape f) ≡ name_nodes (object_names f)
architecture_named f =
    ap (λ g. joined (joined (names_in (processes_shape f.processes)) (joined g nothing)) nothing) (optional_unnamed f.architecture_closing)
    ∙ joined_nothing (joined (names_in (processes_shape f.processes)) nothing)
    ∙ joined_nothing (names_in (processes_shape f.processes))
    ∙ processes_named f.processes

pub file_named : (f : File) → names_in (file_shape f) ≡ name_nodes (object_names f)
file_named f =
    ap (λ g. joined g (joined (names_in (architecture_shape f)) nothing)) (entity_named f)
    ∙ joined_nothing (names_in (architecture_shape f)) ∙ architecture_named f

-- ---- the names that lists declare: those of the ports

texts_in-identifiers : (ts : List Token) → texts_in (identifiers ts) ≡ texts_of ts
texts_in-identifiers [] = refl
texts_in-identifiers (t ∷ ts) = ap (λ xs. t.text ∷ xs) (texts_in-identifiers ts)

mode_unlisted : (k : Kind) (p : Place) (rest : Forest Form) → listed_names (more (if_out k) [] p nothing rest) ≡ listed_names rest
mode_unlisted (Word n) p rest = mode_at (n == OUT) p rest
  where
    mode_at : (b : Bool) (p : Place) (rest : Forest Form) → listed_names (more (if b then form.Out else form.In) [] p nothing rest) ≡ listed_names rest
    mode_at true p rest = refl
    mode_at false p rest = refl
mode_unlisted _ p rest = refl

port_listed : (p : Port) (next : Forest Form) → listed_names (port_shape p next) ≡ texts_of (names_of p.names) ++ listed_names next
port_listed p next =
    ap (λ xs. (texts_in (identifiers (names_of p.names)) ++ xs) ++ listed_names next) (mode_unlisted p.mode.kind p.mode.place (subtype_shape p.subtype nothing))
    ∙ ap (λ xs. xs ++ listed_names next) (append-nil (texts_in (identifiers (names_of p.names))) ∙ texts_in-identifiers (names_of p.names))

further_listed : (ps : List (Further Port)) → listed_names (further_ports_shape ps) ≡ texts_of (port_names (map (λ p. p.item) ps))
further_listed [] = refl
further_listed (p ∷ ps) =
    port_listed p.item (further_ports_shape ps) ∙ ap (λ xs. texts_of (names_of p.item.names) ++ xs) (further_listed ps)
    ∙ sym (map-append (λ t. t.text) (names_of p.item.names) (port_names (map (λ p. p.item) ps)))
    ∙ ap texts_of (sym (flat_map-cons (λ p. names_of p.names) p.item (map (λ p. p.item) ps)))

ports_listed : (f : File) → listed_names (port_shape f.first_port (further_ports_shape f.other_ports)) ≡ texts_of (port_names (ports_of f))
ports_listed f =
    port_listed f.first_port (further_ports_shape f.other_ports) ∙ ap (λ xs. texts_of (names_of f.first_port.names) ++ xs) (further_listed f.other_ports)
    ∙ sym (map-append (λ t. t.text) (names_of f.first_port.names) (port_names (map (λ p. p.item) f.other_ports)))
    ∙ ap texts_of (sym (flat_map-cons (λ p. names_of p.names) f.first_port (map (λ p. p.item) f.other_ports)))

-- statements declare nothing
expression_unlisted : (e : Expression) (next : Forest Form) → listed_names (expression_shape e next) ≡ listed_names next
expression_unlisted (name t) next = refl
expression_unlisted (brackets o e c) next = expression_unlisted e next
expression_unlisted (inverted w e) next = ap (λ xs. xs ++ listed_names next) (expression_unlisted e nothing)
expression_unlisted (conjoined e w f) next =
    ap (λ xs. xs ++ listed_names next) (expression_unlisted e (expression_shape f nothing) ∙ expression_unlisted f nothing)

nodes_unlisted : (ts : List Token) → listed_names (name_nodes ts) ≡ []
nodes_unlisted [] = refl
nodes_unlisted (t ∷ ts) = nodes_unlisted ts

assignment_unlisted : (target : Token) (value : Expression) → listed_names (assignment_shape target value nothing) ≡ []
assignment_unlisted target value = append-nil (listed_names (expression_shape value nothing)) ∙ expression_unlisted value nothing

is_unlisted : (o : Option Token) (p : Place) (rest : Forest Form) → listed_names (is_shape o p rest) ≡ listed_names rest
is_unlisted None p rest = refl
is_unlisted (Some t) p rest = refl

sensitivity_unlisted : (s : Sensitivity) (rest : Forest Form) → listed_names (sensitivity_shape s rest) ≡ listed_names rest
sensitivity_unlisted (every t) rest = refl
sensitivity_unlisted (listed ns) rest = ap (λ xs. xs ++ listed_names rest) (nodes_unlisted (names_of ns))

processes_unlisted : (ps : List Process) → listed_names (processes_shape ps) ≡ []
processes_unlisted [] = refl
processes_unlisted (p ∷ ps) =
    ap (λ xs. xs ++ listed_names (processes_shape ps))
    (sensitivity_unlisted p.sensitivity (is_shape p.is_word p.begin_word.place (assignment_shape p.target p.value nothing))
    ∙ is_unlisted p.is_word p.begin_word.place (assignment_shape p.target p.value nothing) ∙ assignment_unlisted p.target p.value)
    ∙ processes_unlisted ps

optional_unlisted : (o : Option Token) → listed_names (optional_identifier o) ≡ []
optional_unlisted None = refl
optional_unlisted (Some t) = refl

entity_listed : (f : File) → listed_names (entity_shape f) ≡ texts_of (port_names (ports_of f))
entity_listed f =
    ap (λ xs. (xs ++ (listed_names (optional_identifier f.entity_closing) ++ [])) ++ []) (ports_listed f)
    ∙ ap (λ xs. (texts_of (port_names (ports_of f)) ++ (xs ++ [])) ++ []) (optional_unlisted f.entity_closing)
    ∙ append-nil (texts_of (port_names (ports_of f)) ++ []) ∙ append-nil (texts_of (port_names (ports_of f)))

architecture_listed : (f : File) → listed_names (architecture_shape f) ≡ []
architecture_listed f =
    ap (λ xs. (xs ++ (listed_names (optional_identifier f.architecture_closing) ++ [])) ++ []) (processes_unlisted f.processes)
    ∙ ap (λ xs. (xs ++ []) ++ []) (optional_unlisted f.architecture_closing)

pub file_listed : (f : File) → listed_names (file_shape f) ≡ texts_of (port_names (ports_of f))
file_listed f =
    ap (λ xs. xs ++ (listed_names (architecture_shape f) ++ [])) (entity_listed f)
    ∙ ap (λ xs. texts_of (port_names (ports_of f)) ++ (xs ++ [])) (architecture_listed f)
    ∙ append-nil (texts_of (port_names (ports_of f)))
