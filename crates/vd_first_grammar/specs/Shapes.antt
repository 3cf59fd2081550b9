-- The syntax tree of a derivation. Brackets leave no node, a chain associates to the left, and each node has the place
-- of its first token.
use Rattle.std.specs.Prelude.{List, [], ◌∷◌, Option, Some, None, if◌then◌else◌, ◌==◌}
use Rattle.vd_bytes.specs.declared.places.Place.{Place}
use Rattle.vd_forest.specs.Forest.{Forest, nothing, more}
use Rattle.vd_first_trees.specs.declared.form.Form.{Form}
use Rattle.vd_first_trees.specs.declared.form.Form.TheVariants as form
use Rattle.vd_first_lex.specs.declared.tokens.Kind.{Kind}
use Rattle.vd_first_lex.specs.declared.tokens.Kind.TheVariants.{Word}
use Rattle.vd_first_lex.specs.declared.tokens.Token.{Token}
use Rattle.vd_first_lex.specs.declared.tokens.TheConstants.{OUT}
use Rattle.vd_first_grammar.specs.Derivations.{Expression, name, brackets, inverted, conjoined, names_of, Further, Port, Sensitivity, every, listed, Process, File}
use Rattle.vd_first_grammar.specs.Refusals.{token_in, place_of_token}

-- a node of parts alone, before other trees
abbrev pub node : Form → Place → Forest Form → Forest Form → Forest Form
node f place parts next = more f [] place parts next

abbrev pub identifier : Token → Forest Form → Forest Form
identifier t next = more form.Identifier t.text t.place nothing next

abbrev pub identifiers : List Token → Forest Form
identifiers [] = nothing
identifiers (t ∷ ts) = identifier t (identifiers ts)

-- the place of the first token of an expression
abbrev pub expression_place : Expression → Place
expression_place (name t) = t.place
expression_place (brackets o e c) = o.place
expression_place (inverted w e) = w.place
expression_place (conjoined e w f) = expression_place e

-- an expression before other trees
abbrev pub expression_shape : Expression → Forest Form → Forest Form
expression_shape (name t) next = node form.Name t.place (identifier t nothing) next
expression_shape (brackets o e c) next = expression_shape e next
expression_shape (inverted w e) next = node form.Not w.place (expression_shape e nothing) next
expression_shape (conjoined e w f) next = node form.And (expression_place e) (expression_shape e (expression_shape f nothing)) next

abbrev pub if_out : Kind → Form
if_out (Word n) = if n == OUT then form.Out else form.In
if_out _ = form.In

abbrev pub subtype_shape : Token → Forest Form → Forest Form
subtype_shape t next = node form.SubtypeIndication t.place (node form.SelectedName t.place (identifier t nothing) nothing) next

abbrev pub port_shape : Port → Forest Form → Forest Form
port_shape p next =
    node form.PortDeclaration p.names.first.place
    (node form.IdentifierList p.names.first.place (identifiers (names_of p.names)) (node (if_out p.mode.kind) p.mode.place nothing (subtype_shape p.subtype nothing)))
    next

abbrev pub further_ports_shape : List (Further Port) → Forest Form
further_ports_shape [] = nothing
further_ports_shape (f ∷ fs) = port_shape f.item (further_ports_shape fs)

abbrev pub name_nodes : List Token → Forest Form
name_nodes [] = nothing
name_nodes (t ∷ ts) = node form.Name t.place (identifier t nothing) (name_nodes ts)

abbrev pub sensitivity_shape : Sensitivity → Forest Form → Forest Form
sensitivity_shape (every t) next = node form.All t.place nothing next
sensitivity_shape (listed ns) next = node form.SensitivityList ns.first.place (name_nodes (names_of ns)) next

-- the word `is`, or its absence at the place of the next token
abbrev pub is_shape : Option Token → Place → Forest Form → Forest Form
is_shape None place next = node form.Absent place nothing next
is_shape (Some t) place next = node form.Is t.place nothing next

abbrev pub assignment_shape : Token → Expression → Forest Form → Forest Form
assignment_shape target value next =
    node form.SignalAssignment target.place (node form.Name target.place (identifier target nothing) (expression_shape value nothing)) next

abbrev pub process_shape : Process → Forest Form → Forest Form
process_shape p next =
    node form.ProcessStatement (place_of_token p.head 0)
    (sensitivity_shape p.sensitivity (is_shape p.is_word p.begin_word.place (assignment_shape p.target p.value nothing)))
    next

abbrev pub processes_shape : List Process → Forest Form
processes_shape [] = nothing
processes_shape (p ∷ ps) = process_shape p (processes_shape ps)

abbrev pub optional_identifier : Option Token → Forest Form
optional_identifier None = nothing
optional_identifier (Some t) = identifier t nothing

-- a statement part without a statement has the place of the word behind it
abbrev pub statements_place : List Process → List Token → Place
statements_place [] foot = place_of_token foot 0
statements_place (p ∷ ps) foot = place_of_token p.head 0

-- library ieee; use ieee.std_logic_1164.all;
abbrev pub context_shape : List Token → Forest Form → Forest Form
context_shape head next =
    node form.ContextClause (place_of_token head 0)
    (node form.LibraryClause (place_of_token head 0) (identifier (token_in head 1) nothing)
    (node form.UseClause (place_of_token head 3)
    (node form.SelectedName (place_of_token head 4) (identifier (token_in head 4) (identifier (token_in head 6) (node form.All (place_of_token head 8) nothing nothing))) nothing)
    nothing))
    next

abbrev pub entity_shape : File → Forest Form
entity_shape f =
    node form.EntityDeclaration (place_of_token f.head 10)
    (identifier f.entity
    (node form.PortClause (place_of_token f.ports_head 1) (port_shape f.first_port (further_ports_shape f.other_ports))
    (node form.Closing (place_of_token f.ports_foot 3) (optional_identifier f.entity_closing) nothing)))
    nothing

abbrev pub architecture_shape : File → Forest Form
architecture_shape f =
    node form.ArchitectureBody (place_of_token f.architecture_head 1)
    (identifier f.architecture
    (identifier f.of_entity
    (node form.StatementPart (statements_place f.processes f.foot) (processes_shape f.processes)
    (node form.Closing (place_of_token f.foot 1) (optional_identifier f.architecture_closing) nothing))))
    nothing

-- the entity's unit with its context clause, and the architecture's, which has an empty one
abbrev pub file_shape : File → Forest Form
file_shape f =
    node form.DesignUnit (place_of_token f.head 0) (context_shape f.head (entity_shape f))
    (node form.DesignUnit (place_of_token f.architecture_head 1)
    (node form.ContextClause (place_of_token f.architecture_head 1) nothing (architecture_shape f))
    nothing)
