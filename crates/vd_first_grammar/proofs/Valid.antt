-- The shape of a derivation is a valid tree.
use Rattle.std.proofs.Common.{◌≡◌, true, List, [], ◌∷◌, ◌++◌, Option, Some, None, refl, sym, ◌∙◌, subst, inl, inr}
use Rattle.std.specs.Prelude.{map, ◌&&◌}
use Rattle.std.specs.List.{flat_map, AllByRecursion}
use Rattle.vd_bytes.specs.declared.places.Place.{Place}
use Rattle.vd_forest.specs.Forest.{Forest, nothing}
use Rattle.vd_first_trees.specs.declared.form.Form.{Form}
use Rattle.vd_first_trees.specs.declared.form.Form.TheVariants as form
use Rattle.vd_trees.specs.declared.revision.Revision.{Revision}
use Rattle.vd_trees.specs.declared.revision.Revision.TheVariants.{V2019, V1993}
use Rattle.vd_trees.specs.Identifiers.{is_identifier}
use Rattle.vd_first_trees.specs.Validity.{Slot, one, many, some, optional, sensitivities, expressions, slots_of, file_slots, is_valid}
use Rattle.vd_first_lex.specs.declared.tokens.Kind.{Kind}
use Rattle.vd_first_lex.specs.declared.tokens.Token.{Token}
use Rattle.vd_first_grammar.specs.Symbols.{IsName, Spell}
use Rattle.vd_first_grammar.specs.Derivations.{Expression, name, brackets, inverted, conjoined, Level, primary, factor, whole, IsExpression, expression_tokens, Further, names_tokens, further_name_tokens, IsFurtherName, Port, IsMode, IsPort, port_tokens, IsFurtherPort, further_port_tokens, Sensitivity, every, listed, IsSensitivity, sensitivity_tokens, IsOptional, optional_tokens, Process, IsProcess, process_tokens, File, IsFile, file_tokens, head_symbols}
use Rattle.vd_first_lex.specs.Lexings.{KeepsText, IsPossible}
use Rattle.vd_first_grammar.specs.Shapes.{node, identifiers, expression_shape, if_out, subtype_shape, port_shape, further_ports_shape, name_nodes, sensitivity_shape, is_shape, assignment_shape, process_shape, processes_shape, optional_identifier, context_shape, entity_shape, architecture_shape, file_shape}
use Rattle.vd_first_grammar.specs.Readings.{tree, IsReading}

abbrev ArePossible : Revision → List Token → Type 0
ArePossible r ts = AllByRecursion (IsPossible r) ts

abbrev IsIdentifier : Revision → Token → Type 0
IsIdentifier r t = is_identifier r t.text ≡ true

identifier_from : (r : Revision) (t : Token) → IsName t → IsPossible r t → IsIdentifier r t
identifier_from r t is-name possible = subst (λ (k : Kind). KeepsText r k t.text) is-name possible

parts_possible : (r : Revision) (xs ys : List Token) → ArePossible r (xs ++ ys) → ArePossible r xs × ArePossible r ys
parts_possible r [] ys both = (tt, both)
parts_possible r (x ∷ xs) ys both = let rest = parts_possible r xs ys both.1 in ((both.0, rest.0), rest.1)

-- ---- names

identifiers_valid : (r : Revision) (ts : List Token) → AllByRecursion (IsIdentifier r) ts → is_valid r (many (form.Identifier ∷ []) ∷ []) (identifiers ts) ≡ true
identifiers_valid r [] all = refl
identifiers_valid r (t ∷ ts) all = rw all.0 (identifiers_valid r ts all.1)

further_identifiers : (r : Revision) (fs : List (Further Token)) → AllByRecursion IsFurtherName fs → ArePossible r (flat_map further_name_tokens fs) → AllByRecursion (IsIdentifier r) (map (λ f. f.item) fs)
further_identifiers r [] are possible = tt
further_identifiers r (f ∷ fs) are possible = (identifier_from r f.item are.0.1 possible.1.0, further_identifiers r fs are.1 possible.1.1)

-- ---- expressions

expression_valid : (r : Revision) (l : Level) (e : Expression) → IsExpression l e → ArePossible r (expression_tokens e) → (slots : List Slot) (next : Forest Form) → is_valid r (one expressions ∷ slots) (expression_shape e next) ≡ is_valid r slots next
expression_valid r l (name t) h possible slots next = rw (identifier_from r t h possible.0) refl
expression_valid r l (brackets o e c) h possible slots next = expression_valid r whole e h.1 (parts_possible r (expression_tokens e) (c ∷ []) possible.1).0 slots next
expression_valid r primary (inverted w e) h possible slots next = absurd h
expression_valid r primary (conjoined e w f) h possible slots next = absurd h
expression_valid r factor (conjoined e w f) h possible slots next = absurd h
expression_valid r factor (inverted w e) h possible slots next = rw (expression_valid r primary e h.1 possible.1 [] nothing) refl
expression_valid r whole (inverted w e) h possible slots next = rw (expression_valid r primary e h.1 possible.1 [] nothing) refl
expression_valid r whole (conjoined e w f) h possible slots next =
    let parts = parts_possible r (expression_tokens e) (w ∷ expression_tokens f) possible in
    rw (expression_valid r whole e h.0 parts.0 (one expressions ∷ []) (expression_shape f nothing), expression_valid r factor f h.2 parts.1.1 [] nothing) refl

-- ---- ports

abbrev more_ports : List Slot
more_ports = many (form.PortDeclaration ∷ []) ∷ []

mode_valid : (r : Revision) (t : Token) → IsMode t → (place : Place) (next : Forest Form) (slots : List Slot) → is_valid r (one (form.In ∷ form.Out ∷ []) ∷ slots) (node (if_out t.kind) place nothing next) ≡ is_valid r slots next
mode_valid r t (inl h) place next slots = rw h refl
mode_valid r t (inr h) place next slots = rw h refl

port_valid : (r : Revision) (p : Port) (next : Forest Form) → IsPort p → ArePossible r (port_tokens p) → is_valid r more_ports (port_shape p next) ≡ is_valid r more_ports next
port_valid r p next h possible =
    let parts = parts_possible r (names_tokens p.names) (p.colon ∷ p.mode ∷ p.subtype ∷ []) possible in
    let first = identifier_from r p.names.first h.0.0 parts.0.0 in
    let others = identifiers_valid r (map (λ f. f.item) p.names.others) (further_identifiers r p.names.others h.0.1 parts.0.1) in
    let subtype = identifier_from r p.subtype h.3.0 parts.1.1.1.0 in
    rw (first, others, mode_valid r p.mode h.2 p.mode.place (subtype_shape p.subtype nothing) (one (form.SubtypeIndication ∷ []) ∷ []), subtype) refl

further_ports_valid : (r : Revision) (fs : List (Further Port)) → AllByRecursion IsFurtherPort fs → ArePossible r (flat_map further_port_tokens fs) → is_valid r more_ports (further_ports_shape fs) ≡ true
further_ports_valid r [] are possible = refl
further_ports_valid r (f ∷ fs) are possible =
    let parts = parts_possible r (further_port_tokens f) (flat_map further_port_tokens fs) possible in
    port_valid r f.item (further_ports_shape fs) are.0.1 parts.0.1 ∙ further_ports_valid r fs are.1 parts.1

-- ---- processes

abbrev more_processes : List Slot
more_processes = many (form.ProcessStatement ∷ []) ∷ []

names_valid : (r : Revision) (ts : List Token) → AllByRecursion (IsIdentifier r) ts → is_valid r (many (form.Name ∷ []) ∷ []) (name_nodes ts) ≡ true
names_valid r [] all = refl
names_valid r (t ∷ ts) all = rw all.0 (names_valid r ts all.1)

sensitivity_valid : (r : Revision) (s : Sensitivity) → IsSensitivity r s → ArePossible r (sensitivity_tokens s) → (slots : List Slot) (next : Forest Form) → is_valid r (one (sensitivities r) ∷ slots) (sensitivity_shape s next) ≡ is_valid r slots next
sensitivity_valid V2019 (every t) h possible slots next = refl
sensitivity_valid V2019 (listed ns) h possible slots next = absurd h
sensitivity_valid V1993 (every t) h possible slots next = absurd h
sensitivity_valid V1993 (listed ns) h possible slots next =
    let first = identifier_from V1993 ns.first h.0 possible.0 in
    let others = names_valid V1993 (map (λ f. f.item) ns.others) (further_identifiers V1993 ns.others h.1 possible.1) in
    rw (first, others) refl

is_valid_at : (r : Revision) (o : Option Token) (place : Place) (slots : List Slot) (next : Forest Form) → is_valid r (one (form.Is ∷ form.Absent ∷ []) ∷ slots) (is_shape o place next) ≡ is_valid r slots next
is_valid_at r None place slots next = refl
is_valid_at r (Some t) place slots next = refl

process_valid : (r : Revision) (p : Process) (next : Forest Form) → IsProcess r p → ArePossible r (process_tokens p) → is_valid r more_processes (process_shape p next) ≡ is_valid r more_processes next
process_valid r p next h possible =
    let behind = p.closing ∷ (optional_tokens p.is_word ++ (p.begin_word ∷ p.target ∷ p.arrow ∷ (expression_tokens p.value ++ p.foot))) in
    let after_head = (parts_possible r p.head (sensitivity_tokens p.sensitivity ++ behind) possible).1 in
    let after_sensitivity = parts_possible r (sensitivity_tokens p.sensitivity) behind after_head in
    let after_is = (parts_possible r (optional_tokens p.is_word) (p.begin_word ∷ p.target ∷ p.arrow ∷ (expression_tokens p.value ++ p.foot)) after_sensitivity.1.1).1 in
    let value = (parts_possible r (expression_tokens p.value) p.foot after_is.1.1.1).0 in
    let target = identifier_from r p.target h.5 after_is.1.0 in
    let rest = is_shape p.is_word p.begin_word.place (assignment_shape p.target p.value nothing) in
    let assignments = some (form.SignalAssignment ∷ []) ∷ [] in
    let front : is_valid r (slots_of r form.ProcessStatement) (sensitivity_shape p.sensitivity rest) ≡ is_valid r assignments (assignment_shape p.target p.value nothing) =
    sensitivity_valid r p.sensitivity h.1 after_sensitivity.0 (one (form.Is ∷ form.Absent ∷ []) ∷ assignments) rest
    ∙ is_valid_at r p.is_word p.begin_word.place assignments (assignment_shape p.target p.value nothing) in
    rw (front, target, expression_valid r whole p.value h.7 value [] nothing) refl

processes_valid : (r : Revision) (ps : List Process) → AllByRecursion (IsProcess r) ps → ArePossible r (flat_map process_tokens ps) → is_valid r more_processes (processes_shape ps) ≡ true
processes_valid r [] are possible = refl
processes_valid r (p ∷ ps) are possible =
    let parts = parts_possible r (process_tokens p) (flat_map process_tokens ps) possible in
    process_valid r p (processes_shape ps) are.0 parts.0 ∙ processes_valid r ps are.1 parts.1

-- ---- the file

-- one unit's slot, behind its context clause
abbrev unit_slot : List Slot
unit_slot = one (form.EntityDeclaration ∷ form.ArchitectureBody ∷ []) ∷ []

context_valid : (r : Revision) (head : List Token) (next : Forest Form) → Spell head_symbols head → ArePossible r head → is_valid r (slots_of r form.DesignUnit) (context_shape head next) ≡ is_valid r unit_slot next
context_valid r (a ∷ b ∷ c ∷ d ∷ e ∷ f ∷ g ∷ rest) next h possible =
    let ieee = identifier_from r b h.1.0.0 possible.1.0 in
    let again = identifier_from r e h.1.1.1.1.0.0 possible.1.1.1.1.0 in
    let unit = identifier_from r g h.1.1.1.1.1.1.0.0 possible.1.1.1.1.1.1.0 in
    rw (ieee, again, unit) refl
context_valid r [] next h possible = absurd h
context_valid r (a ∷ []) next h possible = absurd h.1
context_valid r (a ∷ b ∷ []) next h possible = absurd h.1.1
context_valid r (a ∷ b ∷ c ∷ []) next h possible = absurd h.1.1.1
context_valid r (a ∷ b ∷ c ∷ d ∷ []) next h possible = absurd h.1.1.1.1
context_valid r (a ∷ b ∷ c ∷ d ∷ e ∷ []) next h possible = absurd h.1.1.1.1.1
context_valid r (a ∷ b ∷ c ∷ d ∷ e ∷ f ∷ []) next h possible = absurd h.1.1.1.1.1.1

-- a closing name stands alone
closing_valid : (r : Revision) (o : Option Token) → IsOptional r IsName o → ArePossible r (optional_tokens o) → is_valid r (optional (form.Identifier ∷ []) ∷ []) (optional_identifier o) ≡ true
closing_valid r None h possible = refl
closing_valid V2019 (Some t) h possible = absurd h
closing_valid V1993 (Some t) h possible = rw (identifier_from V1993 t h possible.0) refl

entity_valid : (r : Revision) (f : File) → IsIdentifier r f.entity → is_valid r (optional (form.Identifier ∷ []) ∷ []) (optional_identifier f.entity_closing) ≡ true → is_valid r more_ports (port_shape f.first_port (further_ports_shape f.other_ports)) ≡ true → is_valid r unit_slot (entity_shape f) ≡ true
entity_valid r f entity closing ports = rw (entity, closing) (rw ports refl)

architecture_valid : (r : Revision) (f : File) → IsIdentifier r f.architecture → IsIdentifier r f.of_entity → is_valid r (optional (form.Identifier ∷ []) ∷ []) (optional_identifier f.architecture_closing) ≡ true → is_valid r more_processes (processes_shape f.processes) ≡ true → is_valid r unit_slot (architecture_shape f) ≡ true
architecture_valid r f architecture of_entity closing processes = rw (architecture, of_entity, closing) (rw processes refl)

two_units : (r : Revision) (f : File) → is_valid r (slots_of r form.DesignUnit) (context_shape f.head (entity_shape f)) ≡ true → is_valid r unit_slot (architecture_shape f) ≡ true → is_valid r file_slots (file_shape f) ≡ true
two_units r f first second =
    let both : is_valid r file_slots (file_shape f) ≡ is_valid r (slots_of r form.DesignUnit) (context_shape f.head (entity_shape f)) && (is_valid r unit_slot (architecture_shape f) && true) = refl in
    both ∙ rw (first, second) refl

pub file_valid : (r : Revision) (f : File) → IsFile r f → ArePossible r (file_tokens f) → is_valid r file_slots (file_shape f) ≡ true
file_valid r f h possible =
    let r11 = optional_tokens f.architecture_closing ++ f.last in
    let r10 = f.foot ++ r11 in
    let r9 = flat_map process_tokens f.processes ++ r10 in
    let r7 = f.architecture ∷ f.of_word ∷ f.of_entity ∷ (f.body_head ++ r9) in
    let r6 = f.architecture_head ++ r7 in
    let r5 = optional_tokens f.entity_closing ++ r6 in
    let r4 = f.ports_foot ++ r5 in
    let r3 = flat_map further_port_tokens f.other_ports ++ r4 in
    let r2 = port_tokens f.first_port ++ r3 in
    let p1 = parts_possible r f.head (f.entity ∷ (f.ports_head ++ r2)) possible in
    let p2 = parts_possible r f.ports_head r2 p1.1.1 in
    let p3 = parts_possible r (port_tokens f.first_port) r3 p2.1 in
    let p4 = parts_possible r (flat_map further_port_tokens f.other_ports) r4 p3.1 in
    let p5 = parts_possible r f.ports_foot r5 p4.1 in
    let p6 = parts_possible r (optional_tokens f.entity_closing) r6 p5.1 in
    let p7 = parts_possible r f.architecture_head r7 p6.1 in
    let p8 = parts_possible r f.body_head r9 p7.1.1.1.1 in
    let p9 = parts_possible r (flat_map process_tokens f.processes) r10 p8.1 in
    let p10 = parts_possible r f.foot r11 p9.1 in
    let p11 = parts_possible r (optional_tokens f.architecture_closing) f.last p10.1 in
    let entity = identifier_from r f.entity h.entity p1.1.0 in
    let first = port_valid r f.first_port (further_ports_shape f.other_ports) h.first_port p3.0 in
    let others = further_ports_valid r f.other_ports h.other_ports p4.0 in
    let architecture = identifier_from r f.architecture h.architecture p7.1.0 in
    let of_entity = identifier_from r f.of_entity h.of_entity p7.1.1.1.0 in
    let processes = processes_valid r f.processes h.processes p9.0 in
    let ports : is_valid r more_ports (port_shape f.first_port (further_ports_shape f.other_ports)) ≡ true = first ∙ others in
    let entity_part = entity_valid r f entity (closing_valid r f.entity_closing h.entity_closing p6.0) ports in
    let architecture_part = architecture_valid r f architecture of_entity (closing_valid r f.architecture_closing h.architecture_closing p11.0) processes in
    let units : is_valid r (slots_of r form.DesignUnit) (context_shape f.head (entity_shape f)) ≡ true = context_valid r f.head (entity_shape f) h.head p1.0 ∙ entity_part in
    two_units r f units architecture_part

-- a tree that is read of possible tokens is valid
pub reading_valid : (r : Revision) (ts : List Token) (t : Forest Form) → ArePossible r ts → IsReading r ts (tree t) → is_valid r file_slots t ≡ true
reading_valid r ts t possible read = rw read.2 (file_valid r read.0 read.1.is_file (subst (ArePossible r) (sym read.1.tokens) possible))
