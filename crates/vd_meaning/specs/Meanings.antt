-- What a node of a resolved tree means, by its kind, from the meanings of its parts; and the meanings of trees, from the leaves on.
use Rattle.std.specs.Prelude.{ℕ, Bool, true, false, List, [], ◌∷◌, ◌++◌, map, option_to_list, Option, Some, None, Ok, if◌then◌else◌}
use Rattle.vd_bytes.specs.declared.places.Place.{Place}
use Rattle.vd_forest.specs.Forest.{Forest}
use Rattle.vd_rewriting.specs.Folding.{folded}
use Rattle.vd_kernel.specs.declared.assignments.Delay.TheVariants.{Transport}
use Rattle.vd_composites.specs.declared.ranges.Bounds.{Bounds}
use Rattle.vd_composites.specs.Stops.{◌>>=◌}
use Rattle.vd_composites.specs.Composites.{Value, One}
use Rattle.vd_values.specs.declared.scalar.Scalar.{Scalar}
use Rattle.vd_values.specs.declared.scalar.Scalar.TheVariants.{Literal}
use Rattle.vd_composites.specs.Subtypes.{constrained}
use Rattle.vd_resolved.specs.declared.node.Resolved.{Resolved}
use Rattle.vd_environments.specs.Got.{Got, got, all_got}
use Rattle.vd_environments.specs.Environments.{Signals, always, both, all_bounds, GenericActual, Env, or_senseless}
use Rattle.vd_environments.specs.Commands.{Jump, Exit, Next, Command, Skip, Choose, Each, While, Leave, in_order}
use Rattle.vd_environments.specs.Processes.{Process}
use Rattle.vd_meaning.specs.Tables.{Table, followed}
use Rattle.vd_meaning.specs.Operators.{function_of, marked}
use Rattle.vd_meaning.specs.Literals.{number, integer, physical, string}
use Rattle.vd_meaning.specs.Names.{Named, literal_known, first_piece, stepped, to_field, attributed, attribute_named, RangeOf, call_known, name_bounds, number_or, name_read, and_read, position_in, unless_stopped}
use Rattle.vd_meaning.specs.Tables.{Role, ElementRole, role_of, copies_in}
use Rattle.vd_meaning.specs.Facets.{Meaning, no_meaning, nth, last_of, from, flattened, reads_of, targets_of, known_of, settled_of, value_of, arguments, of_node, expression, commanding, Association, ByChoices, ForOthers, Choice, FormalConstants, FormalType, FormalFunction, MapElement, Body}
use Rattle.vd_meaning.specs.Brackets.{choice_of, choices_known, or_else, arguments_piece, qualification_piece, bracketed_value, bracketed_known}
use Rattle.vd_meaning.specs.Statements.{truth_of, setting, driving, giving, report, assertion, time_in, any_covers, alternatives, comparison, selecting, waiting_for, values_of_range}
use Rattle.vd_meaning.specs.Declarations.{indication, enumeration, array_type, record_type, all_fields, fields_named, new_type, new_constants, new_variables, settled_constants, settled_variables, new_objects, parameters_for}
use Rattle.vd_meaning.specs.Generics.{actuals_of, function_command, new_instance}
use Rattle.vd_meaning.specs.Kinds

-- ---- what a node makes: the declaration that it carries, or that of the identifier in it

abbrev pub made : Resolved → Meaning → Option ℕ
made n identifier = or_else n.declaration identifier.declaration

-- ---- literals

abbrev pub string_value : Resolved → List ℕ → Env → Got (Value Scalar)
string_value n text e = marked n.mark e >>= λ s. string s (e.denotes (number_or n.mark)).make text

-- ---- names

abbrev pub named_by : Named → List Meaning → Named
named_by p [] = p
named_by p (m ∷ ms) = named_by (m.piece p) ms

abbrev pub whole_name : Resolved → List ℕ → Named → Meaning
whole_name n text p =
    record (expression n text [] (λ _. p.value) p.known) {
      reads = name_read p;
      range = p.range;
      name = p;
    }

-- a selected name is a record element of what is in front of it, or a declaration
abbrev pub selection_piece : Role → Table → Resolved → Named → Named
selection_piece ElementRole t n p = stepped (to_field n.position) n.mark p
selection_piece _ t n p = first_piece t n

abbrev pub piece_of : Resolved → List ℕ → List Meaning → (Named → Named) → Meaning
piece_of n text ms piece = record (of_node n text ms) { piece = piece }

-- ---- operators

abbrev pub operator : Table → ℕ → Resolved → List ℕ → List Meaning → Meaning
operator t d n text ms =
    expression n text ms (λ _ e. function_of t d e (arguments ms e))
    (λ e. unless_stopped (function_of t d e (arguments ms e)) (call_known t d (known_of ms e) e))

-- ---- ranges

abbrev pub limits : Bool → Meaning → Meaning → Env → Got Bounds
limits down l r e = value_of l e >>= position_in >>= λ i. value_of r e >>= position_in >>= λ j. Ok (record { left = i; right = j; down = down })

-- a range of a mark, within its subtype
abbrev pub limits_of_mark : Meaning → Meaning → Env → Got Bounds
limits_of_mark m limits e =
    m.name.subtype e >>= λ s. or_senseless limits.range >>= λ range. range e >>= λ b. got (constrained s b) >>= λ narrower. Ok b

abbrev pub ranging : Resolved → List ℕ → List Meaning → (Env → Got Bounds) → Meaning
ranging n text ms range = record (of_node n text ms) { range = Some range; known = λ e. unless_stopped (range e) (known_of ms e) }

-- ---- assignments: a target is driven, and what is in its indexes is read

abbrev pub target_read : Meaning → Env → Got (List Signals)
target_read m = m.name.inner

abbrev pub target_of : Meaning → Env → Got (List Signals)
target_of m = λ e. or_senseless m.name.prefix >>= λ prefix. prefix e >>= λ s. Ok (s ∷ [])

-- a process without declarations
abbrev pub process_of : Command → Option (Env → Got (List Signals)) → (Env → Got (List Signals)) → Process
process_of statements sensitivity targets =
    record { declarations = []; settling = λ e. e; statements = statements; sensitivity = sensitivity; targets = targets }

-- and one with declarations
abbrev pub whole_process : Meaning → Command → Option (Env → Got (List Signals)) → (Env → Got (List Signals)) → Process
whole_process declarations statements sensitivity targets =
    record (process_of statements sensitivity targets) { declarations = declarations.declarations; settling = declarations.settling }

-- An assignment of a signal, which as a concurrent statement stands for a process that is sensitive to all that it reads.
abbrev pub assigning : Resolved → Command → (Env → Got (List Signals)) → (Env → Got (List Signals)) → Meaning
assigning n c reads targets =
    record (of_node n [] []) { command = λ _. c; reads = reads; targets = targets; processes = process_of c (Some reads) targets ∷ [] }

-- ---- conditions

abbrev pub where_present : Meaning → Command → Command
where_present m c = if m.is_present then Choose (truth_of m) c Skip else c

abbrev pub jump_of : Bool → Option ℕ → Jump
jump_of true loop = Exit loop
jump_of false loop = Next loop

-- the branches one after the other, and then something else
abbrev pub branches : List Meaning → Command → Command
branches [] c = c
branches (m ∷ ms) c = m.otherwise (branches ms c)

-- the signals of a list of names
abbrev pub listed_signals : List Meaning → Env → Got (List Signals)
listed_signals ms e = all_got (map (λ m. m.name.signals e) ms)

-- ---- functions

abbrev pub mark_subtype : Option ℕ → Env → Rattle.vd_composites.specs.Subtypes.Subtype
mark_subtype d e = (e.denotes (number_or d)).subtype

abbrev pub body_of : Resolved → List Meaning → Body
body_of n ms =
    record {
      function = number_or (made n (nth 1 ms));
      generics = (nth 2 ms).formals;
      parameters = (nth 4 ms).parameters;
      result = mark_subtype (nth 5 ms).declaration;
      statements = in_order ((nth 6 ms).declarations ++ (nth 7 ms).command None ∷ []);
    }

-- ---- instances

-- in front of `=>` a generic is named
abbrev pub formal_named : Association → List Choice → Option ℕ
formal_named ByChoices (c ∷ cs) = c.named
formal_named _ cs = None

abbrev pub map_element : Meaning → MapElement
map_element m = record { formal = formal_named m.association m.choices; is_open = m.is_open; value = m.value; known = m.known }

abbrev pub actuals_between : Table → (generic instance : ℕ) → List MapElement → Env → List GenericActual
actuals_between t generic instance xs = actuals_of t 0 (t.declared generic).generics (t.declared instance).generics xs

-- ---- the meaning of a node

abbrev pub meaning_of : Kinds.Kind → Table → Resolved → List ℕ → List Meaning → Meaning
meaning_of Kinds.NotThere t n text ms = no_meaning
meaning_of Kinds.Parts t n text ms = of_node n text ms
-- leaves and literals
meaning_of Kinds.Word t n text ms = record (of_node n text ms) { name = first_piece t n; texts = text ∷ []; numbers = option_to_list n.declaration }
meaning_of Kinds.CharacterLiteral t n text ms =
    record (expression n text ms (λ _ _. Ok (One (Literal n.position))) (literal_known n.mark)) { texts = (39 ∷ (text ++ 39 ∷ [])) ∷ [] }
meaning_of Kinds.StringLiteral t n text ms =
    record (expression n text ms (λ _. string_value n text) (λ e. unless_stopped (string_value n text e) (all_bounds (e.denotes (number_or n.mark)).make)))
    { name = first_piece t n }
meaning_of Kinds.NumberLiteral t n text ms = expression n text ms (λ _ _. Ok (integer (number text))) (λ _. always)
meaning_of Kinds.TimeLiteral t n text ms = expression n text ms (λ _ _. physical (nth 0 ms).text (nth 1 ms).text) (λ _. unless_stopped (physical (nth 0 ms).text (nth 1 ms).text) always)
-- names and their pieces
meaning_of Kinds.WholeName t n text ms = whole_name n text (named_by (nth 0 ms).name (from 1 ms))
meaning_of Kinds.SelectionPiece t n text ms = piece_of n text ms (selection_piece (role_of t n.declaration) t n)
meaning_of Kinds.ArgumentsPiece t n text ms = piece_of n text ms (arguments_piece t n ms)
meaning_of Kinds.AttributePiece t n text ms = piece_of n text ms (attributed (attribute_named (nth 0 ms).text) n.mark)
meaning_of Kinds.RangePiece t n text ms = piece_of n text ms (attributed (RangeOf false) n.mark)
meaning_of Kinds.QualificationPiece t n text ms = piece_of n text ms (qualification_piece t n ms)
-- other expressions
meaning_of Kinds.Operator t n text ms = operator t (followed t (number_or n.declaration)) n text ms
meaning_of Kinds.Brackets t n text ms = expression n text ms (bracketed_value n.mark ms) (bracketed_known ms)
-- elements in brackets, and choices
meaning_of Kinds.Associated t n text ms =
    record (nth 1 ms) { association = ByChoices; choices = (nth 0 ms).choices; known = known_of ms; reads = reads_of ms }
meaning_of Kinds.AssociatedOthers t n text ms = record (nth 0 ms) { association = ForOthers }
meaning_of Kinds.ChoiceList t n text ms = record (of_node n text ms) { choices = map choice_of ms; known = choices_known ms; covers = any_covers ms }
meaning_of Kinds.AnyChoice t n text ms = record (of_node n text ms) { covers = λ _ _ _. Ok true }
meaning_of Kinds.OpenActual t n text ms = record (of_node n text ms) { is_open = true }
-- ranges and subtypes
meaning_of (Kinds.Limits down) t n text ms = ranging n text ms (limits down (nth 0 ms) (nth 1 ms))
meaning_of Kinds.LimitsOfMark t n text ms =
    record (ranging n text (from 1 ms) (limits_of_mark (nth 0 ms) (nth 1 ms)))
    { known = λ e. unless_stopped (limits_of_mark (nth 0 ms) (nth 1 ms) e) (both (name_bounds (nth 0 ms).name e) ((nth 1 ms).known e)) }
meaning_of Kinds.OpenIndex t n text ms = record (nth 0 ms) { is_open = true }
meaning_of Kinds.MarkName t n text ms = record (of_node n text ms) { declaration = or_else n.declaration (last_of ms).declaration }
meaning_of Kinds.Indication t n text ms = record (of_node n text ms) { indicated = indication (nth 0 ms).declaration (nth 1 ms) }
meaning_of Kinds.Constraint t n text ms = record (of_node n text ms) { range = (nth 0 ms).range; known = (nth 0 ms).known }
-- types
meaning_of Kinds.Literals t n text ms = record (of_node n text ms) { indicated = λ _. Ok (enumeration (flattened (λ m. m.texts) ms)) }
meaning_of Kinds.ArrayDefinition t n text ms = record (of_node n text ms) { indicated = array_type (nth 0 ms) (nth 1 ms) }
meaning_of Kinds.RecordDefinition t n text ms = record (of_node n text ms) { indicated = λ e. (nth 0 ms).fields e >>= λ is. Ok (record_type is) }
meaning_of Kinds.RecordParts t n text ms = record (of_node n text ms) { fields = all_fields ms }
meaning_of Kinds.RecordPart t n text ms = record (of_node n text ms) { fields = λ e. (nth 1 ms).indicated e >>= λ i. Ok (fields_named (nth 0 ms).texts i) }
-- declarations
meaning_of Kinds.Identifiers t n text ms = record (of_node n text ms) { texts = flattened (λ m. m.texts) ms; numbers = flattened (λ m. m.numbers) ms }
meaning_of Kinds.NewType t n text ms = commanding n ms (new_type (number_or (made n (nth 0 ms))) (nth 1 ms).indicated)
meaning_of Kinds.NewSubtype t n text ms = commanding n ms (new_type (number_or (made n (nth 0 ms))) (nth 1 ms).indicated)
meaning_of Kinds.NewConstants t n text ms =
    record (commanding n ms (new_constants (nth 0 ms).numbers (nth 1 ms) (nth 2 ms))) { settling = settled_constants (nth 0 ms).numbers (nth 1 ms) (nth 2 ms) }
meaning_of Kinds.NewVariables t n text ms =
    record (commanding n ms (new_variables (nth 0 ms).numbers (nth 1 ms) (nth 2 ms))) { settling = settled_variables (nth 0 ms).numbers (nth 1 ms) (nth 2 ms) }
meaning_of Kinds.NewSignals t n text ms = record (of_node n text ms) { objects = new_objects (nth 0 ms).numbers (nth 1 ms) (nth 2 ms) ∷ [] }
meaning_of Kinds.NewPorts t n text ms = record (of_node n text ms) { objects = new_objects (nth 1 ms).numbers (nth 3 ms) (nth 4 ms) ∷ [] }
meaning_of Kinds.Interfaces t n text ms =
    record (of_node n text ms) { objects = flattened (λ m. m.objects) ms; parameters = flattened (λ m. m.parameters) ms; formals = flattened (λ m. m.formals) ms }
meaning_of Kinds.Parameters t n text ms = record (of_node n text ms) { parameters = parameters_for (nth 1 ms).numbers (nth 3 ms) }
meaning_of Kinds.NewFunction t n text ms =
    commanding n ms (function_command (nth 2 ms).is_present (body_of n ms))
meaning_of Kinds.Declarations t n text ms =
    record (of_node n text ms) { declarations = map (λ m. m.command None) ms; settling = settled_of ms; objects = flattened (λ m. m.objects) ms }
-- generics and instances
meaning_of Kinds.NewGenerics t n text ms =
    record (of_node n text ms) {
      objects = new_objects (nth 1 ms).numbers (nth 3 ms) (nth 4 ms) ∷ [];
      formals = FormalConstants (new_objects (nth 1 ms).numbers (nth 3 ms) (nth 4 ms)) ∷ [];
    }
meaning_of Kinds.NewGenericType t n text ms = record (of_node n text ms) { formals = FormalType (number_or (made n (nth 0 ms))) ∷ [] }
meaning_of Kinds.NewGenericFunction t n text ms = record (of_node n text ms) { formals = FormalFunction (number_or (made n (nth 1 ms))) ∷ [] }
meaning_of Kinds.GenericActuals t n text ms = record (of_node n text ms) { elements = map map_element ms }
meaning_of Kinds.NewInstance t n text ms =
    commanding n ms (new_instance (number_or (nth 2 ms).declaration) (number_or (made n (nth 1 ms)))
    (actuals_between t (number_or (nth 2 ms).declaration) (number_or (made n (nth 1 ms))) (nth 3 ms).elements))
meaning_of Kinds.NewPackageInstance t n text ms =
    record (of_node n text ms) {
      actuals = actuals_between t (number_or (nth 1 ms).declaration) (number_or (made n (nth 0 ms))) (nth 2 ms).elements;
      copies = copies_in t (number_or (nth 1 ms).declaration) (number_or (made n (nth 0 ms)));
    }
-- waveforms, and values with conditions
meaning_of Kinds.Transported t n text ms = record (of_node n text ms) { mode = Transport }
meaning_of Kinds.Delayed t n text ms =
    record (of_node n text ms) { chosen = λ act. act (record { value = (nth 0 ms).value; delay = λ e. value_of (nth 1 ms) e >>= time_in }) }
meaning_of Kinds.NoWaveform t n text ms = of_node n text ms
meaning_of Kinds.Conditional t n text ms =
    record (of_node n text ms) { chosen = λ act. Choose (truth_of (nth 1 ms)) ((nth 0 ms).chosen act) ((nth 2 ms).chosen act) }
meaning_of Kinds.Guarded t n text ms =
    record (of_node n text ms) { chosen = λ act. Choose (truth_of (nth 1 ms)) ((nth 0 ms).chosen act) Skip }
-- sequential statements
meaning_of Kinds.Sequence t n text ms = commanding n ms (in_order (map (λ m. m.command None) ms))
meaning_of Kinds.Labelled t n text ms = commanding n ms ((nth 1 ms).command (made n (nth 0 ms)))
meaning_of Kinds.AssignSignal t n text ms =
    assigning n ((nth 2 ms).chosen (driving (nth 0 ms).name (nth 1 ms).mode)) (λ e. and_read (target_read (nth 0 ms) e) ((nth 2 ms).reads e)) (target_of (nth 0 ms))
meaning_of Kinds.AssignVariable t n text ms =
    record (commanding n ms ((nth 1 ms).chosen (setting (nth 0 ms).name))) { reads = λ e. and_read (target_read (nth 0 ms) e) ((nth 1 ms).reads e) }
meaning_of Kinds.SelectSignal t n text ms =
    assigning n (selecting (comparison t (nth 1 ms).is_present (nth 0 ms)) (value_of (nth 0 ms)) (alternatives (λ m. m.chosen (driving (nth 2 ms).name (nth 3 ms).mode)) (from 4 ms)))
    (λ e. and_read ((nth 0 ms).reads e) (and_read (target_read (nth 2 ms) e) (reads_of (from 4 ms) e))) (target_of (nth 2 ms))
meaning_of Kinds.SelectVariable t n text ms =
    record (commanding n ms (selecting (comparison t (nth 1 ms).is_present (nth 0 ms)) (value_of (nth 0 ms)) (alternatives (λ m. m.chosen (setting (nth 2 ms).name)) (from 3 ms))))
    { reads = λ e. and_read ((nth 0 ms).reads e) (and_read (target_read (nth 2 ms) e) (reads_of (from 3 ms) e)) }
meaning_of Kinds.If t n text ms =
    commanding n ms (Choose (truth_of (nth 0 ms)) ((nth 1 ms).command None) ((nth 2 ms).otherwise ((nth 3 ms).command None)))
meaning_of Kinds.Branches t n text ms = record (of_node n text ms) { otherwise = λ c. branches ms c }
meaning_of Kinds.Branch t n text ms = record (of_node n text ms) { otherwise = λ c. Choose (truth_of (nth 0 ms)) ((nth 1 ms).command None) c }
meaning_of Kinds.Case t n text ms =
    commanding n ms (selecting (comparison t (nth 0 ms).is_present (nth 1 ms)) (value_of (nth 1 ms)) (nth 2 ms).cases)
meaning_of Kinds.Alternatives t n text ms = record (of_node n text ms) { cases = alternatives (λ m. m.command None) ms }
meaning_of Kinds.Alternative t n text ms = record (of_node n text ms) { covers = (nth 0 ms).covers; command = λ _. (nth 1 ms).command None }
meaning_of Kinds.SelectedAlternative t n text ms = record (of_node n text ms) { covers = (nth 1 ms).covers; chosen = (nth 0 ms).chosen }
meaning_of Kinds.For t n text ms =
    record (of_node n text ms) { command = λ label. Each label (number_or (made n (nth 0 ms))) (values_of_range (nth 1 ms)) ((nth 2 ms).command None) }
meaning_of Kinds.WhileTrue t n text ms = record (of_node n text ms) { command = λ label. While label (truth_of (nth 0 ms)) ((nth 1 ms).command None) }
meaning_of Kinds.Endless t n text ms = record (of_node n text ms) { command = λ label. While label (λ _. Ok true) ((nth 0 ms).command None) }
meaning_of Kinds.Suspend t n text ms = commanding n ms (waiting_for (nth 0 ms) (nth 1 ms) (nth 2 ms))
meaning_of Kinds.Listed t n text ms =
    record (of_node n text ms) { reads = listed_signals ms; listening = λ _. Some (listed_signals ms) }
meaning_of Kinds.Asserting t n text ms =
    record (commanding n ms (assertion (nth 0 ms) (nth 1 ms) (nth 2 ms))) { processes = process_of (assertion (nth 0 ms) (nth 1 ms) (nth 2 ms)) (Some (reads_of ms)) (λ _. Ok []) ∷ [] }
meaning_of Kinds.Reporting t n text ms = commanding n ms (report (nth 0 ms) (nth 1 ms))
meaning_of Kinds.Giving t n text ms = commanding n ms ((nth 0 ms).chosen giving)
meaning_of (Kinds.Jumping out) t n text ms = commanding n ms (where_present (nth 1 ms) (Leave (λ _. Ok (jump_of out (nth 0 ms).declaration))))
-- concurrent statements
meaning_of Kinds.Everything t n text ms = record (of_node n text ms) { listening = λ reads. Some reads }
meaning_of Kinds.AssignConcurrently t n text ms =
    assigning n ((nth 2 ms).chosen (driving (nth 0 ms).name (nth 1 ms).mode)) (λ e. and_read (target_read (nth 0 ms) e) ((nth 2 ms).reads e)) (target_of (nth 0 ms))
meaning_of Kinds.OneProcess t n text ms =
    record (of_node n text ms) { processes = whole_process (nth 2 ms) ((nth 3 ms).command None) ((nth 0 ms).listening (reads_of (from 2 ms))) (targets_of (from 2 ms)) ∷ [] }
meaning_of Kinds.Concurrent t n text ms = record (of_node n text ms) { processes = flattened (λ m. m.processes) ms }

abbrev pub node_meaning : Table → Resolved → List ℕ → Place → List Meaning → Meaning
node_meaning t n text place ms = meaning_of (Kinds.kind n.form) t n text ms

-- the meanings of the trees of a forest
abbrev pub meanings : Table → Forest Resolved → List Meaning
meanings t f = folded (node_meaning t) f
