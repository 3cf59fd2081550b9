-- The congruence: a node of any kind means the same with other numbers, where its parts do.
use Rattle.std.proofs.Common.{◌≡◌, ℕ, true, false, List, Option, Some, None, map, refl, sym, ◌∙◌, subst}
use Rattle.std.specs.Prelude.{Ok}
use Rattle.std.specs.List.{AllZip}
use Rattle.vd_values.specs.declared.scalar.Scalar.{Scalar}
use Rattle.vd_forest.specs.Forest.{Forest, nothing, more}
use Rattle.vd_rewriting.specs.Forms.{with_forms}
use Rattle.vd_composites.specs.Stops.{◌>>=◌}
use Rattle.vd_composites.specs.Composites.{Value}
use Rattle.vd_resolved.specs.declared.node.Resolved.{Resolved}
use Rattle.vd_environments.specs.Got.{Got}
use Rattle.vd_environments.specs.Environments.{always, both, all_bounds, Env, unknown}
use Rattle.vd_environments.specs.Commands.{Command, Each}
use Rattle.vd_meaning.specs.Tables.{Table, Role, ConstantRole, VariableRole, SignalRole, LiteralRole, FunctionRole, MarkRole, ElementRole, NoRole, role_of, followed, copies_in}
use Rattle.vd_meaning.specs.Operators.{function_of, marked}
use Rattle.vd_meaning.specs.Literals.{physical, string}
use Rattle.vd_meaning.specs.Names.{Named, call_known, number_or, unless_stopped, to_field, attributed, attribute_named, RangeOf, and_read}
use Rattle.vd_meaning.specs.Facets.{Meaning, nth, from, flattened, reads_of, known_of, value_of, arguments, Waveform, Comparison, MapElement}
use Rattle.vd_meaning.specs.Statements.{truth_of, setting, driving, time_in, alternatives, comparison, selecting, values_of_range}
use Rattle.vd_meaning.specs.Declarations.{indication, enumeration, record_type, fields_named, new_type, new_objects}
use Rattle.vd_meaning.specs.Generics.{new_instance}
use Rattle.vd_meaning.specs.Meanings.{made, selection_piece, operator, target_read, actuals_between, meaning_of, meanings}
use Rattle.vd_meaning.specs.Kinds
use Rattle.vd_meaning_laws.specs.Agreement.{Link, IsApart, through, Alike, number_in, AlikeCommands}
use Rattle.vd_meaning_laws.specs.Renumbering.{SameTable, AlikeName, AlikeStepping, AlikeWaveform, AlikeObjects, AlikeMeaning, renumbered, pair_in, TreesAlike}
use Rattle.vd_meaning_laws.proofs.Agreeing.{skips_alike, choices_alike, loops_alike, whiles_alike}
use Rattle.vd_meaning_laws.proofs.Naming.{first_piece_alike, number_or_same, literal_known_same, function_same, calls_known_same}
use Rattle.vd_meaning_laws.proofs.Stepping.{stepped_alike, attributed_alike, name_bounds_alike}
use Rattle.vd_meaning_laws.proofs.Parts.{nth_alike, from_alike, none_alike, known_alike, reads_alike, targets_alike, choices_known_alike}
use Rattle.vd_meaning_laws.proofs.Parts.{choices_alike as choice_list_alike}
use Rattle.vd_meaning_laws.proofs.Instancing.{map_elements_alike, between_alike, functions_alike, instance_alike}
use Rattle.vd_meaning_laws.proofs.Instancing.{copies_same as copies_of_same}
use Rattle.vd_meaning_laws.proofs.Aggregating.{bracketed_same, bracketed_known_alike}
use Rattle.vd_meaning_laws.proofs.Bracketing.{arguments_piece_alike, qualification_alike}
use Rattle.vd_meaning_laws.proofs.Doing.{truths_alike, giving_alike, report_alike, assertion_alike, any_covers_alike, alternatives_alike, selecting_alike, waiting_alike, values_alike, comparison_same}
use Rattle.vd_meaning_laws.proofs.Declaring.{indication_alike, array_alike, all_fields_alike, type_alike, constants_alike, variables_alike, settled_constants_alike, settled_variables_alike, objects_alike, parameters_alike}
use Rattle.vd_meaning_laws.proofs.Facing
use Rattle.vd_meaning_laws.proofs.Nodes

module _ (l : Link) (numbers : IsApart l) (t t' : Table) (tables : SameTable l t t') where
  abbrev Same : Kinds.Kind → Resolved → List ℕ → List Meaning → List Meaning → Type 0
  Same k n text ms ns = AlikeMeaning l (meaning_of k t n text ms) (meaning_of k t' (renumbered l n) text ns)

  -- ---- pieces and expressions

  to_alike : (position : ℕ) → AlikeStepping l (to_field position) (to_field position)
  to_alike position = record { to = λ e k. refl; known = λ e k. refl; inner = λ e k. refl; subtype = λ e k. refl; make = λ e k. refl; local_slices = λ e k. refl; shape = λ e k. refl }

  selection_alike : (r : Role) (n : Resolved) (p q : Named) → AlikeName l p q → AlikeName l (selection_piece r t n p) (selection_piece r t' (renumbered l n) q)
  selection_alike ElementRole n p q a = stepped_alike l numbers (to_field n.position) (to_field n.position) (to_alike n.position) p q a n.mark
  selection_alike ConstantRole n p q a = first_piece_alike l numbers t t' tables n
  selection_alike VariableRole n p q a = first_piece_alike l numbers t t' tables n
  selection_alike SignalRole n p q a = first_piece_alike l numbers t t' tables n
  selection_alike LiteralRole n p q a = first_piece_alike l numbers t t' tables n
  selection_alike FunctionRole n p q a = first_piece_alike l numbers t t' tables n
  selection_alike MarkRole n p q a = first_piece_alike l numbers t t' tables n
  selection_alike NoRole n p q a = first_piece_alike l numbers t t' tables n

  selected_alike : (n : Resolved) (p q : Named) → AlikeName l p q
      → AlikeName l (selection_piece (role_of t n.declaration) t n p) (selection_piece (role_of t' (number_in l n.declaration)) t' (renumbered l n) q)
  selected_alike n p q a =
      subst (λ r. AlikeName l (selection_piece (role_of t n.declaration) t n p) (selection_piece r t' (renumbered l n) q)) (sym (tables.role n.declaration))
      (selection_alike (role_of t n.declaration) n p q a)

  string_same : (m : Option ℕ) (text : List ℕ) (e : Env)
      → (marked (number_in l m) e >>= λ s. string s (e.denotes (number_or (number_in l m))).make text) ≡ (marked m (through l e) >>= λ s. string s (e.denotes (l.number (number_or m))).make text)
  string_same None text e = refl
  string_same (Some d) text e = refl

  string_known_same : (m : Option ℕ) (e : Env) → all_bounds (e.denotes (number_or (number_in l m))).make ≡ all_bounds (e.denotes (l.number (number_or m))).make
  string_known_same None e = λ i. all_bounds (e.denotes (sym numbers.first i)).make
  string_known_same (Some d) e = refl

  module _ (ms ns : List Meaning) (h : AllZip (AlikeMeaning l) ms ns) where
    part : (k : ℕ) → AlikeMeaning l (nth k ms) (nth k ns)
    part k = nth_alike l numbers k ms ns h

    parts_from : (k : ℕ) → AllZip (AlikeMeaning l) (from k ms) (from k ns)
    parts_from k = from_alike l numbers k ms ns h

    named_same : (n : Resolved) → followed t' (number_or (number_in l n.declaration)) ≡ l.number (followed t (number_or n.declaration))
    named_same n = (λ i. followed t' (number_or_same l numbers t t' tables n.declaration i)) ∙ tables.followed (number_or n.declaration)

    abbrev applied : Table → ℕ → List Meaning → Env → Got (Value Scalar)
    applied t d ms e = function_of t d e (arguments ms e)

    applied_alike : (d : ℕ) → Alike l (applied t d ms) (applied t' (l.number d) ns)
    applied_alike d e k = λ i. function_same l numbers t t' tables d e i (Nodes.arguments_alike l numbers ms ns h e k i)

    applied_known : (d : ℕ) → Alike l (λ e. unless_stopped (applied t d ms e) (call_known t d (known_of ms e) e)) (λ e. unless_stopped (applied t' (l.number d) ns e) (call_known t' (l.number d) (known_of ns e) e))
    applied_known d e k = λ i. unless_stopped (applied_alike d e k i) (both (calls_known_same l numbers t t' tables d e i) (known_alike l numbers ms ns h e k i))

    operator_alike : (d : ℕ) (n : Resolved) (text : List ℕ) → AlikeMeaning l (operator t d n text ms) (operator t' (l.number d) (renumbered l n) text ns)
    operator_alike d n text = Nodes.expression_alike l numbers n text ms ns h _ _ _ _ (λ known. applied_alike d) (applied_known d)

    -- ---- statements

    chosen_alike : (k : ℕ) (act act' : Waveform → Command) → ((w x : Waveform) → AlikeWaveform l w x → AlikeCommands l (act w) (act' x)) → AlikeCommands l ((nth k ms).chosen act) ((nth k ns).chosen act')
    chosen_alike k act act' same = (part k).chosen act act' same

    drives : (j k : ℕ) (w x : Waveform) → AlikeWaveform l w x → AlikeCommands l (driving (nth j ms).name (nth k ms).mode w) (driving (nth j ns).name (nth k ns).mode x)
    drives j k w x a = Nodes.drives_alike l numbers _ _ _ _ (part j) (part k) w x a

    sets : (j : ℕ) (w x : Waveform) → AlikeWaveform l w x → AlikeCommands l (setting (nth j ms).name w) (setting (nth j ns).name x)
    sets j w x a = Nodes.sets_alike l numbers _ _ (part j) w x a

    target_reads : (k : ℕ) → Alike l (target_read (nth k ms)) (target_read (nth k ns))
    target_reads k = Nodes.target_read_alike l numbers _ _ (part k)

    rest_reads : (k : ℕ) → Alike l (reads_of (from k ms)) (reads_of (from k ns))
    rest_reads k = reads_alike l numbers (from k ms) (from k ns) (parts_from k)

    assigned : (n : Resolved) (text : List ℕ) → Same Kinds.AssignSignal n text ms ns
    assigned n text =
        Nodes.assigning_alike l numbers n _ _ _ _ _ _ (chosen_alike 2 _ _ (drives 0 1))
        (λ e k i. and_read (target_reads 0 e k i) ((part 2).reads e k i)) (Nodes.target_alike l numbers _ _ (part 0))

    compared : (j k : ℕ) (cs ds : Comparison → (Env → Got (Value Scalar)) → Command)
        → ((c : Comparison) (s s' : Env → Got (Value Scalar)) → Alike l s s' → AlikeCommands l (cs c s) (ds c s'))
        → AlikeCommands l (selecting (comparison t (nth j ms).is_present (nth k ms)) (value_of (nth k ms)) cs) (selecting (comparison t' (nth j ns).is_present (nth k ns)) (value_of (nth k ns)) ds)
    compared j k cs ds same =
        subst (λ c. AlikeCommands l (selecting (comparison t (nth j ms).is_present (nth k ms)) (value_of (nth k ms)) cs) (selecting c (value_of (nth k ns)) ds))
        (sym (comparison_same l t t' tables (nth j ms) (nth j ns) (nth k ms) (nth k ns) (part j) (part k)))
        (selecting_alike l numbers (comparison t (nth j ms).is_present (nth k ms)) (value_of (nth k ms)) (value_of (nth k ns)) ((part k).value unknown) cs ds
        (λ c. same c (value_of (nth k ms)) (value_of (nth k ns)) ((part k).value unknown)))

    selected_reads : (j k m : ℕ) → Alike l (λ e. and_read ((nth j ms).reads e) (and_read (target_read (nth k ms) e) (reads_of (from m ms) e)))
        (λ e. and_read ((nth j ns).reads e) (and_read (target_read (nth k ns) e) (reads_of (from m ns) e)))
    selected_reads j k m e x = λ i. and_read ((part j).reads e x i) (and_read (target_reads k e x i) (rest_reads m e x i))

    selected_signals : (n : Resolved) (text : List ℕ) → Same Kinds.SelectSignal n text ms ns
    selected_signals n text =
        Nodes.assigning_alike l numbers n _ _ _ _ _ _
        (compared 1 0 (alternatives (λ m. m.chosen (driving (nth 2 ms).name (nth 3 ms).mode)) (from 4 ms)) (alternatives (λ m. m.chosen (driving (nth 2 ns).name (nth 3 ns).mode)) (from 4 ns))
        (alternatives_alike l numbers _ _ (λ m m' a. a.chosen _ _ (drives 2 3)) (from 4 ms) (from 4 ns) (parts_from 4)))
        (selected_reads 0 2 4) (Nodes.target_alike l numbers _ _ (part 2))

    selected_variables : (n : Resolved) (text : List ℕ) → Same Kinds.SelectVariable n text ms ns
    selected_variables n text =
        Facing.with_reads l (Nodes.commanding_alike l numbers n ms ns h _ _
        (compared 1 0 (alternatives (λ m. m.chosen (setting (nth 2 ms).name)) (from 3 ms)) (alternatives (λ m. m.chosen (setting (nth 2 ns).name)) (from 3 ns))
        (alternatives_alike l numbers _ _ (λ m m' a. a.chosen _ _ (sets 2)) (from 3 ms) (from 3 ns) (parts_from 3))))
        _ _ (selected_reads 0 2 3)

    for_alike : (label : Option ℕ) (p p' : ℕ) → p' ≡ l.number p → AlikeCommands l (Each label p (values_of_range (nth 1 ms)) ((nth 2 ms).command None)) (Each (number_in l label) p' (values_of_range (nth 1 ns)) ((nth 2 ns).command None))
    for_alike label p p' e =
        subst (λ p'. AlikeCommands l (Each label p (values_of_range (nth 1 ms)) ((nth 2 ms).command None)) (Each (number_in l label) p' (values_of_range (nth 1 ns)) ((nth 2 ns).command None))) (sym e)
        (loops_alike l numbers label p _ _ _ _ (values_alike l numbers _ _ (part 1)) ((part 2).command None))

    labelled : (n : Resolved) → AlikeCommands l ((nth 1 ms).command (made n (nth 0 ms))) ((nth 1 ns).command (made (renumbered l n) (nth 0 ns)))
    labelled n =
        subst (λ x. AlikeCommands l ((nth 1 ms).command (made n (nth 0 ms))) ((nth 1 ns).command x)) (sym (Nodes.made_same l numbers n _ _ (part 0))) ((part 1).command (made n (nth 0 ms)))

    new_types : (n : Resolved) (text : List ℕ) → Same Kinds.NewType n text ms ns
    new_types n text =
        Nodes.commanding_alike l numbers n ms ns h _ _
        (subst (λ d. AlikeCommands l (new_type (number_or (made n (nth 0 ms))) (nth 1 ms).indicated) (new_type d (nth 1 ns).indicated)) (sym (Nodes.made_number l numbers n _ _ (part 0)))
        (type_alike l numbers (number_or (made n (nth 0 ms))) (nth 1 ms).indicated (nth 1 ns).indicated (part 1).indicated))

    processes_alike : (n : Resolved) (text : List ℕ) → Same Kinds.OneProcess n text ms ns
    processes_alike n text =
        Facing.with_processes l (Nodes.node_alike l numbers n text ms ns h) _ _ (
          record {
            declarations = (part 2).declarations;
            settling = (part 2).settling;
            statements = (part 3).command None;
            sensitivity = (part 0).listening (reads_of (from 2 ms)) (reads_of (from 2 ns)) (rest_reads 2);
            targets = targets_alike l numbers (from 2 ms) (from 2 ns) (parts_from 2);
          },
          tt,
        )

    -- ---- generics and instances

    constants_of : AlikeObjects l (new_objects (nth 1 ms).numbers (nth 3 ms) (nth 4 ms)) (new_objects (nth 1 ns).numbers (nth 3 ns) (nth 4 ns))
    constants_of = objects_alike l numbers _ _ (part 1).numbers _ _ _ _ (part 3) (part 4)

    named_number : (k : ℕ) → number_or (nth k ns).declaration ≡ l.number (number_or (nth k ms).declaration)
    named_number k = (λ i. number_or ((part k).declaration i)) ∙ number_or_same l numbers t t' tables (nth k ms).declaration

    made_by_first : (n : Resolved) → number_or (made (renumbered l n) (nth 0 ns)) ≡ l.number (number_or (made n (nth 0 ms)))
    made_by_first n = Nodes.made_number l numbers n _ _ (part 0)

    -- the generic that is named in one part, the map in another
    actuals_alike : (j k d d' : ℕ) → d' ≡ l.number d
        → Alike l (actuals_between t (number_or (nth j ms).declaration) d (nth k ms).elements) (actuals_between t' (number_or (nth j ns).declaration) d' (nth k ns).elements)
    actuals_alike j k d d' same e x =
        (λ i. actuals_between t' (named_number j i) (same i) (nth k ns).elements e)
        ∙ between_alike l numbers t t' tables (number_or (nth j ms).declaration) d (nth k ms).elements (nth k ns).elements (part k).elements e x

    copies_alike : (n : Resolved)
        → copies_in t' (number_or (nth 1 ns).declaration) (number_or (made (renumbered l n) (nth 0 ns))) ≡ map (pair_in l) (copies_in t (number_or (nth 1 ms).declaration) (number_or (made n (nth 0 ms))))
    copies_alike n =
        (λ i. copies_in t' (named_number 1 i) (made_by_first n i)) ∙ copies_of_same l numbers t t' tables (number_or (nth 1 ms).declaration) (number_or (made n (nth 0 ms)))

    abbrev instantiated : Table → (g d : ℕ) → List MapElement → Command
    instantiated t g d xs = new_instance g d (actuals_between t g d xs)

    new_instance_alike : (n : Resolved)
        → AlikeCommands l (instantiated t (number_or (nth 2 ms).declaration) (number_or (made n (nth 1 ms))) (nth 3 ms).elements)
        (instantiated t' (number_or (nth 2 ns).declaration) (number_or (made (renumbered l n) (nth 1 ns))) (nth 3 ns).elements)
    new_instance_alike n =
        subst (λ c. AlikeCommands l (instantiated t (number_or (nth 2 ms).declaration) (number_or (made n (nth 1 ms))) (nth 3 ms).elements) c)
        (λ i. sym (λ j. instantiated t' (named_number 2 j) (Nodes.made_number l numbers n _ _ (part 1) j) (nth 3 ns).elements) i)
        (instance_alike l numbers (number_or (nth 2 ms).declaration) (number_or (made n (nth 1 ms))) _ _
        (between_alike l numbers t t' tables (number_or (nth 2 ms).declaration) (number_or (made n (nth 1 ms))) (nth 3 ms).elements (nth 3 ns).elements (part 3).elements))

    -- ---- a case for each kind

    pub kind_alike : (k : Kinds.Kind) (n : Resolved) (text : List ℕ) → Same k n text ms ns
    kind_alike Kinds.NotThere n text = none_alike l numbers
    kind_alike Kinds.Parts n text = Nodes.node_alike l numbers n text ms ns h
    kind_alike Kinds.Word n text = Facing.with_numbers l (Facing.with_texts l (Facing.with_name l (Nodes.node_alike l numbers n text ms ns h) _ _ (first_piece_alike l numbers t t' tables n)) _ _ refl) _ _ (Nodes.list_same l numbers n.declaration)
    kind_alike Kinds.CharacterLiteral n text = Facing.with_texts l (Nodes.expression_alike l numbers n text ms ns h _ _ _ _ (λ known e k. refl) (λ e k. literal_known_same l numbers n.mark e)) _ _ refl
    kind_alike Kinds.StringLiteral n text = Facing.with_name l (Nodes.expression_alike l numbers n text ms ns h _ _ _ _ (λ known e k. string_same n.mark text e) (λ e k i. unless_stopped (string_same n.mark text e i) (string_known_same n.mark e i))) _ _ (first_piece_alike l numbers t t' tables n)
    kind_alike Kinds.NumberLiteral n text = Nodes.expression_alike l numbers n text ms ns h _ _ _ _ (λ known e k. refl) (λ e k. refl)
    kind_alike Kinds.TimeLiteral n text = Nodes.expression_alike l numbers n text ms ns h _ _ _ _ (λ known e k i. physical ((part 0).text i) ((part 1).text i)) (λ e k i. unless_stopped (physical ((part 0).text i) ((part 1).text i)) always)
    kind_alike Kinds.WholeName n text = Nodes.name_alike l numbers n text ms ns h
    kind_alike Kinds.SelectionPiece n text = Nodes.piece_alike l numbers n text ms ns h _ _ (selected_alike n)
    kind_alike Kinds.ArgumentsPiece n text = Nodes.piece_alike l numbers n text ms ns h _ _ (arguments_piece_alike l numbers t t' tables ms ns h n)
    kind_alike Kinds.AttributePiece n text = Nodes.piece_alike l numbers n text ms ns h _ _ (λ p q a.
        subst (λ x. AlikeName l (attributed (attribute_named (nth 0 ms).text) n.mark p) (attributed (attribute_named x) (number_in l n.mark) q)) (sym (part 0).text)
        (attributed_alike l numbers p q a (attribute_named (nth 0 ms).text) n.mark))
    kind_alike Kinds.RangePiece n text = Nodes.piece_alike l numbers n text ms ns h _ _ (λ p q a. attributed_alike l numbers p q a (RangeOf false) n.mark)
    kind_alike Kinds.QualificationPiece n text = Nodes.piece_alike l numbers n text ms ns h _ _ (qualification_alike l numbers t t' tables ms ns h n)
    kind_alike Kinds.Operator n text =
        subst (λ d. AlikeMeaning l (operator t (followed t (number_or n.declaration)) n text ms) (operator t' d (renumbered l n) text ns)) (sym (named_same n)) (operator_alike (followed t (number_or n.declaration)) n text)
    kind_alike Kinds.Brackets n text = Nodes.expression_alike l numbers n text ms ns h _ _ _ _ (bracketed_same l numbers n.mark ms ns h) (bracketed_known_alike l numbers ms ns h)
    kind_alike Kinds.Associated n text = Facing.with_reads l (Facing.with_known l (Facing.with_choices l (Facing.with_association l (part 1) _ _ refl) _ _ (part 0).choices) _ _ (known_alike l numbers ms ns h)) _ _ (reads_alike l numbers ms ns h)
    kind_alike Kinds.AssociatedOthers n text = Facing.with_association l (part 0) _ _ refl
    kind_alike Kinds.ChoiceList n text = Facing.with_covers l (Facing.with_known l (Facing.with_choices l (Nodes.node_alike l numbers n text ms ns h) _ _ (choice_list_alike l numbers ms ns h)) _ _ (choices_known_alike l numbers ms ns h)) _ _ (any_covers_alike l numbers ms ns h)
    kind_alike Kinds.AnyChoice n text = Facing.with_covers l (Nodes.node_alike l numbers n text ms ns h) _ _ (λ c v e k. refl)
    kind_alike Kinds.OpenActual n text = Facing.with_is_open l (Nodes.node_alike l numbers n text ms ns h) _ _ refl
    kind_alike (Kinds.Limits down) n text = Nodes.ranging_alike l numbers n text ms ns h _ _ (Nodes.limits_alike l numbers down _ _ _ _ (part 0) (part 1))
    kind_alike Kinds.LimitsOfMark n text = Facing.with_known l (Nodes.ranging_alike l numbers n text (from 1 ms) (from 1 ns) (parts_from 1) _ _ (Nodes.in_mark_alike l numbers _ _ _ _ (part 0) (part 1)))
        _ _ (λ e k i. unless_stopped (Nodes.in_mark_alike l numbers _ _ _ _ (part 0) (part 1) e k i) (both (name_bounds_alike l numbers (nth 0 ms).name (nth 0 ns).name (part 0).name e k i) ((part 1).known e k i)))
    kind_alike Kinds.OpenIndex n text = Facing.with_is_open l (part 0) _ _ refl
    kind_alike Kinds.MarkName n text = Facing.with_declaration l (Nodes.node_alike l numbers n text ms ns h) _ _ (Nodes.mark_named_same l numbers n ms ns h)
    kind_alike Kinds.Indication n text = Facing.with_indicated l (Nodes.node_alike l numbers n text ms ns h) _ _
        (λ e k. (λ i. indication ((part 0).declaration i) (nth 1 ns) e) ∙ indication_alike l numbers (nth 0 ms).declaration _ _ (part 1) e k)
    kind_alike Kinds.Constraint n text = Facing.with_known l (Facing.with_range l (Nodes.node_alike l numbers n text ms ns h) _ _ (part 0).range) _ _ (part 0).known
    kind_alike Kinds.Literals n text = Facing.with_indicated l (Nodes.node_alike l numbers n text ms ns h) _ _ (λ e k i. Ok (enumeration (Nodes.texts_same l numbers ms ns h i)))
    kind_alike Kinds.ArrayDefinition n text = Facing.with_indicated l (Nodes.node_alike l numbers n text ms ns h) _ _ (array_alike l numbers _ _ _ _ (part 0) (part 1))
    kind_alike Kinds.RecordDefinition n text = Facing.with_indicated l (Nodes.node_alike l numbers n text ms ns h) _ _ (λ e k i. (part 0).fields e k i >>= λ is. Ok (record_type is))
    kind_alike Kinds.RecordParts n text = Facing.with_fields l (Nodes.node_alike l numbers n text ms ns h) _ _ (all_fields_alike l numbers ms ns h)
    kind_alike Kinds.RecordPart n text = Facing.with_fields l (Nodes.node_alike l numbers n text ms ns h) _ _ (λ e k i. (part 1).indicated e k i >>= λ x. Ok (fields_named ((part 0).texts i) x))
    kind_alike Kinds.Identifiers n text =
        Facing.with_numbers l (Facing.with_texts l (Nodes.node_alike l numbers n text ms ns h) _ _ (Nodes.texts_same l numbers ms ns h)) _ _ (Nodes.numbers_same l numbers ms ns h)
    kind_alike Kinds.NewType n text = new_types n text
    kind_alike Kinds.NewSubtype n text = new_types n text
    kind_alike Kinds.NewConstants n text = Facing.with_settling l (Nodes.commanding_alike l numbers n ms ns h _ _ (constants_alike l numbers _ _ (part 0).numbers _ _ _ _ (part 1) (part 2))) _ _ (settled_constants_alike l numbers _ _ (part 0).numbers _ _ _ _ (part 1) (part 2))
    kind_alike Kinds.NewVariables n text = Facing.with_settling l (Nodes.commanding_alike l numbers n ms ns h _ _ (variables_alike l numbers _ _ (part 0).numbers _ _ _ _ (part 1) (part 2))) _ _ (settled_variables_alike l numbers _ _ (part 0).numbers _ _ _ _ (part 1) (part 2))
    kind_alike Kinds.NewSignals n text = Facing.with_objects l (Nodes.node_alike l numbers n text ms ns h) _ _ (objects_alike l numbers _ _ (part 0).numbers _ _ _ _ (part 1) (part 2), tt)
    kind_alike Kinds.NewPorts n text = Facing.with_objects l (Nodes.node_alike l numbers n text ms ns h) _ _ (objects_alike l numbers _ _ (part 1).numbers _ _ _ _ (part 3) (part 4), tt)
    kind_alike Kinds.Interfaces n text = Facing.with_formals l (Facing.with_parameters l (Facing.with_objects l (Nodes.node_alike l numbers n text ms ns h) _ _ (Nodes.objects_alike l numbers ms ns h)) _ _ (Nodes.parameters_alike l numbers ms ns h))
        _ _ (Nodes.formals_alike l numbers ms ns h)
    kind_alike Kinds.Parameters n text = Facing.with_parameters l (Nodes.node_alike l numbers n text ms ns h) _ _ (parameters_alike l numbers _ _ (part 1).numbers _ _ (part 3))
    kind_alike Kinds.NewFunction n text =
        Nodes.commanding_alike l numbers n ms ns h _ _ (functions_alike l numbers _ _ (part 2).is_present _ _ (Nodes.body_alike l numbers n ms ns h))
    kind_alike Kinds.Declarations n text = Facing.with_objects l (Facing.with_settling l (Facing.with_declarations l (Nodes.node_alike l numbers n text ms ns h) _ _ (Nodes.commands_alike l numbers ms ns h)) _ _ (Nodes.settled_of_alike l numbers ms ns h)) _ _ (Nodes.objects_alike l numbers ms ns h)
    kind_alike Kinds.NewGenerics n text = Facing.with_formals l (Facing.with_objects l (Nodes.node_alike l numbers n text ms ns h) _ _ (constants_of, tt)) _ _ (constants_of, tt)
    kind_alike Kinds.NewGenericType n text = Facing.with_formals l (Nodes.node_alike l numbers n text ms ns h) _ _ (Nodes.made_number l numbers n _ _ (part 0), tt)
    kind_alike Kinds.NewGenericFunction n text = Facing.with_formals l (Nodes.node_alike l numbers n text ms ns h) _ _ (Nodes.made_number l numbers n _ _ (part 1), tt)
    kind_alike Kinds.GenericActuals n text = Facing.with_elements l (Nodes.node_alike l numbers n text ms ns h) _ _ (map_elements_alike l numbers ms ns h)
    kind_alike Kinds.NewInstance n text = Nodes.commanding_alike l numbers n ms ns h _ _ (new_instance_alike n)
    kind_alike Kinds.NewPackageInstance n text = Facing.with_copies l (Facing.with_actuals l (Nodes.node_alike l numbers n text ms ns h) _ _ (actuals_alike 1 2 _ _ (made_by_first n))) _ _ (copies_alike n)
    kind_alike Kinds.Transported n text = Facing.with_mode l (Nodes.node_alike l numbers n text ms ns h) _ _ refl
    kind_alike Kinds.Delayed n text = Facing.with_chosen l (Nodes.node_alike l numbers n text ms ns h) _ _ (λ act act' same.
        same _ _ (record { value = (part 0).value; delay = λ e k i. (part 1).value unknown e k i >>= time_in }))
    kind_alike Kinds.NoWaveform n text = Nodes.node_alike l numbers n text ms ns h
    kind_alike Kinds.Conditional n text =
        Facing.with_chosen l (Nodes.node_alike l numbers n text ms ns h) _ _ (λ act act' same.
        choices_alike l numbers _ _ _ _ _ _ (truths_alike l numbers _ _ (part 1)) (chosen_alike 0 act act' same) (chosen_alike 2 act act' same))
    kind_alike Kinds.Guarded n text =
        Facing.with_chosen l (Nodes.node_alike l numbers n text ms ns h) _ _ (λ act act' same.
        choices_alike l numbers _ _ _ _ _ _ (truths_alike l numbers _ _ (part 1)) (chosen_alike 0 act act' same) (skips_alike l numbers))
    kind_alike Kinds.Sequence n text = Nodes.commanding_alike l numbers n ms ns h _ _ (Nodes.in_order_alike l numbers _ _ (Nodes.commands_alike l numbers ms ns h))
    kind_alike Kinds.Labelled n text = Nodes.commanding_alike l numbers n ms ns h _ _ (labelled n)
    kind_alike Kinds.AssignSignal n text = assigned n text
    kind_alike Kinds.AssignVariable n text = Facing.with_reads l (Nodes.commanding_alike l numbers n ms ns h _ _ (chosen_alike 1 _ _ (sets 0))) _ _
        (λ e k i. and_read (target_reads 0 e k i) ((part 1).reads e k i))
    kind_alike Kinds.SelectSignal n text = selected_signals n text
    kind_alike Kinds.SelectVariable n text = selected_variables n text
    kind_alike Kinds.If n text =
        Nodes.commanding_alike l numbers n ms ns h _ _
        (choices_alike l numbers _ _ _ _ _ _ (truths_alike l numbers _ _ (part 0)) ((part 1).command None) ((part 2).otherwise _ _ ((part 3).command None)))
    kind_alike Kinds.Branches n text = Facing.with_otherwise l (Nodes.node_alike l numbers n text ms ns h) _ _ (λ c d k. Nodes.branches_alike l numbers ms ns h c d k)
    kind_alike Kinds.Branch n text =
        Facing.with_otherwise l (Nodes.node_alike l numbers n text ms ns h) _ _ (λ c d k. choices_alike l numbers _ _ _ _ _ _ (truths_alike l numbers _ _ (part 0)) ((part 1).command None) k)
    kind_alike Kinds.Case n text = Nodes.commanding_alike l numbers n ms ns h _ _ (compared 0 1 (nth 2 ms).cases (nth 2 ns).cases (part 2).cases)
    kind_alike Kinds.Alternatives n text =
        Facing.with_cases l (Nodes.node_alike l numbers n text ms ns h) _ _ (λ c s s' a. alternatives_alike l numbers _ _ (λ m m' b. b.command None) ms ns h c s s' a)
    kind_alike Kinds.Alternative n text =
        Facing.with_command l (Facing.with_covers l (Nodes.node_alike l numbers n text ms ns h) _ _ (part 0).covers) _ _ (λ label. (part 1).command None)
    kind_alike Kinds.SelectedAlternative n text =
        Facing.with_chosen l (Facing.with_covers l (Nodes.node_alike l numbers n text ms ns h) _ _ (part 1).covers) _ _ (part 0).chosen
    kind_alike Kinds.For n text =
        Facing.with_command l (Nodes.node_alike l numbers n text ms ns h) _ _ (λ label. for_alike label _ _ (Nodes.made_number l numbers n _ _ (part 0)))
    kind_alike Kinds.WhileTrue n text =
        Facing.with_command l (Nodes.node_alike l numbers n text ms ns h) _ _ (λ label. whiles_alike l numbers label _ _ _ _ (truths_alike l numbers _ _ (part 0)) ((part 1).command None))
    kind_alike Kinds.Endless n text = Facing.with_command l (Nodes.node_alike l numbers n text ms ns h) _ _ (λ label. whiles_alike l numbers label (λ _. Ok true) (λ _. Ok true) _ _ (λ e k. refl) ((part 0).command None))
    kind_alike Kinds.Suspend n text = Nodes.commanding_alike l numbers n ms ns h _ _ (waiting_alike l numbers _ _ _ _ _ _ (part 0) (part 1) (part 2))
    kind_alike Kinds.Listed n text = Facing.with_listening l (Facing.with_reads l (Nodes.node_alike l numbers n text ms ns h) _ _ (Nodes.listed_alike l numbers ms ns h)) _ _ (λ r r' a. Nodes.listed_alike l numbers ms ns h)
    kind_alike Kinds.Asserting n text = Facing.with_processes l (Nodes.commanding_alike l numbers n ms ns h _ _ (assertion_alike l numbers _ _ _ _ _ _ (part 0) (part 1) (part 2))) _ _ (
      record {
        declarations = tt;
        settling = λ e e' a. a;
        statements = assertion_alike l numbers _ _ _ _ _ _ (part 0) (part 1) (part 2);
        sensitivity = reads_alike l numbers ms ns h;
        targets = λ e k. refl;
      },
      tt,
    )
    kind_alike Kinds.Reporting n text = Nodes.commanding_alike l numbers n ms ns h _ _ (report_alike l numbers _ _ _ _ (part 0) (part 1))
    kind_alike Kinds.Giving n text = Nodes.commanding_alike l numbers n ms ns h _ _ (chosen_alike 0 _ _ (giving_alike l numbers))
    kind_alike (Kinds.Jumping out) n text =
        Nodes.commanding_alike l numbers n ms ns h _ _
        (Nodes.present_alike l numbers (nth 1 ms).is_present (nth 1 ns).is_present (truth_of (nth 1 ms)) (truth_of (nth 1 ns)) _ _ (part 1).is_present (truths_alike l numbers _ _ (part 1)) (Nodes.leaving_alike l numbers out _ _ (part 0)))
    kind_alike Kinds.Everything n text = Facing.with_listening l (Nodes.node_alike l numbers n text ms ns h) _ _ (λ r r' a. a)
    kind_alike Kinds.AssignConcurrently n text = assigned n text
    kind_alike Kinds.OneProcess n text = processes_alike n text
    kind_alike Kinds.Concurrent n text =
        Facing.with_processes l (Nodes.node_alike l numbers n text ms ns h) (flattened (λ m. m.processes) ms) (flattened (λ m. m.processes) ns) (Nodes.flattened_zip l numbers _ (λ m. m.processes) (λ m n a. a.processes) ms ns h)

  pub trees_alike : (f : Forest Resolved) → AllZip (AlikeMeaning l) (meanings t f) (meanings t' (with_forms (renumbered l) f))
  trees_alike nothing = tt
  trees_alike (more n text place parts next) = (kind_alike (meanings t parts) (meanings t' (with_forms (renumbered l) parts)) (trees_alike parts) (Kinds.kind n.form) n text, trees_alike next)

pub all_trees_alike : TreesAlike
all_trees_alike l numbers t t' tables f = trees_alike l numbers t t' tables f
