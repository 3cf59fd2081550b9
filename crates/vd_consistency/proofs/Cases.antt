-- A node of any kind keeps what its parts keep: a case for each kind.
use Rattle.std.proofs.Common.{ℕ, Bool, true, false, List, [], ◌∷◌, Option, Some, None}
use Rattle.std.specs.Prelude.{Ok, IfOk, IfSome, if◌then◌else◌}
use Rattle.std.specs.List.{AllByRecursion}
use Rattle.vd_resolved.specs.declared.node.Resolved.{Resolved}
use Rattle.vd_environments.specs.Got.{Got}
use Rattle.vd_environments.specs.Environments.{ScalarSignal, Signals, Env}
use Rattle.vd_environments.specs.Commands.{Command, Skip, Choose, Leave}
use Rattle.vd_meaning.specs.Tables.{Table, Role, ConstantRole, VariableRole, SignalRole, LiteralRole, FunctionRole, MarkRole, ElementRole, NoRole, role_of}
use Rattle.vd_meaning.specs.Names.{Named, first_piece, to_field, attribute_named, RangeOf, number_or, and_read}
use Rattle.vd_meaning.specs.Facets.{Meaning, nth, from, flattened, reads_of, targets_of, value_of, Waveform, Comparison}
use Rattle.vd_meaning.specs.Statements.{truth_of, setting, driving, giving, alternatives, comparison, selecting, text_or, severity_or}
use Rattle.vd_meaning.specs.Meanings.{named_by, selection_piece, piece_of, process_of, whole_process, assigning, jump_of, body_of, target_read, listed_signals, made, actuals_between, meaning_of}
use Rattle.vd_meaning.specs.Kinds
use Rattle.vd_consistency.specs.Invariants.{AreOf, HasSignals, GivesAll, KeepsName, Keeps, KeepsProcess, KeepsMeaning}
use Rattle.vd_consistency.proofs.Running.{in_order_keeps}
use Rattle.vd_consistency.proofs.Reading.{KeepAll, and_gives, reads_give, targets_give, listed_give, name_reads_give}
use Rattle.vd_consistency.proofs.Naming.{none_keeps, first_piece_keeps, stepped_keeps, attributed_keeps, arguments_piece_keeps, qualification_keeps}
use Rattle.vd_consistency.proofs.Nodes.{with_reads, with_name, with_piece, with_chosen, with_command, with_otherwise, with_cases, with_declarations, with_settling, with_targets, with_listening, with_processes, nth_keeps, from_keeps, commands_keep, settled_of_keeps, processes_keep, named_by_keeps, node_keeps, expression_keeps, commanding_keeps}
use Rattle.vd_consistency.proofs.Doing.{setting_keeps, driving_keeps, reporting_keeps, assertion_keeps, alternatives_keep, selecting_keeps, branches_keep, target_gives, type_keeps, constants_keep, variables_keep, settled_constants_keep, settled_variables_keep, function_keeps, instance_keeps, waiting_keeps}

-- ---- pieces, assignments and processes

selection_keeps : (r : Role) (t : Table) (n : Resolved) (p : Named) → KeepsName p → KeepsName (selection_piece r t n p)
selection_keeps ElementRole t n p k = stepped_keeps (to_field n.position) (λ P e h. tt) n.mark p k
selection_keeps ConstantRole t n p k = first_piece_keeps t n
selection_keeps VariableRole t n p k = first_piece_keeps t n
selection_keeps SignalRole t n p k = first_piece_keeps t n
selection_keeps LiteralRole t n p k = first_piece_keeps t n
selection_keeps FunctionRole t n p k = first_piece_keeps t n
selection_keeps MarkRole t n p k = first_piece_keeps t n
selection_keeps NoRole t n p k = first_piece_keeps t n

at_sort : (P : ScalarSignal → Bool) (x : Option (Env → Got (List Signals))) → IfSome x GivesAll → IfSome x (λ f. (e : Env) → HasSignals P e → IfOk (f e) (AllByRecursion (AreOf P)))
at_sort P None j = tt
at_sort P (Some f) j = j P

process_keeps : (statements : Command) (sensitivity : Option (Env → Got (List Signals))) (targets : Env → Got (List Signals))
    → Keeps statements → IfSome sensitivity GivesAll → GivesAll targets → KeepsProcess (process_of statements sensitivity targets)
process_keeps statements sensitivity targets k j g P = record { declarations = tt; settling = λ drivers e h. h; statements = k; sensitivity = at_sort P sensitivity j; targets = g P }

whole_process_keeps : (declarations : Meaning) (statements : Command) (sensitivity : Option (Env → Got (List Signals))) (targets : Env → Got (List Signals))
    → KeepsMeaning declarations → Keeps statements → IfSome sensitivity GivesAll → GivesAll targets → KeepsProcess (whole_process declarations statements sensitivity targets)
whole_process_keeps declarations statements sensitivity targets h k j g P =
    record { declarations = h.of_declarations; settling = h.of_settling P; statements = k; sensitivity = at_sort P sensitivity j; targets = g P }

assigning_keeps : (n : Resolved) (c : Command) (reads targets : Env → Got (List Signals)) → Keeps c → GivesAll reads → GivesAll targets → KeepsMeaning (assigning n c reads targets)
assigning_keeps n c reads targets k j g =
    with_processes (with_targets (with_reads (with_command (node_keeps n [] [] tt) (λ _. c) (λ label. k)) reads j) targets g)
    (process_of c (Some reads) targets ∷ []) (process_keeps c (Some reads) targets k j g, tt)

module _ (t : Table) (n : Resolved) (text : List ℕ) (ms : List Meaning) (h : KeepAll ms) where
  part : (k : ℕ) → KeepsMeaning (nth k ms)
  part k = nth_keeps k ms h

  node : KeepsMeaning (Rattle.vd_meaning.specs.Facets.of_node n text ms)
  node = node_keeps n text ms h

  piece : (f : Named → Named) → ((p : Named) → KeepsName p → KeepsName (f p)) → KeepsMeaning (piece_of n text ms f)
  piece f k = with_piece node f k

  drives : (j k : ℕ) (w : Waveform) → Keeps (driving (nth j ms).name (nth k ms).mode w)
  drives j k w = driving_keeps (nth j ms).name (nth k ms).mode w

  commanding : (c : Command) → Keeps c → KeepsMeaning (Rattle.vd_meaning.specs.Facets.commanding n ms c)
  commanding c k = commanding_keeps n ms h c k

  assigned : KeepsMeaning (meaning_of Kinds.AssignSignal t n text ms)
  assigned =
      assigning_keeps n _ _ _ ((part 2).of_chosen _ (drives 0 1)) (and_gives (target_read (nth 0 ms)) (nth 2 ms).reads (part 0).of_name.inner (part 2).of_reads) (target_gives (nth 0 ms) (part 0))

  selection_reads : (k : ℕ) → GivesAll (λ e. and_read ((nth 0 ms).reads e) (and_read (target_read (nth 2 ms) e) (reads_of (from k ms) e)))
  selection_reads k =
      and_gives (nth 0 ms).reads (λ e. and_read (target_read (nth 2 ms) e) (reads_of (from k ms) e)) (part 0).of_reads
      (and_gives (target_read (nth 2 ms)) (reads_of (from k ms)) (part 2).of_name.inner (reads_give (from k ms) (from_keeps k ms h)))

  jumps_keep : (out : Bool) (b : Bool) → Keeps (if b then Choose (truth_of (nth 1 ms)) (Leave (λ _. Ok (jump_of out (nth 0 ms).declaration))) Skip else Leave (λ _. Ok (jump_of out (nth 0 ms).declaration)))
  jumps_keep out true P = (tt, tt)
  jumps_keep out false P = tt

  selects_signals : Keeps (selecting (comparison t (nth 1 ms).is_present (nth 0 ms)) (value_of (nth 0 ms)) (alternatives (λ m. m.chosen (driving (nth 2 ms).name (nth 3 ms).mode)) (from 4 ms)))
  selects_signals =
      selecting_keeps (comparison t (nth 1 ms).is_present (nth 0 ms)) (value_of (nth 0 ms)) (alternatives (λ m. m.chosen (driving (nth 2 ms).name (nth 3 ms).mode)) (from 4 ms))
      (alternatives_keep (λ m. m.chosen (driving (nth 2 ms).name (nth 3 ms).mode)) (λ m k. k.of_chosen (driving (nth 2 ms).name (nth 3 ms).mode) (drives 2 3)) (from 4 ms) (from_keeps 4 ms h))

  selects_variables : Keeps (selecting (comparison t (nth 1 ms).is_present (nth 0 ms)) (value_of (nth 0 ms)) (alternatives (λ m. m.chosen (setting (nth 2 ms).name)) (from 3 ms)))
  selects_variables =
      selecting_keeps (comparison t (nth 1 ms).is_present (nth 0 ms)) (value_of (nth 0 ms)) (alternatives (λ m. m.chosen (setting (nth 2 ms).name)) (from 3 ms))
      (alternatives_keep (λ m. m.chosen (setting (nth 2 ms).name)) (λ m k. k.of_chosen (setting (nth 2 ms).name) (λ w. setting_keeps (nth 2 ms).name w)) (from 3 ms) (from_keeps 3 ms h))

  -- ---- a case for each kind

  pub kind_keeps : (k : Kinds.Kind) → KeepsMeaning (meaning_of k t n text ms)
  kind_keeps Kinds.NotThere = none_keeps
  kind_keeps Kinds.Parts = node
  kind_keeps Kinds.Word = with_name node (first_piece t n) (first_piece_keeps t n)
  kind_keeps Kinds.CharacterLiteral = expression_keeps n text ms h _
  kind_keeps Kinds.StringLiteral = with_name (expression_keeps n text ms h _) (first_piece t n) (first_piece_keeps t n)
  kind_keeps Kinds.NumberLiteral = expression_keeps n text ms h _
  kind_keeps Kinds.TimeLiteral = expression_keeps n text ms h _
  kind_keeps Kinds.WholeName =
      let k = named_by_keeps (nth 0 ms).name (from 1 ms) (part 0).of_name (from_keeps 1 ms h) in
      with_name (with_reads (expression_keeps n text [] tt _) _ (name_reads_give (named_by (nth 0 ms).name (from 1 ms)) k)) (named_by (nth 0 ms).name (from 1 ms)) k
  kind_keeps Kinds.SelectionPiece = piece _ (λ p k. selection_keeps (role_of t n.declaration) t n p k)
  kind_keeps Kinds.ArgumentsPiece = piece _ (λ p k. arguments_piece_keeps t n ms h p k)
  kind_keeps Kinds.AttributePiece = piece _ (λ p k. attributed_keeps (attribute_named (nth 0 ms).text) n.mark p k)
  kind_keeps Kinds.RangePiece = piece _ (λ p k. attributed_keeps (RangeOf false) n.mark p k)
  kind_keeps Kinds.QualificationPiece = piece _ (λ p k. qualification_keeps t n ms h p k)
  kind_keeps Kinds.Operator = expression_keeps n text ms h _
  kind_keeps Kinds.Brackets = expression_keeps n text ms h _
  kind_keeps Kinds.Associated = with_reads (part 1) (reads_of ms) (reads_give ms h)
  kind_keeps Kinds.AssociatedOthers = part 0
  kind_keeps Kinds.ChoiceList = node
  kind_keeps Kinds.AnyChoice = node
  kind_keeps Kinds.OpenActual = node
  kind_keeps (Kinds.Limits down) = node
  kind_keeps Kinds.LimitsOfMark = node_keeps n text (from 1 ms) (from_keeps 1 ms h)
  kind_keeps Kinds.OpenIndex = part 0
  kind_keeps Kinds.MarkName = node
  kind_keeps Kinds.Indication = node
  kind_keeps Kinds.Constraint = node
  kind_keeps Kinds.Literals = node
  kind_keeps Kinds.ArrayDefinition = node
  kind_keeps Kinds.RecordDefinition = node
  kind_keeps Kinds.RecordParts = node
  kind_keeps Kinds.RecordPart = node
  kind_keeps Kinds.Identifiers = node
  kind_keeps Kinds.NewType = commanding _ (type_keeps _ (nth 1 ms).indicated)
  kind_keeps Kinds.NewSubtype = commanding _ (type_keeps _ (nth 1 ms).indicated)
  kind_keeps Kinds.NewConstants =
      with_settling (commanding _ (constants_keep (nth 0 ms).numbers (nth 1 ms) (nth 2 ms))) _ (settled_constants_keep (nth 0 ms).numbers (nth 1 ms) (nth 2 ms))
  kind_keeps Kinds.NewVariables =
      with_settling (commanding _ (variables_keep (nth 0 ms).numbers (nth 1 ms) (nth 2 ms))) _ (settled_variables_keep (nth 0 ms).numbers (nth 1 ms) (nth 2 ms))
  kind_keeps Kinds.NewSignals = node
  kind_keeps Kinds.NewPorts = node
  kind_keeps Kinds.Interfaces = node
  kind_keeps Kinds.Parameters = node
  kind_keeps Kinds.NewFunction = commanding _ (function_keeps (nth 2 ms).is_present (body_of n ms))
  kind_keeps Kinds.Declarations = with_settling (with_declarations node _ (commands_keep ms h)) _ (settled_of_keeps ms h)
  kind_keeps Kinds.NewGenerics = node
  kind_keeps Kinds.NewGenericType = node
  kind_keeps Kinds.NewGenericFunction = node
  kind_keeps Kinds.GenericActuals = node
  kind_keeps Kinds.NewInstance =
      commanding _ (instance_keeps (number_or (nth 2 ms).declaration) (number_or (made n (nth 1 ms))) (actuals_between t (number_or (nth 2 ms).declaration) (number_or (made n (nth 1 ms))) (nth 3 ms).elements))
  kind_keeps Kinds.NewPackageInstance = node
  kind_keeps Kinds.Transported = node
  kind_keeps Kinds.Delayed = with_chosen node _ (λ act k. k _)
  kind_keeps Kinds.NoWaveform = node
  kind_keeps Kinds.Conditional = with_chosen node _ (λ act k P. ((part 0).of_chosen act k P, (part 2).of_chosen act k P))
  kind_keeps Kinds.Guarded = with_chosen node _ (λ act k P. ((part 0).of_chosen act k P, tt))
  kind_keeps Kinds.Sequence = commanding _ (in_order_keeps _ (commands_keep ms h))
  kind_keeps Kinds.Labelled = commanding _ ((part 1).of_command _)
  kind_keeps Kinds.AssignSignal = assigned
  kind_keeps Kinds.AssignVariable =
      with_reads (commanding _ ((part 1).of_chosen _ (λ w. setting_keeps (nth 0 ms).name w))) _ (and_gives (target_read (nth 0 ms)) (nth 1 ms).reads (part 0).of_name.inner (part 1).of_reads)
  kind_keeps Kinds.SelectSignal = assigning_keeps n _ _ _ selects_signals (selection_reads 4) (target_gives (nth 2 ms) (part 2))
  kind_keeps Kinds.SelectVariable = with_reads (commanding _ selects_variables) _ (selection_reads 3)
  kind_keeps Kinds.If = commanding _ (λ P. ((part 1).of_command None P, (part 2).of_otherwise _ ((part 3).of_command None) P))
  kind_keeps Kinds.Branches = with_otherwise node _ (λ c k. branches_keep ms h c k)
  kind_keeps Kinds.Branch = with_otherwise node _ (λ c k P. ((part 1).of_command None P, k P))
  kind_keeps Kinds.Case = commanding _ (selecting_keeps _ _ (nth 2 ms).cases (part 2).of_cases)
  kind_keeps Kinds.Alternatives = with_cases node _ (λ c selector. alternatives_keep _ (λ m k. k.of_command None) ms h c selector)
  kind_keeps Kinds.Alternative = with_command node _ (λ label. (part 1).of_command None)
  kind_keeps Kinds.SelectedAlternative = with_chosen node _ (part 0).of_chosen
  kind_keeps Kinds.For = with_command node _ (λ label. (part 2).of_command None)
  kind_keeps Kinds.WhileTrue = with_command node _ (λ label. (part 1).of_command None)
  kind_keeps Kinds.Endless = with_command node _ (λ label. (part 0).of_command None)
  kind_keeps Kinds.Suspend = commanding _ (waiting_keeps (nth 0 ms) (nth 1 ms) (nth 2 ms) (part 0) (part 1))
  kind_keeps Kinds.Listed = with_listening (with_reads node (listed_signals ms) (listed_give ms h)) (λ _. Some (listed_signals ms)) (λ f k. listed_give ms h)
  kind_keeps Kinds.Asserting =
      with_processes (commanding _ (assertion_keeps (nth 0 ms) (nth 1 ms) (nth 2 ms))) _ (process_keeps _ (Some (reads_of ms)) (λ _. Ok []) (assertion_keeps (nth 0 ms) (nth 1 ms) (nth 2 ms)) (reads_give ms h) (λ P e j. tt), tt)
  kind_keeps Kinds.Reporting = commanding _ (reporting_keeps (text_or [] (nth 0 ms)) (severity_or 0 (nth 1 ms)))
  kind_keeps Kinds.Giving = commanding _ ((part 0).of_chosen giving (λ w P. tt))
  kind_keeps (Kinds.Jumping out) = commanding _ (jumps_keep out (nth 1 ms).is_present)
  kind_keeps Kinds.Everything = with_listening node (λ reads. Some reads) (λ f k. k)
  kind_keeps Kinds.AssignConcurrently = assigned
  kind_keeps Kinds.OneProcess =
      with_processes node _ (
        whole_process_keeps (nth 2 ms) _ ((nth 0 ms).listening (reads_of (from 2 ms))) _ (part 2) ((part 3).of_command None)
            ((part 0).of_listening (reads_of (from 2 ms)) (reads_give (from 2 ms) (from_keeps 2 ms h))) (targets_give (from 2 ms) (from_keeps 2 ms h)),
        tt,
      )
  kind_keeps Kinds.Concurrent = with_processes node _ (processes_keep ms h)
