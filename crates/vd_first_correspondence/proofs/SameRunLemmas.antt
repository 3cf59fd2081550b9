-- A file's tree and the written one have the same run through the map, for every top.
use Rattle.std.proofs.Common.{◌≡◌, ◌<◌, ℕ, ◌+◌, List, [], ◌∷◌, ◌++◌, map, length, Option, Some, None, refl, sym, ap, ◌∙◌, subst, append-nil}
use Rattle.std.proofs.lemmas.List.{map-append, length-map}
use Rattle.std.specs.Prelude.{slice_index_or}
use Rattle.std.specs.List.{AllZip, AllByRecursion, flat_map}
use Rattle.vd_bytes.specs.declared.places.Place.{Place}
use Rattle.vd_forest.specs.Forest.{Forest, nothing, erased}
use Rattle.vd_first_trees.specs.declared.form.Form.{Form}
use Rattle.vd_trees.specs.declared.revision.Revision.TheVariants.{V2019}
use Rattle.vd_values.specs.declared.logic.Logic.{Logic}
use Rattle.vd_values.specs.declared.logic.Logic.TheVariants.{X}
use Rattle.vd_first_lex.specs.declared.tokens.Token.{Token}
use Rattle.vd_first_grammar.specs.Derivations.{Expression, Sensitivity, every, listed, IsSensitivity, Process as ProcessText, IsProcess}
use Rattle.vd_first_grammar.specs.Conditions.{texts_of, expression_names, sensitivity_names, process_names}
use Rattle.vd_first_grammar.specs.Shapes.{expression_shape, assignment_shape}
use Rattle.vd_kernel.specs.declared.assignments.Assignment.{Assignment}
use Rattle.vd_kernel.specs.declared.assignments.Delay.TheVariants.{Inertial}
use Rattle.vd_kernel.specs.Values.{logic_of}
use Rattle.vd_kernel.specs.Models.{View, Cause, Shape, signal_at}
use Rattle.vd_kernel.specs.Stimuli.{SameInputs}
use Rattle.vd_kernel.specs.Cycles.{has_event}
use Rattle.vd_kernel.specs.Correspondence.{SameView, SameTurn, SameShape, Corresponds, SameRun}
use Rattle.vd_kernel.proofs.SameRuns.{same_run, same_events}
use Rattle.vd_first_elaboration.specs.Expressions.{value, names_read, each_once}
use Rattle.vd_first_elaboration.specs.Processes.{statements_of, targets_of, names_assigned, sensitivity, driven_by, number_of, Process, scalar_of, object_value, assignments, step}
use Rattle.vd_first_elaboration.specs.Ports.{Port}
use Rattle.vd_first_elaboration.specs.Elaboration.{kernel_signals, inputs_from, driven_names, processes_from, port_names, shape_of, model_of}
use Rattle.vd_first_correspondence.specs.Relations.{SameProcess}
use Rattle.vd_first_correspondence.proofs.SameShapeLemmas.{AllBelow, pairs, shape_same, inputs_are}
use Rattle.vd_first_correspondence.proofs.KnownLemmas.{AgreeOn, values_agree, names_of_shape, once_keeps}
use Rattle.vd_first_correspondence.proofs.ProcessLemmas.{parts_in_text, statements_in_text, source_processes, listed_processes, written_processes, names_listed_alike, names_written_alike, processes_listed, processes_written}

-- the name of an object is one of these
abbrev pub IsKnown : List (List ℕ) → List ℕ → Type 0
IsKnown names x = number_of names x < length names

all_front : {A : Type 0} (P : A → Type 0) (xs ys : List A) → AllByRecursion P (xs ++ ys) → AllByRecursion P xs
all_front P [] ys a = tt
all_front P (x ∷ xs) ys a = (a.0, all_front P xs ys a.1)

all_behind : {A : Type 0} (P : A → Type 0) (xs ys : List A) → AllByRecursion P (xs ++ ys) → AllByRecursion P ys
all_behind P [] ys a = a
all_behind P (x ∷ xs) ys a = all_behind P xs ys a.1

numbers_below : (names xs : List (List ℕ)) → AllByRecursion (IsKnown names) xs → AllBelow (length names) (map (number_of names) xs)
numbers_below names [] a = tt
numbers_below names (x ∷ xs) a = (a.0, numbers_below names xs a.1)

-- the shape of ports whose drivers drive the objects of these names
abbrev shape_with : List Port → List (List ℕ) → Shape
shape_with ports driven_objects =
    let driven = map (number_of (port_names ports)) driven_objects in
    record { signals = kernel_signals driven 0 (length driven) ports; driven = driven; inputs = inputs_from 0 ports }

-- a process of a text, with the number of its first driver
abbrev text_process : ℕ → ProcessText → Process
text_process k p = record { first_driver = k; parts = erased (parts_in_text p.sensitivity p.is_word p.begin_word.place p.target p.value) }

module _ (joined : ℕ → ℕ → Type 0) (names : List (List ℕ)) (same : (i j : ℕ) → joined i j → i ≡ j) (there : (i : ℕ) → i < length names → joined i i) where
  -- what a process of these parts assigns
  abbrev assigned : View → ℕ → Forest Form → List Assignment
  assigned v first statements = assignments (object_value names v) v.time first (each_once [] (targets_of statements)) statements

  -- the same process, whose run depends on what is joined alone
  pub record Related (p q : Process) : Type 0 where
    same_process : SameProcess p q
    assigns : (v w : View) → SameView joined v w → assigned v p.first_driver (statements_of p.parts) ≡ assigned w p.first_driver (statements_of p.parts)
    waits : AllBelow (length names) (map (number_of names) (sensitivity p.parts))

  turns_alike : (p q : Process) → Related p q → (c : Cause) (v w : View) → SameView joined v w → SameTurn joined Related (step names p c v) (step names q c w)
  turns_alike p q r c v w s =
      let on = map (number_of names) (sensitivity p.parts) in
      let on_same = ap (map (number_of names)) r.same_process.sensitivity_is in
      record {
        assignments =
            r.assigns v w s
            ∙ ap (λ k. assigned w k (statements_of p.parts)) r.same_process.first_driver
            ∙ ap (assigned w q.first_driver) r.same_process.statements;
        reports = refl;
        ending = record {
          state = r;
          on = λ x y z. same_events joined on on (pairs joined (length names) same there on r.waits) x y z ∙ ap (has_event y) on_same;
          timeout = refl;
        };
      }

  -- ---- the processes of a file

  -- what an `all` waits for is known where what is read is known
  set_known : (t : Token) (e : Expression) → AllByRecursion (IsKnown names) (texts_of (expression_names e)) → AllByRecursion (IsKnown names) (each_once [] (names_assigned (erased (assignment_shape t e nothing))))
  set_known t e known =
      let read : names_assigned (erased (assignment_shape t e nothing)) ≡ texts_of (expression_names e) =
      append-nil (names_read (erased (expression_shape e nothing))) ∙ names_of_shape e nothing ∙ append-nil (texts_of (expression_names e)) in
      subst (λ ns. AllByRecursion (IsKnown names) (each_once [] ns)) (sym read) (once_keeps (IsKnown names) [] (texts_of (expression_names e)) tt known)

  sensitivity_known : (s : Sensitivity) (word : Option Token) (place : Place) (t : Token) (e : Expression) → IsSensitivity V2019 s → AllByRecursion (IsKnown names) (texts_of (expression_names e)) → AllByRecursion (IsKnown names) (sensitivity (erased (parts_in_text s word place t e)))
  sensitivity_known (every a) None place t e is known = set_known t e known
  sensitivity_known (every a) (Some w) place t e is known = set_known t e known
  sensitivity_known (listed ns) word place t e is known = absurd is

  agree : (v w : View) → SameView joined v w → (xs : List (List ℕ)) → AllByRecursion (IsKnown names) xs → AgreeOn (object_value names v) (object_value names w) xs
  agree v w s [] a = tt
  agree v w s (x ∷ xs) a =
      (ap logic_of (s.value (number_of names x) (number_of names x) (there (number_of names x) a.0)), agree v w s xs a.1)

  assignment_alike : (t : Token) (e : Expression) (first : ℕ) → AllByRecursion (IsKnown names) (texts_of (expression_names e)) → (v w : View) → SameView joined v w → assigned v first (erased (assignment_shape t e nothing)) ≡ assigned w first (erased (assignment_shape t e nothing))
  assignment_alike t e first known v w s =
      let values_same = values_agree (object_value names v) (object_value names w) e nothing (agree v w s (texts_of (expression_names e)) known) refl in
      let value_same = ap (λ vs. slice_index_or vs 0 X) values_same in
      let post : ℕ → Logic → List Assignment = λ now x.
      record { driver = first + number_of (t.text ∷ []) t.text; delay = Inertial; new = record { time = now; value = scalar_of x } } ∷ [] in
      ap (λ now. post now (value (object_value names v) (erased (expression_shape e nothing)))) s.time ∙ ap (post w.time) value_same

  process_related : (p : ProcessText) (k : ℕ) (q : Process) → IsProcess V2019 p → AllByRecursion (IsKnown names) (texts_of (process_names p)) → SameProcess (text_process k p) q → Related (text_process k p) q
  process_related p k q is known s =
      let statements = statements_in_text p.sensitivity p.is_word p.begin_word.place p.target p.value in
      let listed_known = all_front (IsKnown names) (texts_of (sensitivity_names p.sensitivity)) (p.target.text ∷ texts_of (expression_names p.value)) (subst (AllByRecursion (IsKnown names)) (map-append (λ (t : Token). t.text) (sensitivity_names p.sensitivity) (p.target ∷ expression_names p.value)) known) in
      let rest_known = all_behind (IsKnown names) (texts_of (sensitivity_names p.sensitivity)) (p.target.text ∷ texts_of (expression_names p.value)) (subst (AllByRecursion (IsKnown names)) (map-append (λ (t : Token). t.text) (sensitivity_names p.sensitivity) (p.target ∷ expression_names p.value)) known) in
      record {
        same_process = s;
        assigns = λ v w x. subst (λ z. assigned v k z ≡ assigned w k z) (sym statements) (assignment_alike p.target p.value k rest_known.1 v w x);
        waits = numbers_below names (sensitivity (text_process k p).parts) (sensitivity_known p.sensitivity p.is_word p.begin_word.place p.target p.value is.1 rest_known.1);
      }

  all_related : (ps : List ProcessText) (k : ℕ) (qs : List Process) → AllByRecursion (IsProcess V2019) ps → AllByRecursion (IsKnown names) (texts_of (flat_map process_names ps)) → AllZip SameProcess (processes_from k (source_processes ps)) qs → AllZip Related (processes_from k (source_processes ps)) qs
  all_related [] k [] is known z = tt
  all_related [] k (q ∷ qs) is known z = absurd z
  all_related (p ∷ ps) k [] is known z = absurd z
  all_related (p ∷ ps) k (q ∷ qs) is known z =
      let split = subst (AllByRecursion (IsKnown names)) (map-append (λ (t : Token). t.text) (process_names p) (flat_map process_names ps)) known in
      let first = all_front (IsKnown names) (texts_of (process_names p)) (texts_of (flat_map process_names ps)) split in
      let rest = all_behind (IsKnown names) (texts_of (process_names p)) (texts_of (flat_map process_names ps)) split in
      (process_related p k q is.0 first z.0, all_related ps (k + length (driven_by (text_process k p).parts)) qs is.1 rest z.1)

  -- ---- what the drivers drive

  target_known : (p : ProcessText) → AllByRecursion (IsKnown names) (texts_of (process_names p)) → IsKnown names p.target.text
  target_known p known =
      (all_behind (IsKnown names) (texts_of (sensitivity_names p.sensitivity)) (p.target.text ∷ texts_of (expression_names p.value)) (subst (AllByRecursion (IsKnown names)) (map-append (λ (t : Token). t.text) (sensitivity_names p.sensitivity) (p.target ∷ expression_names p.value)) known)).0

  driven_by_known : (p : ProcessText) → IsKnown names p.target.text → AllByRecursion (IsKnown names) (driven_by (text_process 0 p).parts)
  driven_by_known p known =
      subst (λ s. AllByRecursion (IsKnown names) (each_once [] (targets_of s))) (sym (statements_in_text p.sensitivity p.is_word p.begin_word.place p.target p.value))
      (once_keeps (IsKnown names) [] (p.target.text ∷ []) tt (known, tt))

  all_both : (xs ys : List (List ℕ)) → AllByRecursion (IsKnown names) xs → AllByRecursion (IsKnown names) ys → AllByRecursion (IsKnown names) (xs ++ ys)
  all_both [] ys a b = b
  all_both (x ∷ xs) ys a b = (a.0, all_both xs ys a.1 b)

  driven_known : (ps : List ProcessText) → AllByRecursion (IsKnown names) (texts_of (flat_map process_names ps)) → AllByRecursion (IsKnown names) (driven_names (source_processes ps))
  driven_known [] known = tt
  driven_known (p ∷ ps) known =
      let split = subst (AllByRecursion (IsKnown names)) (map-append (λ (t : Token). t.text) (process_names p) (flat_map process_names ps)) known in
      let first = all_front (IsKnown names) (texts_of (process_names p)) (texts_of (flat_map process_names ps)) split in
      let rest = all_behind (IsKnown names) (texts_of (process_names p)) (texts_of (flat_map process_names ps)) split in
      all_both (driven_by (text_process 0 p).parts) (driven_names (source_processes ps)) (driven_by_known p (target_known p first)) (driven_known ps rest)

  -- a process that is the same as the second of two related ones is related to it
  onward : (p q r : Process) → Related p q → SameProcess q r → Related q r
  onward p q r x s =
      let on : map (number_of names) (sensitivity p.parts) ≡ map (number_of names) (sensitivity q.parts) = ap (map (number_of names)) x.same_process.sensitivity_is in
      record {
        same_process = s;
        assigns = λ v w z.
            subst (λ k. assigned v k (statements_of q.parts) ≡ assigned w k (statements_of q.parts)) x.same_process.first_driver
            (subst (λ t. assigned v p.first_driver t ≡ assigned w p.first_driver t) x.same_process.statements (x.assigns v w z));
        waits = subst (AllBelow (length names)) on x.waits;
      }

  pub all_onward : (ps qs rs : List Process) → AllZip Related ps qs → AllZip SameProcess qs rs → AllZip Related qs rs
  all_onward ps [] [] x z = tt
  all_onward ps [] (r ∷ rs) x z = absurd z
  all_onward ps (q ∷ qs) [] x z = absurd z
  all_onward [] (q ∷ qs) (r ∷ rs) x z = absurd x
  all_onward (p ∷ ps) (q ∷ qs) (r ∷ rs) x z = (onward p q r x.0 z.0, all_onward ps qs rs x.1 z.1)

-- ---- two designs of the same ports

module _ (joined : ℕ → ℕ → Type 0) (ports : List Port) (same : (i j : ℕ) → joined i j → i ≡ j) (there : (i : ℕ) → i < length (port_names ports) → joined i i) where
  abbrev names : List (List ℕ)
  names = port_names ports

  abbrev IsRelated : Process → Process → Type 0
  IsRelated = Related joined names same there

  corresponds : (left right : Forest Form) → AllZip IsRelated (processes_from 0 left) (processes_from 0 right) → driven_names left ≡ driven_names right → AllBelow (length names) (map (number_of names) (driven_names left)) → Corresponds joined IsRelated (model_of ports left) (model_of ports right)
  corresponds left right related driven below =
      let numbers = map (number_of names) (driven_names left) in
      let shape = shape_same joined (length names) same there numbers ports (sym (length-map ports (λ (p : Port). p.name))) below in
      record {
        shape = subst (λ ns. SameShape joined (shape_of ports left) (shape_with ports ns)) driven shape;
        starts = related;
        steps = turns_alike joined names same there;
      }

  -- both have the same inputs
  pub inputs_same : (left right : Forest Form) → driven_names left ≡ driven_names right → SameInputs joined (shape_of ports left) (shape_of ports right)
  inputs_same left right driven =
      record {
        first = inputs_are (map (number_of names) (driven_names left)) ports;
        second = inputs_are (map (number_of names) (driven_names right)) ports;
        driver = λ i j x.
            ap (λ ns. (signal_at (shape_with ports ns) i).input) driven
            ∙ ap (λ k. (signal_at (shape_with ports (driven_names right)) k).input) (same i j x);
      }

  known_below : (ps : List ProcessText) → AllByRecursion (IsKnown names) (texts_of (flat_map process_names ps)) → AllBelow (length names) (map (number_of names) (driven_names (source_processes ps)))
  known_below ps known = numbers_below names (driven_names (source_processes ps)) (driven_known joined names same there ps known)

  source_related : (ps : List ProcessText) → AllByRecursion (IsProcess V2019) ps → AllByRecursion (IsKnown names) (texts_of (flat_map process_names ps)) → AllZip IsRelated (processes_from 0 (source_processes ps)) (processes_from 0 (listed_processes ps))
  source_related ps is known = all_related joined names same there ps 0 (processes_from 0 (listed_processes ps)) is known (processes_listed ps 0 0 refl)

  -- with the lists
  pub listed_run : (ps : List ProcessText) → AllByRecursion (IsProcess V2019) ps → AllByRecursion (IsKnown names) (texts_of (flat_map process_names ps)) → SameRun joined (model_of ports (source_processes ps)) (model_of ports (listed_processes ps))
  listed_run ps is known =
      same_run joined IsRelated _ _ (corresponds (source_processes ps) (listed_processes ps) (source_related ps is known) (names_listed_alike ps) (known_below ps known))

  -- in the written form
  pub written_run : (ps : List ProcessText) → AllByRecursion (IsProcess V2019) ps → AllByRecursion (IsKnown names) (texts_of (flat_map process_names ps)) → SameRun joined (model_of ports (listed_processes ps)) (model_of ports (written_processes ps))
  written_run ps is known =
      let related = all_onward joined names same there (processes_from 0 (source_processes ps)) (processes_from 0 (listed_processes ps)) (processes_from 0 (written_processes ps)) (source_related ps is known) (processes_written ps 0 0 refl) in
      let below = subst (λ ns. AllBelow (length names) (map (number_of names) ns)) (names_listed_alike ps) (known_below ps known) in
      same_run joined IsRelated _ _ (corresponds (listed_processes ps) (written_processes ps) related (names_written_alike ps) below)
