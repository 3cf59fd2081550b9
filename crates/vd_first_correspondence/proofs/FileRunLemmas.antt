-- A file's tree, the one with lists and the written one have the same run, for every top.
use Rattle.std.proofs.Common.{◌≡◌, ◌<◌, ℕ, Bool, true, false, List, [], ◌∷◌, map, length, refl, sym, ap, ◌∙◌, subst, arith, inl, inr, Some}
use Rattle.std.proofs.lemmas.List.{length-map}
use Rattle.std.proofs.lemmas.List.Elements.{length_all_zip}
use Rattle.std.proofs.lemmas.Option.{slice_get_cases, slice_get_within}
use Rattle.std.specs.Prelude.{Contains}
use Rattle.std.specs.List.{AllByRecursion, AllZip, flat_map}
use Rattle.vd_forest.specs.Forest.{Forest, nothing, more, erased}
use Rattle.vd_first_trees.specs.declared.form.Form.{Form}
use Rattle.vd_trees.specs.declared.paths.Level.{Level}
use Rattle.vd_trees.specs.declared.paths.Scope.{Scope}
use Rattle.vd_trees.specs.declared.rows.Row.{Row}
use Rattle.vd_first_lex.specs.declared.tokens.Token.{Token}
use Rattle.vd_first_grammar.specs.Derivations.{File, ports_of}
use Rattle.vd_first_grammar.specs.Conditions.{texts_of, port_names as declared_names, process_names}
use Rattle.vd_first_grammar.specs.Shapes.{file_shape}
use Rattle.vd_first_passes.specs.Lowering.{lowered}
use Rattle.vd_first_passes.specs.Flavour.{single_ports}
use Rattle.vd_first_names.specs.Maps.{design_rows}
use Rattle.vd_first_names.specs.Joins.{ScopesJoin}
use Rattle.vd_kernel.specs.Models.{Model}
use Rattle.vd_kernel.specs.Correspondence.{SameRun}
use Rattle.vd_kernel.specs.Composition.{Through, LeadsBack}
use Rattle.vd_kernel.proofs.ThroughRuns.{run_through}
use Rattle.vd_kernel.specs.Stimuli.{SameRunAtInputs}
use Rattle.vd_kernel.proofs.OtherJoins.{run_by_join}
use Rattle.vd_kernel.proofs.AtInputs.{same_run_at_inputs}
use Rattle.vd_first_elaboration.specs.Tops.{both_units}
use Rattle.vd_first_elaboration.specs.Ports.{Port, declared_ports}
use Rattle.vd_first_elaboration.specs.Processes.{Process}
use Rattle.vd_first_elaboration.specs.Signals.{ScalarSignal, port_signal}
use Rattle.vd_first_elaboration.specs.Elaboration.{processes_from, driven_names, scopes_of, Elaborated, port_names, model_of, elaborated_units, elaborated_if}
use Rattle.vd_first_elaboration.specs.Traces.{declared_in}
use Rattle.vd_first_correspondence.specs.Laws.{IsFile19, LoweringKeepsRun, FlavourKeepsRun, WritingKeepsRun, WritingKeepsTraces}
use Rattle.vd_first_correspondence.specs.Relations.{SameProcess}
use Rattle.vd_first_correspondence.specs.SameTraces.{ShowSame, ShowSameFor}
use Rattle.vd_first_correspondence.specs.WholeMaps.{Joined}
use Rattle.vd_first_correspondence.proofs.EqualTraces.{trace_equal}
use Rattle.vd_first_correspondence.specs.SameRuns.{IsSameRun, IsSameRunFor, HaveOnePath, IsSameByPath, IsSameByPathFor}
use Rattle.vd_first_correspondence.proofs.WholeMapLemmas.{HaveOwnNames, row_of, bare_level, element_mapped, element_there, joined_same, number_there}
use Rattle.vd_first_correspondence.proofs.NameLemmas.{own_names}
use Rattle.vd_first_correspondence.proofs.KnownLemmas.{number_known}
use Rattle.vd_first_correspondence.proofs.ProcessLemmas.{source_processes, listed_processes, written_processes, names_listed_alike, names_written_alike, processes_listed, processes_written, scopes_listed, scopes_written}
use Rattle.vd_first_correspondence.proofs.SameRunLemmas.{IsKnown, inputs_same, listed_run, written_run}
use Rattle.vd_first_correspondence.proofs.FileLemmas.{port_shapes, ports_in, ports_lowered, ports_kept, rows_are, names_are, source_units, lowered_units, written_units, unit_if, has_entity, has_architecture}

known_texts : (names : List (List ℕ)) (ts : List Token) → AllByRecursion (λ (t : Token). Contains names t.text) ts → AllByRecursion (IsKnown names) (texts_of ts)
known_texts names [] a = tt
known_texts names (t ∷ ts) a = (number_known names t.text a.0, known_texts names ts a.1)

all_known : (f : File) → IsFile19 f → AllByRecursion (IsKnown (port_names (ports_in f))) (texts_of (flat_map process_names f.processes))
all_known f is =
    subst (λ ns. AllByRecursion (IsKnown ns) (texts_of (flat_map process_names f.processes))) (sym (names_are f))
    (known_texts (texts_of (declared_names (ports_of f))) (flat_map process_names f.processes) is.known)

-- ---- signals of the same ports

module _ (entity architecture : List ℕ) (ports : List Port) (own : HaveOwnNames ports) where
  abbrev signal : Port → ScalarSignal
  signal = port_signal (bare_level entity architecture)

  abbrev signals : List ScalarSignal
  signals = map signal ports

  pub one_path_same : (i j : ℕ) → HaveOnePath signals signals i j → i ≡ j
  one_path_same i j x =
      let p = element_mapped signal ports i x.left x.left_is in
      let q = element_mapped signal ports j x.right x.right_is in
      let same : signal p.0 ≡ x.left = p.2 in
      let other : signal q.0 ≡ x.right = q.2 in
      own i j p.0 q.0 p.1 q.1 (ap (λ (s : ScalarSignal). s.path.object) same ∙ ap (λ y. y.object) x.same ∙ sym (ap (λ (s : ScalarSignal). s.path.object) other))

  pub path_there : (i : ℕ) → i < length signals → HaveOnePath signals signals i i
  path_there i within =
      let few : i < length ports = subst (λ n. i < n) (length-map ports signal) within in
      elim (slice_get_cases ports i).1 [
        | inl x ↦ record { left = signal x.0; right = signal x.0; left_is = element_there signal ports i x.0 x.2; right_is = element_there signal ports i x.0 x.2; same = refl }
        | inr y ↦ absurd (omega arith)
      ]

  named_there : (i : ℕ) → i < length (port_names ports) → i < length signals
  named_there i l = subst (λ n. i < n) (length-map ports (λ (p : Port). p.name) ∙ sym (length-map ports signal)) l

  pub path_named : (i : ℕ) → i < length (port_names ports) → HaveOnePath signals signals i i
  path_named i l = path_there i (named_there i l)

  abbrev rows : List Row
  rows = map (row_of entity) ports

  pub joined_named : (i : ℕ) → i < length (port_names ports) → Joined rows signals signals i i
  joined_named i l = number_there entity architecture ports own i (named_there i l)

  abbrev Joins : ℕ → ℕ → Type 0
  Joins = Joined rows signals signals

  abbrev OnePath : ℕ → ℕ → Type 0
  OnePath = HaveOnePath signals signals

  joins_there : (i j : ℕ) → Joins i j → i < length signals
  joins_there i j x = slice_get_within signals i x.left x.left_is

  leads_back : LeadsBack (λ j. j) OnePath Joins
  leads_back = record { is_one = λ i j x. sym (one_path_same i j x); joins = λ j k x. path_there j (joins_there j k x) }

  through_joins : (i k : ℕ) → Through OnePath Joins i k → Joins i k
  through_joins i k t = subst (λ j. Joins j k) (sym (one_path_same i t.0 t.1)) t.2

  joins_through : (i k : ℕ) → Joins i k → Through OnePath Joins i k
  joins_through i k x = (i, path_there i (joins_there i k x), x)

  -- two runs behind one another, the first by path and the second through the rows
  pub run_behind : {P Q R : Type 0} (m : Model P) (n : Model Q) (o : Model R) → SameRun OnePath m n → SameRun Joins n o → SameRun Joins m o
  run_behind m n o x y = run_by_join (Through OnePath Joins) Joins through_joins joins_through m o (run_through OnePath Joins m n o (λ j. j) leads_back x y)

-- ---- the units of a file

module _ (f : File) (is : IsFile19 f) where
  abbrev ports : List Port
  ports = ports_in f

  abbrev level : Level
  level = bare_level f.entity.text f.architecture.text

  abbrev own : HaveOwnNames ports
  own = own_names f is.conditions ports (names_are f)

  abbrev signals_of : List Port → List ScalarSignal
  signals_of ps = map (port_signal level) ps

  -- the one scope of the file's processes
  abbrev scope : Scope
  scope = record { levels = level ∷ []; generates = []; unit = [] }

  abbrev elaborated_from : List Port → Forest Form → Elaborated
  elaborated_from ps processes = record { signals = signals_of ps; scopes = scopes_of scope processes; model = model_of ps processes }

  abbrev source : Model Process
  source = model_of ports (source_processes f.processes)

  listed_by_path : SameRun (HaveOnePath (signals_of ports) (signals_of ports)) source (model_of ports (listed_processes f.processes))
  listed_by_path =
      listed_run (HaveOnePath (signals_of ports) (signals_of ports)) ports (one_path_same f.entity.text f.architecture.text ports own) (path_named f.entity.text f.architecture.text ports own) f.processes is.is_file.processes (all_known f is)

  written_by_rows : SameRun (Joined (map (row_of f.entity.text) ports) (signals_of ports) (signals_of ports)) (model_of ports (listed_processes f.processes)) (model_of ports (written_processes f.processes))
  written_by_rows =
      written_run (Joined (map (row_of f.entity.text) ports) (signals_of ports) (signals_of ports)) ports (joined_same f.entity.text f.architecture.text ports own) (joined_named f.entity.text f.architecture.text ports own) f.processes is.is_file.processes (all_known f is)

  abbrev by_path : ℕ → ℕ → Type 0
  by_path = HaveOnePath (signals_of ports) (signals_of ports)

  lowered_units_same : IsSameByPath (elaborated_units (source_units f)) (elaborated_units (lowered_units f))
  lowered_units_same =
      let one : IsSameByPath (elaborated_from ports (source_processes f.processes)) (elaborated_from ports (listed_processes f.processes)) =
      record {
        each_left = λ i within. record { number = i; is_related = path_there f.entity.text f.architecture.text ports own i within; only = λ k x. sym (one_path_same f.entity.text f.architecture.text ports own i k x) };
        each_right = λ j within. record { number = j; is_related = path_there f.entity.text f.architecture.text ports own j within; only = λ k x. one_path_same f.entity.text f.architecture.text ports own k j x };
        run = same_run_at_inputs by_path _ _ (inputs_same by_path ports (one_path_same f.entity.text f.architecture.text ports own) (path_named f.entity.text f.architecture.text ports own) (source_processes f.processes) (listed_processes f.processes) (names_listed_alike f.processes)) listed_by_path;
        scopes = scopes_listed scope f.processes;
      } in
      subst (λ ps. IsSameByPath (elaborated_from ports (source_processes f.processes)) (elaborated_from ps (listed_processes f.processes))) (sym (ports_lowered f)) one

  -- ---- through the rows of the file's map

  abbrev RowsOf : List Row
  RowsOf = design_rows (file_shape f)

  scope_joins : (rs : List Row) → ScopesJoin rs scope scope
  scope_joins rs =
      record {
        levels = (record { entity = refl; architecture = refl; labels = (tt, inl (refl, refl)) }, tt);
        generates = λ l last. (tt, inl (refl, refl));
        indexes = tt;
        unit = refl;
      }

  scopes_join : (rs : List Row) (processes : Forest Form) → AllZip (ScopesJoin rs) (scopes_of scope processes) (scopes_of scope processes)
  scopes_join rs nothing = tt
  scopes_join rs (more g t p parts next) = (scope_joins rs, scopes_join rs next)

  abbrev by_rows : ℕ → ℕ → Type 0
  by_rows = Joined (map (row_of f.entity.text) ports) (signals_of ports) (signals_of ports)

  -- the same run through the rows, from these processes to the written ones
  with_rows : (left : Forest Form) → scopes_of scope left ≡ scopes_of scope (written_processes f.processes) → driven_names left ≡ driven_names (written_processes f.processes) → SameRun (Joined (map (row_of f.entity.text) ports) (signals_of ports) (signals_of ports)) (model_of ports left) (model_of ports (written_processes f.processes)) → IsSameRun RowsOf (elaborated_from ports left) (elaborated_from ports (written_processes f.processes))
  with_rows left scopes driven run =
      record {
        run =
            subst (λ rs. SameRunAtInputs (Joined rs (signals_of ports) (signals_of ports)) (model_of ports left) (model_of ports (written_processes f.processes))) (sym (rows_are f))
            (same_run_at_inputs by_rows _ _ (inputs_same by_rows ports (joined_same f.entity.text f.architecture.text ports own) (joined_named f.entity.text f.architecture.text ports own) left (written_processes f.processes) driven) run);
        scopes = subst (λ ss. AllZip (ScopesJoin RowsOf) (scopes_of scope left) ss) scopes (scopes_join RowsOf left);
        declared = λ i j x.
            let p = element_mapped (port_signal level) ports i x.left x.left_is in
            let q = element_mapped (port_signal level) ports j x.right x.right_is in
            subst (λ s. ScopesJoin RowsOf (declared_in (Some s)) (declared_in (Some x.right))) p.2
            (subst (λ s. ScopesJoin RowsOf scope (declared_in (Some s))) q.2 (scope_joins RowsOf));
      }

  flavour_units_run : IsSameRun RowsOf (elaborated_from (declared_ports (erased (lowered (port_shapes f)))) (listed_processes f.processes)) (elaborated_from (declared_ports (erased (single_ports (lowered (port_shapes f))))) (written_processes f.processes))
  flavour_units_run =
      subst (λ ps. IsSameRun RowsOf (elaborated_from ps (listed_processes f.processes)) (elaborated_from (declared_ports (erased (single_ports (lowered (port_shapes f))))) (written_processes f.processes))) (sym (ports_lowered f))
      (subst (λ qs. IsSameRun RowsOf (elaborated_from ports (listed_processes f.processes)) (elaborated_from qs (written_processes f.processes))) (sym (ports_kept f))
      (with_rows (listed_processes f.processes) (scopes_written scope f.processes) (names_written_alike f.processes) written_by_rows))

  written_units_run : IsSameRun RowsOf (elaborated_from ports (source_processes f.processes)) (elaborated_from (declared_ports (erased (single_ports (lowered (port_shapes f))))) (written_processes f.processes))
  written_units_run =
      subst (λ qs. IsSameRun RowsOf (elaborated_from ports (source_processes f.processes)) (elaborated_from qs (written_processes f.processes))) (sym (ports_kept f))
      (with_rows (source_processes f.processes) (scopes_listed scope f.processes ∙ scopes_written scope f.processes) (names_listed_alike f.processes ∙ names_written_alike f.processes)
      (run_behind f.entity.text f.architecture.text ports own source _ _ listed_by_path written_by_rows))

  -- ---- what both show

  processes_long : (qs : List Process) → AllZip SameProcess (processes_from 0 (listed_processes f.processes)) qs → length (processes_from 0 (source_processes f.processes)) ≡ length qs
  processes_long qs z =
      length_all_zip SameProcess _ _ (processes_listed f.processes 0 0 refl) ∙ length_all_zip SameProcess _ _ z

  written_units_show : ShowSame (elaborated_from ports (source_processes f.processes)) (elaborated_from (declared_ports (erased (single_ports (lowered (port_shapes f))))) (written_processes f.processes))
  written_units_show =
      let all = scopes_listed scope f.processes ∙ scopes_written scope f.processes in
      let left = elaborated_from ports (source_processes f.processes) in
      let right = elaborated_from ports (written_processes f.processes) in
      let there = number_there f.entity.text f.architecture.text ports own in
      let one = joined_same f.entity.text f.architecture.text ports own in
      let run = with_rows (source_processes f.processes) all (names_listed_alike f.processes ∙ names_written_alike f.processes) (run_behind f.entity.text f.architecture.text ports own source _ _ listed_by_path written_by_rows) in
      let here = subst (λ rs. SameRunAtInputs (Joined rs (signals_of ports) (signals_of ports)) (model_of ports (source_processes f.processes)) (model_of ports (written_processes f.processes))) (rows_are f) run.run in
      subst (λ qs. ShowSame left (elaborated_from qs (written_processes f.processes))) (sym (ports_kept f))
      (record {
        signals = refl;
        scopes = all;
        processes = processes_long (processes_from 0 (written_processes f.processes)) (processes_written f.processes 0 0 refl);
        traces = λ given cycles.
            trace_equal by_rows left right refl all there one _ _ (here.traces given given (λ i j x input. ap given (one i j x)) cycles);
      })

-- ---- every top

lowered_if : (f : File) → IsFile19 f → (b c : Bool) → IsSameByPathFor (elaborated_if (both_units (unit_if b (source_units f).entity) (unit_if c (source_units f).architecture))) (elaborated_if (both_units (unit_if b (lowered_units f).entity) (unit_if c (lowered_units f).architecture)))
lowered_if f is true true = lowered_units_same f is
lowered_if f is true false = tt
lowered_if f is false true = tt
lowered_if f is false false = tt

flavoured_if : (f : File) → IsFile19 f → (b c : Bool) → IsSameRunFor (design_rows (file_shape f)) (elaborated_if (both_units (unit_if b (lowered_units f).entity) (unit_if c (lowered_units f).architecture))) (elaborated_if (both_units (unit_if b (written_units f).entity) (unit_if c (written_units f).architecture)))
flavoured_if f is true true = flavour_units_run f is
flavoured_if f is true false = tt
flavoured_if f is false true = tt
flavoured_if f is false false = tt

written_if : (f : File) → IsFile19 f → (b c : Bool) → IsSameRunFor (design_rows (file_shape f)) (elaborated_if (both_units (unit_if b (source_units f).entity) (unit_if c (source_units f).architecture))) (elaborated_if (both_units (unit_if b (written_units f).entity) (unit_if c (written_units f).architecture)))
written_if f is true true = written_units_run f is
written_if f is true false = tt
written_if f is false true = tt
written_if f is false false = tt

shown_if : (f : File) → IsFile19 f → (b c : Bool) → ShowSameFor (elaborated_if (both_units (unit_if b (source_units f).entity) (unit_if c (source_units f).architecture))) (elaborated_if (both_units (unit_if b (written_units f).entity) (unit_if c (written_units f).architecture)))
shown_if f is true true = written_units_show f is
shown_if f is true false = tt
shown_if f is false true = tt
shown_if f is false false = tt

pub lowering_keeps_run : LoweringKeepsRun
lowering_keeps_run f is = record { for_each = λ top. lowered_if f is (has_entity f top) (has_architecture f top) }

pub flavour_keeps_run : FlavourKeepsRun
flavour_keeps_run f is = record { for_each = λ top. flavoured_if f is (has_entity f top) (has_architecture f top) }

pub writing_keeps_run : WritingKeepsRun
writing_keeps_run f is = record { for_each = λ top. written_if f is (has_entity f top) (has_architecture f top) }

pub writing_keeps_traces : WritingKeepsTraces
writing_keeps_traces f is = record { for_each = λ top. shown_if f is (has_entity f top) (has_architecture f top) }
