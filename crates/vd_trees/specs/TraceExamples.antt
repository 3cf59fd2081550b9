-- Worked traces, so that a reader can hold the definitions of their text against them.
use Rattle.std.specs.Prelude.{◌≡◌, ℕ, ℤ, pos, negsuc, List, [], ◌∷◌, ◌++◌, map, codes, Some, None}
use Rattle.std.specs.List.{flat_map}
use Rattle.vd_values.specs.declared.scalar.Scalar.{Scalar}
use Rattle.vd_values.specs.declared.scalar.Scalar.TheVariants.{Integer, Literal, Time}
use Rattle.vd_values.specs.declared.scalar.StopKind.{StopKind}
use Rattle.vd_values.specs.declared.scalar.StopKind.TheVariants.{Overflow, TwoSources, Failure}
use Rattle.vd_trees.specs.declared.paths.Label.{Label}
use Rattle.vd_trees.specs.declared.paths.Level.{Level}
use Rattle.vd_trees.specs.declared.paths.PathStep.TheVariants.{Field, Index}
use Rattle.vd_trees.specs.declared.paths.Path.{Path}
use Rattle.vd_trees.specs.declared.paths.Scope.{Scope}
use Rattle.vd_trees.specs.declared.traces.Report.{Report}
use Rattle.vd_trees.specs.declared.traces.Stop.{Stop}
use Rattle.vd_trees.specs.Paths.{path_text, scope_text}
use Rattle.vd_trees.specs.Traces.{shows, stops, Step, done, quiet, halted, not_elaborated}
use Rattle.vd_trees.specs.ValueTexts.{ScalarType, integers, times, enumeration, value_text}
use Rattle.vd_trees.specs.TraceText.{trace_text}

-- ---- what the examples are made of

-- lines, each with its end (10)
abbrev pub text_of_lines : List (List ℕ) → List ℕ
text_of_lines lines = flat_map (λ text. text ++ 10 ∷ []) lines

abbrev pub std_ulogic : ScalarType
std_ulogic =
    enumeration (codes "'U'" ∷ codes "'X'" ∷ codes "'0'" ∷ codes "'1'" ∷ codes "'Z'" ∷ codes "'W'" ∷ codes "'L'" ∷ codes "'H'"
    ∷ codes "'-'" ∷ [])

abbrev pub boolean : ScalarType
boolean = enumeration (codes "false" ∷ codes "true" ∷ [])

abbrev pub plain_label : List ℕ → Label
plain_label name = record { name = name; index = None }

abbrev pub indexed_label : List ℕ → ℤ → List ℕ → Label
indexed_label name position text = record { name = name; index = Some (record { position = position; text = text }) }

abbrev pub level : List Label → List ℕ → Level
level labels entity = record { labels = labels; entity = entity; architecture = codes "rtl" }

-- a signal of the top entity
abbrev pub top_signal : List ℕ → List ℕ → Path
top_signal entity name = record { levels = level [] entity ∷ []; generates = []; object = name; rest = [] }

abbrev pub top_scope : List ℕ → Scope
top_scope entity = record { levels = level [] entity ∷ []; generates = []; unit = [] }

abbrev pub stop_in : List ℕ → StopKind → ℕ → ℕ → List ℕ → Stop
stop_in entity kind time delta text = record { kind = kind; time = time; delta = delta; scope = top_scope entity; text = text }

-- a step without reports
abbrev pub shown_at : ℕ → ℕ → List Scalar → Step
shown_at time delta values = record { time = time; delta = delta; reports = []; outcome = shows values }

-- ---- paths and values

-- a field of an element, in a generate of an instance that itself stands in a generate
abbrev pub PrintsPaths : Type 0
PrintsPaths =
    path_text (record {
      levels = level [] (codes "top") ∷ level (indexed_label (codes "g") (pos 3) (codes "3") ∷ plain_label (codes "u") ∷ []) (codes "k") ∷ [];
      generates = indexed_label (codes "h") (pos 1) (codes "busy") ∷ [];
      object = codes "s";
      rest = Index (record { position = negsuc 1; text = codes "-2" }) ∷ Field (codes "f") ∷ [];
    })
    ≡ codes "top.g(3).u.h(busy).s(-2).f"

-- where a process of a generate stands, and a declaration of a package
abbrev pub PrintsScopes : Type 0
PrintsScopes =
    (scope_text (record {
      levels = level [] (codes "top") ∷ level (plain_label (codes "u") ∷ []) (codes "k") ∷ [];
      generates = plain_label (codes "g") ∷ [];
      unit = [];
    })
    ≡ codes "top.u.g")
    × (scope_text (record { levels = []; generates = []; unit = codes "pk" }) ≡ codes "pk")

abbrev pub PrintsValues : Type 0
PrintsValues =
    (value_text integers (Integer (negsuc 4)) ≡ codes "-5")
    × (value_text times (Time 5) ≡ codes "5 fs")
    × (value_text boolean (Literal 1) ≡ codes "true")
    × (value_text std_ulogic (Literal 8) ≡ codes "'-'")

-- ---- traces

-- y <= a and b; of inputs that nothing drives
abbrev pub PrintsQuietGate : Type 0
PrintsQuietGate =
    let unknown : List Scalar = Literal 0 ∷ Literal 0 ∷ Literal 0 ∷ [] in
    trace_text (map (top_signal (codes "e")) (codes "a" ∷ codes "b" ∷ codes "y" ∷ [])) (std_ulogic ∷ std_ulogic ∷ std_ulogic ∷ [])
    (record { steps = shown_at 0 0 unknown ∷ shown_at 0 1 unknown ∷ []; end = quiet })
    ≡ text_of_lines (codes "cycle 0 0 0"
    ∷ codes "e.a = 'U'"
    ∷ codes "e.b = 'U'"
    ∷ codes "e.y = 'U'"
    ∷ codes "cycle 1 0 1"
    ∷ codes "quiet"
    ∷ [])

-- s <= '1' after 5 ns;
abbrev pub PrintsDelayedChange : Type 0
PrintsDelayedChange =
    trace_text (map (top_signal (codes "w")) (codes "s" ∷ codes "c" ∷ [])) (std_ulogic ∷ boolean ∷ [])
    (record { steps = shown_at 0 0 (Literal 2 ∷ Literal 0 ∷ []) ∷ shown_at 5000000 0 (Literal 3 ∷ Literal 0 ∷ []) ∷ []; end = quiet })
    ≡ text_of_lines (codes "cycle 0 0 0" ∷ codes "w.s = '0'" ∷ codes "w.c = false" ∷ codes "cycle 1 5000000 0" ∷ codes "w.s = '1'" ∷ codes "quiet" ∷ [])

-- the actual `a and not b` of the instance `u` has a signal of its own, which the instance's port follows
abbrev pub PrintsImplicitSignal : Type 0
PrintsImplicitSignal =
    let port : Path = record { levels = level [] (codes "t") ∷ level (plain_label (codes "u") ∷ []) (codes "k") ∷ []; generates = []; object = codes "x"; rest = [] } in
    trace_text (top_signal (codes "t") (codes "a") ∷ top_signal (codes "t") (codes "b") ∷ top_signal (codes "t") (codes "u'x") ∷ port ∷ [])
    (std_ulogic ∷ std_ulogic ∷ std_ulogic ∷ std_ulogic ∷ [])
    (record {
      steps = shown_at 0 0 (Literal 3 ∷ Literal 2 ∷ Literal 0 ∷ Literal 0 ∷ []) ∷ shown_at 0 1 (Literal 3 ∷ Literal 2 ∷ Literal 3 ∷ Literal 3 ∷ []) ∷ [];
      end = quiet;
    })
    ≡ text_of_lines (codes "cycle 0 0 0"
    ∷ codes "t.a = '1'"
    ∷ codes "t.b = '0'"
    ∷ codes "t.u'x = 'U'"
    ∷ codes "t.u.x = 'U'"
    ∷ codes "cycle 1 0 1"
    ∷ codes "t.u'x = '1'"
    ∷ codes "t.u.x = '1'"
    ∷ codes "quiet"
    ∷ [])

-- c <= c + 1; near the greatest INTEGER
abbrev pub counting_steps : List Step
counting_steps = shown_at 0 0 (Integer (pos 2147483645) ∷ []) ∷ shown_at 0 1 (Integer (pos 2147483646) ∷ []) ∷ []

abbrev pub counting_lines : List (List ℕ)
counting_lines = codes "cycle 0 0 0" ∷ codes "o.c = 2147483645" ∷ codes "cycle 1 0 1" ∷ codes "o.c = 2147483646" ∷ []

-- after one cycle, where no more are asked for
abbrev pub PrintsDoneCount : Type 0
PrintsDoneCount =
    trace_text (top_signal (codes "o") (codes "c") ∷ []) (integers ∷ []) (record { steps = counting_steps; end = done })
    ≡ text_of_lines (counting_lines ++ codes "done" ∷ [])

-- the next cycle stops
abbrev pub PrintsOverflow : Type 0
PrintsOverflow =
    trace_text (top_signal (codes "o") (codes "c") ∷ []) (integers ∷ [])
    (record {
      steps = counting_steps ++ record { time = 0; delta = 2; reports = []; outcome = stops (stop_in (codes "o") Overflow 0 2 []) } ∷ [];
      end = halted;
    })
    ≡ text_of_lines (counting_lines ++ codes "cycle 2 0 2" ∷ codes "stop Overflow 0 2 o" ∷ [])

-- a report of severity `failure` is printed and stops
abbrev pub PrintsFailure : Type 0
PrintsFailure =
    let reported : List ℕ = codes "vdown: matching case selector holds '-'" in
    let failure : Step = record { time = 0; delta = 0; reports = record { severity = 3; text = reported } ∷ []; outcome = stops (stop_in (codes "m") Failure 0 0 reported) } in
    trace_text (top_signal (codes "m") (codes "sel") ∷ []) (std_ulogic ∷ []) (record { steps = failure ∷ []; end = halted })
    ≡ text_of_lines (codes "cycle 0 0 0" ∷ codes "report 0 0 failure vdown: matching case selector holds '-'" ∷ codes "stop Failure 0 0 m" ∷ [])

-- a backslash (92), a newline (10) and a byte beyond ASCII (255) in reports of a process alone
abbrev pub PrintsEscapes : Type 0
PrintsEscapes =
    let said : Report = record { severity = 1; text = codes "a~" ++ 92 ∷ 10 ∷ 255 ∷ [] } in
    let silent : Report = record { severity = 0; text = [] } in
    trace_text [] [] (record { steps = record { time = 7; delta = 0; reports = said ∷ silent ∷ []; outcome = shows [] } ∷ []; end = quiet })
    ≡ text_of_lines (codes "cycle 0 7 0" ∷ codes "report 7 0 warning a~\\5c\\0a\\ff" ∷ codes "report 7 0 note " ∷ codes "quiet" ∷ [])

-- an unresolved signal with two sources
abbrev pub PrintsNoElaboration : Type 0
PrintsNoElaboration =
    trace_text [] [] (record { steps = []; end = not_elaborated (stop_in (codes "x") TwoSources 0 0 []) })
    ≡ text_of_lines (codes "stop TwoSources 0 0 x" ∷ [])
