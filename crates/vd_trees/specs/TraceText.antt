-- A trace as text, line by line. Each step has a line of its own, then its reports, then the signals that show another value
-- than in the step before, or its stop. The last line says how the run ended.
use Rattle.std.specs.Prelude.{ℕ, ◌+◌, ◌/◌, ◌%◌, Bool, true, false, not, ◌||◌, List, [], ◌∷◌, ◌++◌, drop, codes, slice_index_or, nat_lt, ◌==◌, if◌then◌else◌}
use Rattle.std.specs.List.{flat_map, join_with_byte}
use Rattle.std.specs.Fmt.{decimal, digit_glyph}
use Rattle.vd_values.specs.declared.scalar.Scalar.{Scalar}
use Rattle.vd_values.specs.declared.scalar.StopKind.{StopKind}
use Rattle.vd_values.specs.declared.scalar.StopKind.TheVariants as kinds
use Rattle.vd_trees.specs.declared.paths.Path.{Path}
use Rattle.vd_trees.specs.declared.traces.Report.{Report}
use Rattle.vd_trees.specs.declared.traces.Stop.{Stop}
use Rattle.vd_trees.specs.Paths.{path_text, scope_text}
use Rattle.vd_trees.specs.Traces.{Outcome, shows, stops, Step, End, done, quiet, halted, not_elaborated, Trace}
use Rattle.vd_trees.specs.ValueTexts.{ScalarType, value_text, same_scalar}

-- words with a space (32) between them, and a newline (10) behind the last
abbrev pub line : List (List ℕ) → List ℕ
line words = join_with_byte 32 words ++ 10 ∷ []

-- ---- reports and stops

-- a backslash (92) and a byte that is no printed character of ASCII are a backslash and two digits of base 16, in lower case
abbrev pub escaped : ℕ → List ℕ
escaped b =
    if b == 92 || (nat_lt b 32 || nat_lt 126 b) then 92 ∷ digit_glyph false (b / 16) ∷ digit_glyph false (b % 16) ∷ []
    else b ∷ []

-- of a severity by its position
abbrev pub severity_text : ℕ → List ℕ
severity_text n = slice_index_or (codes "note" ∷ codes "warning" ∷ codes "error" ∷ codes "failure" ∷ []) n []

-- report TIME DELTA SEVERITY TEXT
abbrev pub report_line : ℕ → ℕ → Report → List ℕ
report_line time delta r =
    line (codes "report" ∷ decimal time ∷ decimal delta ∷ severity_text r.severity ∷ flat_map escaped r.text ∷ [])

abbrev pub kind_text : StopKind → List ℕ
kind_text kinds.Range = codes "Range"
kind_text kinds.Index = codes "Index"
kind_text kinds.Length = codes "Length"
kind_text kinds.Overflow = codes "Overflow"
kind_text kinds.DivideByZero = codes "DivideByZero"
kind_text kinds.NoReturn = codes "NoReturn"
kind_text kinds.TwoSources = codes "TwoSources"
kind_text kinds.Failure = codes "Failure"

-- stop KIND TIME DELTA SCOPE
abbrev pub stop_line : Stop → List ℕ
stop_line s = line (codes "stop" ∷ kind_text s.kind ∷ decimal s.time ∷ decimal s.delta ∷ scope_text s.scope ∷ [])

-- ---- values

-- PATH = VALUE
abbrev pub value_line : Path → ScalarType → Scalar → List ℕ
value_line p t v = line (path_text p ∷ codes "=" ∷ value_text t v ∷ [])

-- it isn't the first of the earlier values, if there are any
abbrev pub is_new : List Scalar → Scalar → Bool
is_new [] v = true
is_new (earlier ∷ others) v = not (same_scalar earlier v)

-- the signals whose values are new; there are no earlier values in the initialisation
abbrev pub value_lines : List Path → List ScalarType → List Scalar → List Scalar → List ℕ
value_lines (p ∷ ps) (t ∷ ts) earlier (v ∷ vs) = (if is_new earlier v then value_line p t v else []) ++ value_lines ps ts (drop 1 earlier) vs
value_lines _ _ _ _ = []

-- ---- steps

abbrev pub outcome_text : List Path → List ScalarType → List Scalar → Outcome → List ℕ
outcome_text ps ts earlier (shows values) = value_lines ps ts earlier values
outcome_text ps ts earlier (stops stop) = stop_line stop

-- cycle NUMBER TIME DELTA, the reports, and what the step comes to
abbrev pub step_lines : List Path → List ScalarType → ℕ → List Scalar → Step → List ℕ
step_lines ps ts number earlier s =
    line (codes "cycle" ∷ decimal number ∷ decimal s.time ∷ decimal s.delta ∷ [])
    ++ (flat_map (report_line s.time s.delta) s.reports ++ outcome_text ps ts earlier s.outcome)

-- none in a step that stops
abbrev pub shown_values : Outcome → List Scalar
shown_values (shows values) = values
shown_values (stops stop) = []

-- the steps from this number on
abbrev pub steps_text : List Path → List ScalarType → ℕ → List Scalar → List Step → List ℕ
steps_text ps ts number earlier [] = []
steps_text ps ts number earlier (s ∷ ss) = step_lines ps ts number earlier s ++ steps_text ps ts (number + 1) (shown_values s.outcome) ss

-- a step that stopped has its line already
abbrev pub end_text : End → List ℕ
end_text done = line (codes "done" ∷ [])
end_text quiet = line (codes "quiet" ∷ [])
end_text halted = []
end_text (not_elaborated stop) = stop_line stop

-- the trace of a design with these scalar signals, each with its path and its type
abbrev pub trace_text : List Path → List ScalarType → Trace → List ℕ
trace_text ps ts t = steps_text ps ts 0 [] t.steps ++ end_text t.end
