-- What sequential statements do. (IEEE 1076, sequential statements.)
use Rattle.std.specs.Prelude.{ℕ, ◌+◌, ◌^◌, nat_lt, ◌==◌, Bool, true, false, List, [], ◌∷◌, map, Option, Some, None, Ok, Err, codes, if◌then◌else◌}
use Rattle.std.specs.List.{list_any}
use Rattle.vd_values.specs.declared.scalar.Scalar.{Scalar}
use Rattle.vd_values.specs.declared.scalar.Scalar.TheVariants.{Literal, Time}
use Rattle.vd_values.specs.declared.scalar.StopKind.TheVariants.{Overflow, Failure}
use Rattle.vd_trees.specs.declared.traces.Report.{Report}
use Rattle.vd_kernel.specs.declared.assignments.Assignment.{Assignment}
use Rattle.vd_kernel.specs.declared.assignments.Delay.{Delay}
use Rattle.vd_composites.specs.declared.ranges.Bounds.{Bounds}
use Rattle.vd_composites.specs.declared.scalars.ScalarType.{ScalarType}
use Rattle.vd_composites.specs.Stops.{◌>>=◌}
use Rattle.vd_composites.specs.Ranges.{is_within, values_in}
use Rattle.vd_composites.specs.Scalars.{scalar_at}
use Rattle.vd_composites.specs.Composites.{Value, One, leaves, same_value}
use Rattle.vd_composites.specs.Parts.{changed}
use Rattle.vd_composites.specs.Subtypes.{Subtype, fit}
use Rattle.vd_vectors.specs.declared.logics.LogicType.{LogicType}
use Rattle.vd_vectors.specs.declared.logics.LogicType.TheVariants.{NineValued}
use Rattle.vd_vectors.specs.Logics.{logic_value}
use Rattle.vd_values.specs.declared.logic.Logic.TheVariants as logic
use Rattle.vd_operators.specs.Applied.{applied}
use Rattle.vd_operators.specs.declared.op.Op.TheVariants.{Binary}
use Rattle.vd_operators.specs.declared.op.BinaryOp.TheVariants.{Matching}
use Rattle.vd_environments.specs.Got.{Got, got, stop, senseless}
use Rattle.vd_environments.specs.Environments.{ScalarSignal, Signals, Env, Place, with_value, or_senseless, unknown}
use Rattle.vd_environments.specs.Commands.{Effect, Return, Command, Skip, Act, Then, Choose, Wait, Leave, acting}
use Rattle.vd_environments.specs.Processes.{numbers_of}
use Rattle.vd_meaning.specs.Tables.{Table, Sort, LogicSort, LogicsSort, sort_of}
use Rattle.vd_meaning.specs.Operators.{truth_in, literal_of}
use Rattle.vd_meaning.specs.Names.{Named, position_in, scalar_type}
use Rattle.vd_meaning.specs.Facets.{Meaning, value_of, Waveform, Comparison, ByEquality, ByMatching}

-- a condition, which is BOOLEAN
abbrev pub truth_of : Meaning → Env → Got Bool
truth_of m e = value_of m e >>= truth_in

-- ---- assignments

-- A variable assignment: the value; the target with its indexes; then whether the value fits.
abbrev pub put : Place → Subtype → Value Scalar → Env → Got Env
put p s v e =
    got (fit s v) >>= λ w. got (changed p.steps w (e.denotes p.object).value) >>= λ new. Ok (with_value p.object new e)

abbrev pub setting : Named → Waveform → Command
setting target w =
    acting (λ e. w.value (target.subtype e) e >>= λ v. target.place e >>= λ p. target.subtype e >>= λ s. put p s v e)

abbrev pub time_in : Value Scalar → Got ℕ
time_in (One (Time t)) = Ok t
time_in _ = senseless

-- a time that is so much later; TIME has values below 2^63
abbrev pub due : Env → ℕ → Got ℕ
due e delay = if nat_lt (e.view.time + delay) (2 ^ 63) then Ok (e.view.time + delay) else stop Overflow

-- one assignment for each scalar signal of the target, which the process drives, of which there are as many as scalars of the value
abbrev pub assigned_to : (ℕ → Option ℕ) → Delay → ℕ → List ScalarSignal → List Scalar → Got (List Assignment)
assigned_to drivers mode time (n ∷ ns) (x ∷ xs) =
    or_senseless (drivers n.number) >>= λ d. assigned_to drivers mode time ns xs >>= λ rest.
    Ok (record { driver = d; delay = mode; new = record { time = time; value = x } } ∷ rest)
assigned_to drivers mode time [] [] = Ok []
assigned_to drivers mode time _ _ = senseless

abbrev pub effect_of : Env → Got (List Assignment) → Effect
effect_of e (Ok sent) = record { assignments = sent; reports = []; after = Ok e }
effect_of e (Err s) = record { assignments = []; reports = []; after = Err s }

-- A signal assignment: the value, the delay, the target with its indexes; then whether the value fits, and whether the time does.
abbrev pub sending : Named → Delay → Waveform → Env → Got (List Assignment)
sending target mode w e =
    w.value (target.subtype e) e >>= λ v. w.delay e >>= λ d. target.signals e >>= λ ns. target.subtype e >>= λ s.
    got (fit s v) >>= λ x. due e d >>= λ t. assigned_to e.drivers mode t (leaves ns) (leaves x)

abbrev pub driving : Named → Delay → Waveform → Command
driving target mode w = Act (λ e. effect_of e (sending target mode w e))

-- a return of a value as one of the subtype of the function's result
abbrev pub giving : Waveform → Command
giving w = Leave (λ e. w.value (Ok e.result) e >>= λ v. got (fit e.result v) >>= λ x. Ok (Return x))

-- ---- reports

abbrev pub code_of : Scalar → ℕ
code_of (Literal p) = p
code_of _ = 0

-- the codes of a value of STRING
abbrev pub text_in : Value Scalar → List ℕ
text_in v = map code_of (leaves v)

-- A report of severity failure (3) stops the run, and the stop says what is reported.
abbrev pub reported : Env → ℕ → List ℕ → Effect
reported e severity text =
    if severity == 3 then record { assignments = []; reports = []; after = Err (record { kind = Failure; text = text }) }
    else record { assignments = []; reports = record { severity = severity; text = text } ∷ []; after = Ok e }

abbrev pub report_of : Env → Got Report → Effect
report_of e (Err s) = record { assignments = []; reports = []; after = Err s }
report_of e (Ok said) = reported e said.severity said.text

-- the text, then the severity
abbrev pub reporting : (Env → Got (List ℕ)) → (Env → Got ℕ) → Command
reporting text severity = Act (λ e. report_of e (text e >>= λ cs. severity e >>= λ n. Ok (record { severity = n; text = cs })))

abbrev pub text_or : List ℕ → Meaning → Env → Got (List ℕ)
text_or default m e = if m.is_present then (value_of m e >>= λ v. Ok (text_in v)) else Ok default

abbrev pub severity_or : ℕ → Meaning → Env → Got ℕ
severity_or default m e = if m.is_present then (value_of m e >>= literal_of) else Ok default

-- severity note is 0, and error 2
abbrev pub report : Meaning → Meaning → Command
report text severity = reporting (text_or [] text) (severity_or 0 severity)

abbrev pub assertion : Meaning → Meaning → Meaning → Command
assertion test text severity = Choose (truth_of test) Skip (reporting (text_or (codes "Assertion violation.") text) (severity_or 2 severity))

-- ---- choices

-- the `?=` of two values is of their element type, and holds where it is '1'
abbrev pub is_one : LogicType → Value Scalar → Bool
is_one of x = same_value x (logic_value of logic.One)

-- whether a choice that is a value has the selector's value
abbrev pub is_chosen : Comparison → Value Scalar → Value Scalar → Got Bool
is_chosen ByEquality v w = Ok (same_value v w)
is_chosen (ByMatching of) v w = got (applied (Binary (Matching true of)) (v ∷ w ∷ [])) >>= λ x. Ok (is_one of x)

-- and one that is a range, of which each value is a choice of its own
abbrev pub any_chosen : Comparison → Value Scalar → List (Value Scalar) → Got Bool
any_chosen c v [] = Ok false
any_chosen c v (w ∷ ws) = is_chosen c v w >>= λ b. if b then Ok true else any_chosen c v ws

abbrev pub range_values : ScalarType → Bounds → List (Value Scalar)
range_values t b = map (λ i. One (scalar_at t i)) (values_in b)

abbrev pub is_in_range : Comparison → Option ℕ → Value Scalar → Env → Bounds → Got Bool
is_in_range ByEquality mark v e b = position_in v >>= λ i. Ok (is_within b i)
is_in_range (ByMatching of) mark v e b = scalar_type mark e >>= λ t. any_chosen (ByMatching of) v (range_values t b)

abbrev pub covers_by : Option (Env → Got Bounds) → Meaning → Comparison → Value Scalar → Env → Got Bool
covers_by None m c v e = value_of m e >>= is_chosen c v
covers_by (Some range) m c v e = range e >>= is_in_range c m.mark v e

abbrev pub covered : Meaning → Comparison → Value Scalar → Env → Got Bool
covered m c v e = covers_by m.range m c v e

-- the first of some choices that has it
abbrev pub any_covers : List Meaning → Comparison → Value Scalar → Env → Got Bool
any_covers [] c v e = Ok false
any_covers (m ∷ ms) c v e = covered m c v e >>= λ b. if b then Ok true else any_covers ms c v e

-- ---- alternatives

-- the first alternative that has the selector's value, and nothing where none has
abbrev pub alternatives : (Meaning → Command) → List Meaning → Comparison → (Env → Got (Value Scalar)) → Command
alternatives f [] c selector = Choose (λ e. selector e >>= λ v. Ok true) Skip Skip
alternatives f (m ∷ ms) c selector = Choose (λ e. selector e >>= λ v. m.covers c v e) (f m) (alternatives f ms c selector)

-- '-' is the literal 8 of STD_ULOGIC
abbrev pub is_dash : Scalar → Bool
is_dash (Literal n) = n == 8
is_dash _ = false

abbrev pub holds_dash : Comparison → Value Scalar → Bool
holds_dash (ByMatching NineValued) v = list_any is_dash (leaves v)
holds_dash _ v = false

-- A selector of a matching case that holds '-' is a failure.
abbrev pub dash_refused : Comparison → (Env → Got (Value Scalar)) → Command → Command
dash_refused c selector rest =
    Then (Choose (λ e. selector e >>= λ v. Ok (holds_dash c v))
    (reporting (λ _. Ok (codes "vdown: matching case selector holds '-'")) (λ _. Ok 3)) Skip) rest

abbrev pub comparison_by : Sort → Comparison
comparison_by (LogicSort of) = ByMatching of
comparison_by (LogicsSort of) = ByMatching of
comparison_by _ = ByEquality

-- by `=`, or with `?` by `?=`
abbrev pub comparison : Table → Bool → Meaning → Comparison
comparison t matching selector = if matching then comparison_by (sort_of t selector.mark) else ByEquality

abbrev pub selecting : Comparison → (Env → Got (Value Scalar)) → (Comparison → (Env → Got (Value Scalar)) → Command) → Command
selecting ByEquality selector cases = cases ByEquality selector
selecting (ByMatching of) selector cases = dash_refused (ByMatching of) selector (cases (ByMatching of) selector)

-- ---- waits

-- when a wait ends in any case, where it has a timeout
abbrev pub timeout_of : Meaning → Env → Got (Option ℕ)
timeout_of m e = if m.is_present then (value_of m e >>= time_in >>= due e >>= λ t. Ok (Some t)) else Ok None

abbrev pub condition_of : Meaning → Env → Got Bool
condition_of m e = if m.is_present then truth_of m e else Ok true

-- The names that it is sensitive to: those of its list, or else those that its condition reads.
abbrev pub waited_for : Meaning → Meaning → Env → Got (List Signals)
waited_for list condition e = if list.is_present then list.reads e else (if condition.is_present then condition.reads e else Ok [])

-- the names in order, then the timeout; the condition is evaluated when there is an event
abbrev pub waiting_for : Meaning → Meaning → Meaning → Command
waiting_for list condition timeout =
    Wait (λ e. waited_for list condition e >>= λ names. timeout_of timeout e >>= λ t.
    Ok (record { on = numbers_of names; until = condition_of condition; timeout = t }))

-- ---- loops

abbrev pub values_of_range : Meaning → Env → Got (List (Value Scalar))
values_of_range m e = Rattle.vd_environments.specs.Environments.or_senseless m.range >>= λ range. range e >>= λ b. scalar_type m.mark e >>= λ t. Ok (range_values t b)
