-- What some processes and functions do.
use Rattle.std.specs.Prelude.{◌≡◌, ℕ, pos, Bool, true, false, List, [], ◌∷◌, map, Option, Some, None, Ok, Err, codes}
use Rattle.vd_values.specs.declared.scalar.Scalar.{Scalar}
use Rattle.vd_values.specs.declared.scalar.Scalar.TheVariants.{Literal}
use Rattle.vd_values.specs.declared.scalar.StopKind.{StopKind}
use Rattle.vd_values.specs.declared.scalar.StopKind.TheVariants.{Failure, NoReturn, Length}
use Rattle.vd_trees.specs.declared.traces.Report.{Report}
use Rattle.vd_kernel.specs.declared.assignments.Assignment.{Assignment}
use Rattle.vd_kernel.specs.declared.assignments.Delay.TheVariants.{Inertial}
use Rattle.vd_kernel.specs.Models.{Start, Wake, Turn, Ending, Waits, Stops}
use Rattle.vd_declarations.specs.declared.classes.Class.TheVariants as class
use Rattle.vd_declarations.specs.declared.declarations.Declaration.{Declaration}
use Rattle.vd_forest.specs.Forest.{Forest}
use Rattle.vd_forms.specs.declared.form.Form.{Form}
use Rattle.vd_resolved.specs.declared.node.Resolved.{Resolved}
use Rattle.vd_forms.specs.declared.form.Form.TheVariants as form
use Rattle.vd_composites.specs.Composites.{Value}
use Rattle.vd_predefined.specs.Entries.{declared}
use Rattle.vd_predefined.specs.declared.numbers.TheConstants.{BOOLEAN, BIT, INTEGER, TIME, STRING, BIT_VECTOR, STD_ULOGIC}
use Rattle.vd_environments.specs.Got.{Got, stop, all_got}
use Rattle.vd_environments.specs.Environments.{Env, unknown}
use Rattle.vd_environments.specs.Processes.{Process, Running, Elaborated, elaborated, step}
use Rattle.vd_meaning_facts.specs.Trees.{own, object, node, plain, absent, of, leaf, operator, number, letter, quotes, first, name, longer, attribute, others, upto, meaning}
use Rattle.vd_meaning_facts.specs.Expressions.{s, v, b, n, ii, bit, integer, around, element, false_literal}

-- ---- declarations behind those of the expressions: variable a, the label l, the parameter i of its loop, a function f with parameters x and y

abbrev pub a : ℕ
a = own 6

abbrev pub l : ℕ
l = own 7

abbrev pub i : ℕ
i = own 8

abbrev pub f : ℕ
f = own 9

abbrev pub x : ℕ
x = own 10

abbrev pub y : ℕ
y = own 11

abbrev pub declarations : List Declaration
declarations =
    Rattle.std.specs.Prelude.◌++◌ Rattle.vd_meaning_facts.specs.Expressions.declarations
    (object class.Variable INTEGER ∷ declared class.Label [] None [] ∷ object class.LoopParameter INTEGER
    ∷ declared class.Function (codes "f") (Some INTEGER) (x ∷ y ∷ []) ∷ object class.Parameter INTEGER ∷ object class.Parameter BIT_VECTOR ∷ [])

-- ---- pieces of statements

abbrev pub word : ℕ → Forest Resolved
word d = node form.Identifier (Some d) None 0 [] []

abbrev pub mark_name : ℕ → Forest Resolved
mark_name d = node form.SelectedName (Some d) None 0 [] []

abbrev pub indication : ℕ → Forest Resolved
indication d = plain form.SubtypeIndication (mark_name d ∷ absent ∷ [])

abbrev pub equal : ℕ → Forest Resolved → Forest Resolved → Forest Resolved
equal mark left right = operator form.Equal (codes "=") (mark ∷ mark ∷ []) BOOLEAN (left ∷ right ∷ [])

abbrev pub nanoseconds : List ℕ → Forest Resolved
nanoseconds digits = of form.PhysicalLiteral TIME (number digits ∷ leaf form.Identifier (codes "ns") ∷ [])

abbrev pub logic : ℕ → ℕ → Forest Resolved
logic position character = letter STD_ULOGIC position character

-- variable a : integer := 0;
abbrev pub variable_a : Forest Resolved
variable_a = plain form.VariableDeclaration (plain form.IdentifierList (word a ∷ []) ∷ indication INTEGER ∷ number (codes "0") ∷ [])

-- l : for i in 1 to 3 loop  next l when i = 2;  a := a + i;  end loop;
abbrev pub loop_over_i : Forest Resolved
loop_over_i =
    plain form.LabelledStatement (word l ∷ node form.ForLoop (Some i) None 0 []
    (word i ∷ upto INTEGER (number (codes "1")) (number (codes "3"))
    ∷ plain form.Statements
    (plain form.NextStatement (word l ∷ equal INTEGER (name i INTEGER) (number (codes "2")) ∷ [])
    ∷ plain form.VariableAssignment (name a INTEGER ∷ operator form.Add (codes "+") ii INTEGER (name a INTEGER ∷ name i INTEGER ∷ []) ∷ [])
    ∷ [])
    ∷ absent ∷ [])
    ∷ [])

-- s <= '0' after 2 ns;
abbrev pub assignment : Forest Resolved
assignment = plain form.SignalAssignment (name s STD_ULOGIC ∷ absent ∷ plain form.DelayedWaveform (logic 2 48 ∷ nanoseconds (codes "2") ∷ []) ∷ [])

-- wait until s = '0' for 5 ns;
abbrev pub wait_until : Forest Resolved
wait_until = plain form.WaitStatement (absent ∷ equal STD_ULOGIC (name s STD_ULOGIC) (logic 2 48) ∷ nanoseconds (codes "5") ∷ [])

-- assert a = 4 report "no" severity failure;
abbrev pub severity : ℕ → Forest Resolved
severity position = longer Rattle.vd_predefined.specs.declared.numbers.TheConstants.SEVERITY_LEVEL (node form.Identifier (Some (Rattle.std.specs.Prelude.◌+◌ 141 position)) (Some 140) position [] [] ∷ [])

abbrev pub check : List ℕ → Forest Resolved
check digits = plain form.AssertStatement (equal INTEGER (name a INTEGER) (number digits) ∷ quotes STRING (codes "no") ∷ severity 3 ∷ [])

abbrev pub process : List (Forest Resolved) → Forest Resolved
process statements = plain form.ProcessStatement (absent ∷ absent ∷ plain form.DeclarativePart (variable_a ∷ []) ∷ plain form.Statements statements ∷ absent ∷ [])

-- the process of a concurrent statement, elaborated
abbrev pub first_process : List Process → Got Elaborated
first_process [] = Rattle.vd_environments.specs.Got.senseless
first_process (p ∷ ps) = elaborated 4 p around

abbrev pub elaborated_process : Forest Resolved → Got Elaborated
elaborated_process tree = first_process (meaning declarations tree).processes

-- ---- what is seen of its turns

-- assignments, reports, the signals that are waited for and the time of the timeout, or the stop
pub record Seen : Type 0 where
  pub assignments : List Assignment
  pub reports : List Report
  pub on : List ℕ
  pub timeout : Option ℕ
  pub stopped : Option StopKind

abbrev pub seen_ending : List Assignment → List Report → Ending Running → Seen
seen_ending sent said (Waits p) = record { assignments = sent; reports = said; on = p.on; timeout = p.timeout; stopped = None }
seen_ending sent said (Stops k) = record { assignments = sent; reports = said; on = []; timeout = None; stopped = Some k }

abbrev pub seen : Turn Running → Seen
seen t = seen_ending t.assignments t.reports t.ending

abbrev pub nothing_seen : Seen
nothing_seen = record { assignments = []; reports = []; on = []; timeout = None; stopped = None }

abbrev pub first_turn : Got Elaborated → Seen
first_turn (Ok p) = seen (step p.running Start around.view)
first_turn (Err h) = record nothing_seen { stopped = Some h.kind }

abbrev pub second_of : Ending Running → Seen
second_of (Waits p) = seen (step p.state (Wake false true) around.view)
second_of (Stops k) = nothing_seen

abbrev pub second_turn : Got Elaborated → Seen
second_turn (Ok p) = second_of (step p.running Start around.view).ending
second_turn (Err h) = nothing_seen

abbrev pub sent : List Assignment
sent = record { driver = 4; delay = Inertial; new = record { time = 2000000; value = Literal 2 } } ∷ []

-- the assignment, and after the wait a check of a
abbrev pub looping : List ℕ → Got Elaborated
looping digits = elaborated_process (process (loop_over_i ∷ assignment ∷ wait_until ∷ check digits ∷ plain form.WaitStatement (absent ∷ absent ∷ absent ∷ []) ∷ []))

-- s <= '0' when b(3) = '1' else '1';  as a concurrent statement
abbrev pub concurrent : Forest Resolved
concurrent =
    plain form.ConcurrentAssignment (name s STD_ULOGIC ∷ absent
    ∷ plain form.ConditionalWaveform (logic 2 48 ∷ equal BIT (element b BIT_VECTOR BIT (codes "3")) (bit 1) ∷ logic 3 49 ∷ []) ∷ [])

-- case? s is when '-' => null; ..., where s is '1'
abbrev pub choosing : Form → Forest Resolved → Forest Resolved
choosing matching selector =
    plain form.CaseStatement (plain matching [] ∷ selector
    ∷ plain form.CaseAlternatives
    (plain form.CaseAlternative (plain form.Choices (logic 7 72 ∷ []) ∷ plain form.Statements (plain form.ReportStatement (quotes STRING (codes "high") ∷ absent ∷ []) ∷ []) ∷ [])
    ∷ plain form.CaseAlternative (plain form.Others [] ∷ plain form.Statements (plain form.ReportStatement (quotes STRING (codes "other") ∷ absent ∷ []) ∷ []) ∷ [])
    ∷ [])
    ∷ absent ∷ absent ∷ [])

abbrev pub said : Form → Forest Resolved → Seen
said matching selector = first_turn (elaborated_process (process (choosing matching selector ∷ plain form.WaitStatement (absent ∷ absent ∷ absent ∷ []) ∷ [])))

-- function f(x : integer; y : bit_vector(1 to x)) return integer is begin if y(1) = '1' then return y'length; end if; end;
abbrev pub function_f : Forest Resolved
function_f =
    node form.FunctionBody (Some f) None 0 []
    (absent ∷ word f ∷ absent ∷ absent
    ∷ plain form.ParameterList
    (plain form.ParameterDeclaration (absent ∷ plain form.IdentifierList (word x ∷ []) ∷ absent ∷ indication INTEGER ∷ [])
    ∷ plain form.ParameterDeclaration
    (absent ∷ plain form.IdentifierList (word y ∷ []) ∷ absent
    ∷ plain form.SubtypeIndication (mark_name BIT_VECTOR ∷ plain form.IndexConstraint (upto INTEGER (number (codes "1")) (name x INTEGER) ∷ []) ∷ []) ∷ [])
    ∷ [])
    ∷ mark_name INTEGER ∷ plain form.DeclarativePart []
    ∷ plain form.Statements
    (plain form.IfStatement
    (equal BIT (element y BIT_VECTOR BIT (codes "1")) (bit 1)
    ∷ plain form.Statements (plain form.ReturnStatement (longer INTEGER (first y BIT_VECTOR ∷ attribute INTEGER (codes "length") ∷ []) ∷ []) ∷ [])
    ∷ plain form.ElsifBranches [] ∷ absent ∷ absent ∷ [])
    ∷ [])
    ∷ plain form.FunctionClosing (absent ∷ absent ∷ []) ∷ [])

-- f(3, others => value), where f is declared
abbrev pub call_f : Forest Resolved → Forest Resolved
call_f value =
    longer INTEGER (node form.Identifier (Some f) None 0 [] []
    ∷ node form.Arguments (Some f) (Some INTEGER) 0 [] (number (codes "3") ∷ value ∷ []) ∷ [])

abbrev pub after_f : Got Env
after_f = Rattle.vd_environments.specs.Processes.declared ((meaning declarations function_f).command None ∷ []) around

abbrev pub called : Forest Resolved → Got (Value Scalar)
called value = Rattle.vd_composites.specs.Stops.◌>>=◌ after_f (λ e. (meaning declarations (call_f value)).value unknown e)

pub record Statements : Type 0 where
  pub first : first_turn (looping (codes "4")) ≡ record nothing_seen { assignments = sent; on = 0 ∷ []; timeout = Some 5000000 }
  pub then : second_turn (looping (codes "4")) ≡ nothing_seen
  -- the failure is reported, and stops
  pub failed : second_turn (looping (codes "5")) ≡ record nothing_seen { reports = record { severity = 3; text = codes "no" } ∷ []; stopped = Some Failure }
  -- b(3) is '1', and the process waits for it
  pub concurrently : first_turn (elaborated_process concurrent)
      ≡ record nothing_seen { assignments = record { driver = 4; delay = Inertial; new = record { time = 0; value = Literal 2 } } ∷ []; on = 1 ∷ [] }
  -- 'H' is '1' for `case?`, and not for `case`; '-' as a selector is a failure
  pub matched : (said form.Matching (name s STD_ULOGIC)).reports ≡ record { severity = 0; text = codes "high" } ∷ []
  pub unmatched : (said form.Absent (name s STD_ULOGIC)).reports ≡ record { severity = 0; text = codes "other" } ∷ []
  pub dash : said form.Matching (logic 8 45) ≡ record nothing_seen { reports = record { severity = 3; text = codes "vdown: matching case selector holds '-'" } ∷ []; stopped = Some Failure }
  -- f(3, (others => '1')), f(3, (others => '0')), f(3, "11")
  pub length : called (of form.Aggregate BIT_VECTOR (others (bit 1) ∷ [])) ≡ Ok (integer 3)
  pub no_return : called (of form.Aggregate BIT_VECTOR (others (bit 0) ∷ [])) ≡ stop NoReturn
  pub short : called (quotes BIT_VECTOR (codes "11")) ≡ stop Length
