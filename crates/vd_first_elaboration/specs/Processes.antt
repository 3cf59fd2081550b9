-- What a process of the first language does: it runs its assignments, and waits for its sensitivity. (IEEE 1076, process
-- statement, signal assignment statement.)
use Rattle.std.specs.Prelude.{ℕ, suc, ◌+◌, List, [], ◌∷◌, ◌++◌, map, None, bytes_eq, if◌then◌else◌}
use Rattle.vd_forest.specs.Forest.{Forest, nothing, more, text_of, parts_of, next_of}
use Rattle.vd_first_trees.specs.declared.form.Form.{Form}
use Rattle.vd_first_trees.specs.declared.form.Form.TheVariants as form
use Rattle.vd_first_trees.specs.Forms.{same_form}
use Rattle.vd_values.specs.declared.logic.Logic.{Logic}
use Rattle.vd_values.specs.LogicTables.{column_of}
use Rattle.vd_values.specs.declared.scalar.Scalar.{Scalar}
use Rattle.vd_values.specs.declared.scalar.Scalar.TheVariants.{Literal}
use Rattle.vd_kernel.specs.declared.assignments.Assignment.{Assignment}
use Rattle.vd_kernel.specs.declared.assignments.Delay.TheVariants.{Inertial}
use Rattle.vd_kernel.specs.Values.{logic_of}
use Rattle.vd_kernel.specs.Models.{Cause, View, Turn, Waits}
use Rattle.vd_first_elaboration.specs.Expressions.{value, names_read, each_once}

-- ---- the parts of a process: its sensitivity, the word `is` or its absence, and its statements

abbrev pub statements_of : Forest Form → Forest Form
statements_of process = next_of (next_of process)

-- an assignment's first part is its target, its second one the value
abbrev pub target_of : Forest Form → List ℕ
target_of assignment = text_of (parts_of assignment)

-- the targets of some assignments, in the order of the text
abbrev pub targets_of : Forest Form → List (List ℕ)
targets_of nothing = []
targets_of (more f t p parts next) = target_of parts ∷ targets_of next

-- what the values of some assignments read, in the order of the text. Targets don't count
abbrev pub names_assigned : Forest Form → List (List ℕ)
names_assigned nothing = []
names_assigned (more f t p parts next) = names_read (next_of parts) ++ names_assigned next

-- the read set of a process: what it reads, each name once
abbrev pub read_set : Forest Form → List (List ℕ)
read_set process = each_once [] (names_assigned (statements_of process))

-- the names of a list
abbrev pub names_listed : Forest Form → List (List ℕ)
names_listed nothing = []
names_listed (more f t p parts next) = text_of parts ∷ names_listed next

-- what a process is sensitive to: with `all` its read set, else the names of its list
abbrev pub sensitivity : Forest Form → List (List ℕ)
sensitivity nothing = []
sensitivity (more f t p parts next) =
    if same_form f form.All then read_set (more f t p parts next) else names_listed parts

-- it has one driver for each object that it assigns to
abbrev pub driven_by : Forest Form → List (List ℕ)
driven_by process = each_once [] (targets_of (statements_of process))

-- ---- its run

-- the number of a name in a list of names, or the length of the list where it isn't there
abbrev pub number_of : List (List ℕ) → List ℕ → ℕ
number_of [] name = 0
number_of (n ∷ names) name = if bytes_eq n name then 0 else suc (number_of names name)

-- an elaborated process: the number of its first driver, and its parts
pub record Process : Type 0 where
  pub first_driver : ℕ
  pub parts : Forest Form

-- a value of std_ulogic is the literal of its position
abbrev pub scalar_of : Logic → Scalar
scalar_of v = Literal (column_of v)

-- what the names of objects stand for, to a process that sees this
abbrev pub object_value : List (List ℕ) → View → List ℕ → Logic
object_value names v name = logic_of (v.value (number_of names name))

-- the assignments, without delay, in order. The targets have drivers in the order of these names
abbrev pub assignments : (List ℕ → Logic) → ℕ → ℕ → List (List ℕ) → Forest Form → List Assignment
assignments objects now first targets nothing = []
assignments objects now first targets (more f t p parts next) =
    record {
      driver = first + number_of targets (target_of parts);
      delay = Inertial;
      new = record { time = now; value = scalar_of (value objects (next_of parts)) };
    }
    ∷ assignments objects now first targets next

-- a run of a process, from its start or its wait to its next wait. The objects of the architecture have these names
abbrev pub step : List (List ℕ) → Process → Cause → View → Turn Process
step names p cause v =
    record {
      assignments = assignments (object_value names v) v.time p.first_driver (driven_by p.parts) (statements_of p.parts);
      reports = [];
      ending = Waits (record { state = p; on = map (number_of names) (sensitivity p.parts); timeout = None });
    }
