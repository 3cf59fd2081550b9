-- Processes whose names are resolved: objects and drivers stand in them by their numbers. (IEEE 1076, elaboration of a declarative part;
-- process statement.)
use Rattle.std.specs.Prelude.{◌≡◌, ℕ, ◌+◌, List, [], ◌∷◌, map, None, if◌then◌else◌}
use Rattle.vd_forest.specs.Forest.{Forest, nothing, more, text_of, next_of}
use Rattle.vd_first_trees.specs.declared.form.Form.{Form}
use Rattle.vd_first_trees.specs.declared.form.Form.TheVariants as form
use Rattle.vd_first_trees.specs.Forms.{same_form}
use Rattle.vd_values.specs.declared.logic.Logic.{Logic}
use Rattle.vd_kernel.specs.declared.assignments.Assignment.{Assignment}
use Rattle.vd_kernel.specs.declared.assignments.Delay.TheVariants.{Inertial}
use Rattle.vd_kernel.specs.Values.{logic_of}
use Rattle.vd_kernel.specs.Models.{Cause, View, Turn, Waits}
use Rattle.vd_first_elaboration.specs.Expressions.{names_read}
use Rattle.vd_first_elaboration.specs.Processes.{Process, number_of, scalar_of, statements_of, target_of, driven_by, sensitivity}
use Rattle.vd_first_processes.specs.declared.expressions.Operation.{Operation}
use Rattle.vd_first_processes.specs.Operations.{operations, value_of}

-- an assignment: the number of its driver, and its value in postfix form
pub record ResolvedAssignment : Type 0 where
  pub driver : ℕ
  pub value : List Operation

-- a process: its assignments, and the signals that it is sensitive to
pub record Resolved : Type 0 where
  pub assignments : List ResolvedAssignment
  pub on : List ℕ

-- ---- what it does

-- the value of std_ulogic that a signal has
abbrev pub signal_value : View → ℕ → Logic
signal_value v i = logic_of (v.value i)

-- an assignment without delay
abbrev pub assigned : View → ResolvedAssignment → Assignment
assigned v a =
    record { driver = a.driver; delay = Inertial; new = record { time = v.time; value = scalar_of (value_of (signal_value v) a.value) } }

-- a run of a process, from its start or its wait to its next wait
abbrev pub step : Resolved → Cause → View → Turn Resolved
step r cause v =
    record { assignments = map (assigned v) r.assignments; reports = []; ending = Waits (record { state = r; on = r.on; timeout = None }) }

-- ---- how it is made. The objects of names have these numbers

-- the names of objects that an expression of these parts reads
abbrev pub names_read_by : Form → Forest Form → List (List ℕ)
names_read_by f parts = if same_form f form.Name then text_of parts ∷ [] else names_read parts

-- assignments whose targets have drivers in the order of these names, the first driver having this number
abbrev pub resolved_assignments : (List ℕ → ℕ) → ℕ → List (List ℕ) → Forest Form → List ResolvedAssignment
resolved_assignments numbers first targets nothing = []
resolved_assignments numbers first targets (more f t p parts next) =
    record { driver = first + number_of targets (target_of parts); value = operations numbers (next_of parts) }
    ∷ resolved_assignments numbers first targets next

abbrev pub resolved : (List ℕ → ℕ) → Process → Resolved
resolved numbers p =
    record {
      assignments = resolved_assignments numbers p.first_driver (driven_by p.parts) (statements_of p.parts);
      on = map numbers (sensitivity p.parts);
    }

-- a resolved process is that of a process, where the objects of the architecture have these names
abbrev pub IsResolved : List (List ℕ) → Resolved → Process → Type 0
IsResolved names r p = r ≡ resolved (number_of names) p

-- the state of a process is the process
abbrev pub itself : Resolved → Resolved
itself r = r
