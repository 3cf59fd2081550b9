-- The processes of a test: a clock, and one that lets a signal follow another.
use Rattle.std.specs.Prelude.{ℕ, ◌+◌, ◌*◌, [], ◌∷◌, Option, Some, None, nat_lt, if◌then◌else◌}
use Rattle.vd_values.specs.declared.scalar.Scalar.{Scalar}
use Rattle.vd_values.specs.declared.scalar.Scalar.TheVariants.{Literal}
use Rattle.vd_values.specs.declared.scalar.StopKind.TheVariants.{Failure}
use Rattle.vd_kernel.specs.declared.assignments.Assignment.{Assignment}
use Rattle.vd_kernel.specs.declared.assignments.Delay.TheVariants.{Inertial}
use Rattle.vd_kernel.specs.Models.{View, Cause, Waits, Stops, Turn}

-- an assignment without delay
abbrev pub at_once : ℕ → Scalar → ℕ → Assignment
at_once driver value now = record { driver = driver; delay = Inertial; new = record { time = now; value = value } }

-- the first driver gets the number of this turn, and the next turn is five femtoseconds later
abbrev pub ticked : ℕ → ℕ → Turn (Option ℕ)
ticked n now =
    record {
      assignments = at_once 0 (Literal n) now ∷ [];
      reports = [];
      ending = Waits (record { state = Some (n + 1); on = []; timeout = Some (5 * n + 5) });
    }

-- a report of severity failure, with the text "end"
abbrev pub failed : Turn (Option ℕ)
failed = record { assignments = []; reports = record { severity = 3; text = 101 ∷ 110 ∷ 100 ∷ [] } ∷ []; ending = Stops Failure }

-- the second driver gets the value of the first signal
abbrev pub followed : View → Turn (Option ℕ)
followed v =
    record {
      assignments = at_once 1 (v.value 0) v.time ∷ [];
      reports = [];
      ending = Waits (record { state = None; on = 0 ∷ []; timeout = None });
    }

-- a clock that has had so many turns, and fails after three; or else the process that follows
abbrev pub acted : Option ℕ → Cause → View → Turn (Option ℕ)
acted None cause v = followed v
acted (Some n) cause v = if nat_lt n 3 then ticked n v.time else failed
