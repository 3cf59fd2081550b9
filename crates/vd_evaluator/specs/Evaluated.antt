-- What the answers of the evaluator say.
use Rattle.std.specs.Prelude.{◌≡◌, Bool, true, false, List, Option, Some, None, Result, Ok, Err}
use Rattle.vd_values.specs.declared.scalar.Scalar.{Scalar}
use Rattle.vd_forest.specs.Forest.{Forest}
use Rattle.vd_resolved.specs.declared.node.Resolved.{Resolved}
use Rattle.vd_composites.specs.Stops.{OrStop}
use Rattle.vd_composites.specs.Composites.{Value}
use Rattle.vd_composites.specs.Subtypes.{Subtype}
use Rattle.vd_environments.specs.Got.{Got, got, stop}
use Rattle.vd_environments.specs.Environments.{Env}
use Rattle.vd_meaning.specs.Tables.{Table}
use Rattle.vd_meaning.specs.Facets.{nth}
use Rattle.vd_meaning.specs.Meanings.{meanings}
use Rattle.vd_evaluator.specs.declared.ends.EvaluateEnd.{EvaluateEnd}
use Rattle.vd_evaluator.specs.declared.ends.EvaluateEnd.TheVariants.{Stop, NotTaken, Memory}
use Rattle.vd_plain_values.specs.declared.environment.Entry.{Entry}
use Rattle.vd_evaluator.specs.Outlines.{is_taken}
use Rattle.vd_plain_values.specs.Plain.{Holds}

-- The value that is defined, or the stop. Memory may run out at any time.
abbrev pub Evaluates : Result (Value Scalar) EvaluateEnd → Got (Value Scalar) → Type 0
Evaluates (Ok v) g = g ≡ Ok v
Evaluates (Err (Stop kind)) g = g ≡ stop kind
Evaluates (Err NotTaken) g = Unit {0}
Evaluates (Err Memory) g = Unit {0}

-- An expression isn't taken just where the answer says so.
abbrev pub IsTakenSo : Result (Value Scalar) EvaluateEnd → Bool → Type 0
IsTakenSo (Ok v) taken = taken ≡ true
IsTakenSo (Err (Stop kind)) taken = taken ≡ true
IsTakenSo (Err NotTaken) taken = taken ≡ false
IsTakenSo (Err Memory) taken = Unit {0}

-- what the first tree of a forest comes to, where it is taken
abbrev pub IsFound : Table → List Entry → Forest Resolved → Option (OrStop (Value Scalar)) → Type 0
IsFound t entries f None = is_taken t f ≡ false
IsFound t entries f (Some r) = (is_taken t f ≡ true) × ((e : Env) → Holds entries e → (known : Got Subtype) → (nth 0 (meanings t f)).value known e ≡ got r)
