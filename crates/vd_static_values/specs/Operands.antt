-- Operands that have been evaluated, where nothing stands in the place of one that stops.
use Rattle.std.specs.Prelude.{List, Option, [], map, ◌∷◌}
use Rattle.vd_composites.specs.Composites.{Value}
use Rattle.vd_composites.specs.Stops.{OrStop}
use Rattle.vd_environments.specs.Environments.{Argument, unknown}
use Rattle.vd_static_values.specs.Entries.{IsFound}
use Rattle.vd_values.specs.declared.scalar.Scalar.{Scalar}
use Rattle.vd_vectors.specs.Logics.{or_misshapen}

-- where nothing is known of their subtypes, the arguments come to these
abbrev pub AreOperands : List Argument → List (Option (Value Scalar)) → Type 0
AreOperands [] [] = Unit {0}
AreOperands (a ∷ as') (x ∷ xs) = IsFound x (a unknown) × AreOperands as' xs
AreOperands _ _ = ⊥

-- with one stop in the place of every other
abbrev pub stopping : List (Option (Value Scalar)) → List (OrStop (Value Scalar))
stopping xs = map or_misshapen xs
