-- Parts that are operands: expressions, evaluated.
use Rattle.std.specs.Prelude.{◌≡◌, List, [], ◌∷◌, false, map, Option, None, Some, Result, Vec}
use Rattle.std.specs.Global.{Global}
use Rattle.vd_values.specs.declared.scalar.Scalar.{Scalar}
use Rattle.vd_values.specs.declared.scalar.StopKind.{StopKind}
use Rattle.vd_composites.specs.Stops.{OrStop}
use Rattle.vd_composites.specs.Composites.{Value}
use Rattle.vd_evaluator.specs.declared.senses.Sense.{Sense}
use Rattle.vd_evaluator.specs.declared.senses.What.TheVariants as what
use Rattle.vd_evaluator.specs.Outlines.{NotTaken, are_expressions, bracketed_outline}
use Rattle.vd_evaluator.specs.Senses.{sense_outline}

-- the values of parts that are all expressions; nothing where one isn't
abbrev pub HaveValues : List Sense → List (OrStop (Value Scalar)) → Type 0
HaveValues [] [] = Unit {0}
HaveValues (s ∷ ss) (r ∷ rs) = (s.what ≡ what.Expression r) × HaveValues ss rs
HaveValues _ _ = ⊥

abbrev pub AreValues : Option (Vec (Result (Value Scalar) StopKind) Global) → List Sense → Type 0
AreValues None ss = are_expressions (map sense_outline ss) ≡ false
AreValues (Some rs) ss = HaveValues ss rs.items

-- the value of the one part that there is, which is an expression; nothing elsewhere
abbrev pub IsOnly : Option (OrStop (Value Scalar)) → List Sense → Type 0
IsOnly None ss = bracketed_outline (map sense_outline ss) ≡ NotTaken
IsOnly (Some r) ss = (s : Sense) × (ss ≡ s ∷ []) × (s.what ≡ what.Expression r)
