-- What is open, the innermost first.
use Rattle.std.specs.Prelude.{Bool, true, false, List, [], ◌∷◌, Option, Some, None}

abbrev pub first_of : {T : Type 0} → List T → Option T
first_of [] = None
first_of (x ∷ xs) = Some x

abbrev pub is_nil : {T : Type 0} → List T → Bool
is_nil [] = true
is_nil (x ∷ xs) = false
