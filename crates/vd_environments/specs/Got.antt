-- What an evaluation gives: something, or the first stop in the order of evaluation. Expressions have no effects, so that what is not
-- evaluated is only what nobody looks at.
use Rattle.std.specs.Prelude.{ℕ, Bool, true, false, List, [], ◌∷◌, Result, Ok, Err}
use Rattle.vd_values.specs.declared.scalar.StopKind.{StopKind}
use Rattle.vd_values.specs.declared.scalar.StopKind.TheVariants.{Range}
use Rattle.vd_composites.specs.Stops.{OrStop, ◌>>=◌}

-- why a run stops, and of a failure the text that it reports
pub record Halt : Type 0 where
  pub kind : StopKind
  pub text : List ℕ

abbrev pub Got : Type 0 → Type 0
Got A = Result A Halt

abbrev pub halt_of : StopKind → Halt
halt_of kind = record { kind = kind; text = [] }

abbrev pub stop : {A : Type 0} → StopKind → Got A
stop kind = Err (halt_of kind)

-- What is evaluated where it has no such meaning, or on a value of another shape. No design that the rules accept comes to one.
abbrev pub senseless : {A : Type 0} → Got A
senseless = stop Range

-- what an operation on values gives
abbrev pub got : {A : Type 0} → OrStop A → Got A
got (Ok x) = Ok x
got (Err kind) = stop kind

-- evaluations from the left to the right
abbrev pub all_got : {A : Type 0} → List (Got A) → Got (List A)
all_got [] = Ok []
all_got (g ∷ gs) = g >>= λ x. all_got gs >>= λ xs. Ok (x ∷ xs)

abbrev pub is_got : {A : Type 0} → Got A → Bool
is_got (Ok x) = true
is_got (Err s) = false
