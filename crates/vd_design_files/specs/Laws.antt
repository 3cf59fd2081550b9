-- What holds of the answers.
use Rattle.std.specs.Prelude.{◌≡◌, ℕ, List}
use Rattle.vd_design_files.specs.declared.answers.DesignEnd.{DesignEnd}
use Rattle.vd_design_files.specs.declared.answers.DesignEnd.TheVariants as end
use Rattle.vd_design_files.specs.Files.{Answer, refused, beyond, IsAnswer}

-- files have one answer, and no two
abbrev pub HasOneAnswer : Type 0
HasOneAnswer = (tool : List ℕ) (contents : List (List ℕ)) (a b : Answer) → IsAnswer tool contents a → IsAnswer tool contents b → a ≡ b

abbrev pub HasSomeAnswer : Type 0
HasSomeAnswer = (tool : List ℕ) (contents : List (List ℕ)) → (answer : Answer) × IsAnswer tool contents answer

-- what is said where there is no design. Want of memory says nothing
abbrev pub IsEnd : (Answer → Type 0) → DesignEnd → Type 0
IsEnd Is (end.Refused x) = Is (refused x)
IsEnd Is (end.Limit limit) = Is (beyond limit)
IsEnd Is end.Memory = Unit {0}
