-- Lists by the numbers of declarations.
use Rattle.std.specs.Prelude.{List, slice_index_or, ℕ}

-- what a list has for each number, where this stands beyond its end
abbrev pub by_number : {A : Type 0} → A → List A → ℕ → A
by_number unknown xs n = slice_index_or xs n unknown
