-- Lists of all types, in the order of their declarations, as whoever enters declarations keeps them.
use Rattle.std.specs.Prelude.{◌≡◌, ◌≤◌, ℕ, List, [], ◌∷◌, ◌++◌, length, if◌then◌else◌}
use Rattle.std.specs.List.{filter}
use Rattle.vd_declarations.specs.Classes.{is_type}
use Rattle.vd_regions.specs.declared.entries.Entered.{Entered}
use Rattle.vd_regions.specs.Scopes.{Scopes, declaration_at}
use Rattle.vd_visible.specs.Types.{numbers_below}

-- among the first n declarations
abbrev pub types_below : Scopes → ℕ → List ℕ
types_below s n = filter (λ k. is_type (declaration_at s k).class) (numbers_below n)

abbrev pub type_at : Scopes → ℕ → List ℕ
type_at s k = if is_type (declaration_at s k).class then k ∷ [] else []

-- what is entered later changes none of them
abbrev pub TypesStay : Type 0
TypesStay =
    (s : Scopes) (later : List Entered) (n : ℕ) → n ≤ length s.entered → types_below (record s { entered = s.entered ++ later }) n ≡ types_below s n
