-- Declarations that no file has, and how they are entered.
use Rattle.std.specs.Prelude.{ℕ, false, List, [], ◌∷◌, ◌++◌, Option, Some, None}
use Rattle.vd_declarations.specs.declared.classes.Class.{Class}
use Rattle.vd_declarations.specs.declared.classes.Made.TheVariants as made
use Rattle.vd_declarations.specs.declared.declarations.Declaration.{Declaration}
use Rattle.vd_regions.specs.Scopes.{Scopes, first_place}

-- a declaration of a class and a name, with a type and parameters
abbrev pub declared : Class → List ℕ → Option ℕ → List ℕ → Declaration
declared c name mark parameters =
    record { class = c; name = name; mark = mark; parameters = parameters; generics = []; inside = None; place = first_place; made = made.Written; wanted = name }

-- a library or a package
abbrev pub unit : Class → List ℕ → ℕ → Declaration
unit c name inside =
    record { class = c; name = name; mark = None; parameters = []; generics = []; inside = Some inside; place = first_place; made = made.Written; wanted = name }

-- one declaration more
abbrev pub with_entry : Scopes → ℕ → Declaration → Scopes
with_entry s region d = record s { entered = s.entered ++ record { region = region; declaration = d } ∷ [] }

-- one region more
abbrev pub with_region : Scopes → ℕ → Scopes
with_region s outer = record s { regions = s.regions ++ record { outer = outer; continues = None; closed = false; uses = [] } ∷ [] }

-- the literals of an enumeration type, or the units of a physical type
abbrev pub with_values : Scopes → ℕ → Class → ℕ → List (List ℕ) → Scopes
with_values s region c own [] = s
with_values s region c own (name ∷ names) = with_values (with_entry s region (declared c name (Some own) [])) region c own names
