-- The declarations of a design whose ports with a view are split. (IEEE 1076-2019, interface declarations; mode views)
use Rattle.std.specs.Prelude.{◌≡◌, ◌+◌, ℕ, zero, suc, List, [], ◌∷◌, ◌++◌, map, Option, Some, None, slice_index_or}
use Rattle.std.specs.List.{flat_map}
use Rattle.vd_declarations.specs.declared.declarations.Declaration.{Declaration}
use Rattle.vd_views.specs.declared.ports.ViewPort.{ViewPort}

-- the port with a view that a declaration is, by a table of them
abbrev pub port_at : List (Option ViewPort) → Option ℕ → Option ViewPort
port_at ports None = None
port_at ports (Some number) = slice_index_or ports number None

-- so many numbers, from the first one on
abbrev pub numbers_from : ℕ → ℕ → List ℕ
numbers_from first zero = []
numbers_from first (suc n) = numbers_from first n ++ (first + n) ∷ []

abbrev pub numbers_of : ℕ → Option ViewPort → List ℕ
numbers_of number None = number ∷ []
numbers_of number (Some port) = numbers_from port.first port.count

-- the ports that take the place of a declaration, or itself where none do
abbrev pub ports_for : List (Option ViewPort) → ℕ → List ℕ
ports_for ports number = numbers_of number (slice_index_or ports number None)

-- the same of each of some declarations
abbrev pub all_ports : List (Option ViewPort) → List ℕ → List ℕ
all_ports ports numbers = flat_map (ports_for ports) numbers

-- a declaration is the same, and has the ports that take the place of its ports
abbrev pub declared_with : List (Option ViewPort) → Declaration → Declaration
declared_with ports d = record d { parameters = all_ports ports d.parameters }

-- The second declarations are the first ones, with the ports that take the place of their ports, and these ports behind them.
pub record AreSplit (before after : List Declaration) : Type 0 where
  pub ports : List (Option ViewPort)
  pub behind : List Declaration
  pub is : after ≡ map (declared_with ports) before ++ behind
