-- What an instance of a package declares for what the package declares, by the declarations of a design.
use Rattle.std.specs.Prelude.{◌++◌, ◌∷◌, List, [], slice_index_or, ℕ}
use Rattle.vd_declarations.specs.declared.declarations.Declaration.{Declaration}
use Rattle.vd_meaning.specs.Tables.{no_declaration, pairs}
use Rattle.vd_port_modes.specs.Source.{declared_there}

abbrev pub copies_there : List Declaration → (original instance : ℕ) → List (ℕ × ℕ)
copies_there ds original instance = pairs (declared_there ds original) (declared_there ds instance)

-- the parameters of functions too, by their places
abbrev pub parameters_there : List Declaration → ℕ × ℕ → List (ℕ × ℕ)
parameters_there ds c = pairs (slice_index_or ds c.0 no_declaration).parameters (slice_index_or ds c.1 no_declaration).parameters

abbrev pub with_parameters_there : List Declaration → List (ℕ × ℕ) → List (ℕ × ℕ)
with_parameters_there ds [] = []
with_parameters_there ds (c ∷ cs) = c ∷ (parameters_there ds c ++ with_parameters_there ds cs)
