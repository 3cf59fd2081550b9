-- The matching equality and the condition of IEEE 1076 on std_ulogic: the table of `?=`, row by row as the standard prints it,
-- and that of `??`.
use Rattle.std.specs.Prelude.{Bool, true, false, List, [], ◌∷◌, slice_index_or}
use Rattle.vd_values.specs.declared.logic.Logic.{Logic}
use Rattle.vd_values.specs.declared.logic.Logic.TheVariants.{U, X, Zero, One, Z, W, L, H, Dash}
use Rattle.vd_values.specs.LogicTables.{column_of}

-- a row for the left operand, a column for the right one, both U X 0 1 Z W L H -
abbrev pub match_row : Logic → List Logic
match_row U = U ∷ U ∷ U ∷ U ∷ U ∷ U ∷ U ∷ U ∷ One ∷ []
match_row X = U ∷ X ∷ X ∷ X ∷ X ∷ X ∷ X ∷ X ∷ One ∷ []
match_row Zero = U ∷ X ∷ One ∷ Zero ∷ X ∷ X ∷ One ∷ Zero ∷ One ∷ []
match_row One = U ∷ X ∷ Zero ∷ One ∷ X ∷ X ∷ Zero ∷ One ∷ One ∷ []
match_row Z = U ∷ X ∷ X ∷ X ∷ X ∷ X ∷ X ∷ X ∷ One ∷ []
match_row W = U ∷ X ∷ X ∷ X ∷ X ∷ X ∷ X ∷ X ∷ One ∷ []
match_row L = U ∷ X ∷ One ∷ Zero ∷ X ∷ X ∷ One ∷ Zero ∷ One ∷ []
match_row H = U ∷ X ∷ Zero ∷ One ∷ X ∷ X ∷ Zero ∷ One ∷ One ∷ []
match_row Dash = One ∷ One ∷ One ∷ One ∷ One ∷ One ∷ One ∷ One ∷ One ∷ []

-- the operator `?=`
abbrev pub match_of : Logic → Logic → Logic
match_of l r = slice_index_or (match_row l) (column_of r) X

-- the table of `??`: true for 1 and H alone
abbrev pub condition_row : List Bool
condition_row = false ∷ false ∷ false ∷ true ∷ false ∷ false ∷ false ∷ true ∷ false ∷ []

abbrev pub condition_of : Logic → Bool
condition_of a = slice_index_or condition_row (column_of a) false
