-- The resolution of std_ulogic: the table of IEEE 1164 that its function `resolved` folds with, row by row as the standard
-- prints it, and what it makes of the sources of a signal.
use Rattle.std.specs.Prelude.{List, [], ◌∷◌, slice_index_or}
use Rattle.vd_values.specs.declared.logic.Logic.{Logic}
use Rattle.vd_values.specs.declared.logic.Logic.TheVariants.{U, X, Zero, One, Z, W, L, H, Dash}
use Rattle.vd_values.specs.LogicTables.{column_of}

-- a row for the left value, a column for the right one, both U X 0 1 Z W L H -
abbrev pub resolution_row : Logic → List Logic
resolution_row U = U ∷ U ∷ U ∷ U ∷ U ∷ U ∷ U ∷ U ∷ U ∷ []
resolution_row X = U ∷ X ∷ X ∷ X ∷ X ∷ X ∷ X ∷ X ∷ X ∷ []
resolution_row Zero = U ∷ X ∷ Zero ∷ X ∷ Zero ∷ Zero ∷ Zero ∷ Zero ∷ X ∷ []
resolution_row One = U ∷ X ∷ X ∷ One ∷ One ∷ One ∷ One ∷ One ∷ X ∷ []
resolution_row Z = U ∷ X ∷ Zero ∷ One ∷ Z ∷ W ∷ L ∷ H ∷ X ∷ []
resolution_row W = U ∷ X ∷ Zero ∷ One ∷ W ∷ W ∷ W ∷ W ∷ X ∷ []
resolution_row L = U ∷ X ∷ Zero ∷ One ∷ L ∷ W ∷ L ∷ W ∷ X ∷ []
resolution_row H = U ∷ X ∷ Zero ∷ One ∷ H ∷ W ∷ W ∷ H ∷ X ∷ []
resolution_row Dash = U ∷ X ∷ X ∷ X ∷ X ∷ X ∷ X ∷ X ∷ X ∷ []

-- two values together
abbrev pub resolution_of : Logic → Logic → Logic
resolution_of l r = slice_index_or (resolution_row l) (column_of r) X

-- a value and then others, folded from the left
abbrev pub folded : Logic → List Logic → Logic
folded v [] = v
folded v (w ∷ ws) = folded (resolution_of v w) ws

-- one source is returned as it is; several are folded from 'Z', and so are none
abbrev pub resolved : List Logic → Logic
resolved [] = Z
resolved (v ∷ []) = v
resolved (v ∷ w ∷ ws) = folded Z (v ∷ w ∷ ws)
