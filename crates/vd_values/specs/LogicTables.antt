-- The tables of IEEE 1164 for the operators of std_ulogic, row by row as the standard prints them.
use Rattle.std.specs.Prelude.{ℕ, List, [], ◌∷◌, slice_index_or}
use Rattle.vd_values.specs.declared.logic.Logic.{Logic}
use Rattle.vd_values.specs.declared.logic.Logic.TheVariants.{U, X, Zero, One, Z, W, L, H, Dash}

-- the column of a value in a table
abbrev pub column_of : Logic → ℕ
column_of U = 0
column_of X = 1
column_of Zero = 2
column_of One = 3
column_of Z = 4
column_of W = 5
column_of L = 6
column_of H = 7
column_of Dash = 8

-- the table of `and`: a row for the left operand, a column for the right one, both U X 0 1 Z W L H -
abbrev pub and_row : Logic → List Logic
and_row U = U ∷ U ∷ Zero ∷ U ∷ U ∷ U ∷ Zero ∷ U ∷ U ∷ []
and_row X = U ∷ X ∷ Zero ∷ X ∷ X ∷ X ∷ Zero ∷ X ∷ X ∷ []
and_row Zero = Zero ∷ Zero ∷ Zero ∷ Zero ∷ Zero ∷ Zero ∷ Zero ∷ Zero ∷ Zero ∷ []
and_row One = U ∷ X ∷ Zero ∷ One ∷ X ∷ X ∷ Zero ∷ One ∷ X ∷ []
and_row Z = U ∷ X ∷ Zero ∷ X ∷ X ∷ X ∷ Zero ∷ X ∷ X ∷ []
and_row W = U ∷ X ∷ Zero ∷ X ∷ X ∷ X ∷ Zero ∷ X ∷ X ∷ []
and_row L = Zero ∷ Zero ∷ Zero ∷ Zero ∷ Zero ∷ Zero ∷ Zero ∷ Zero ∷ Zero ∷ []
and_row H = U ∷ X ∷ Zero ∷ One ∷ X ∷ X ∷ Zero ∷ One ∷ X ∷ []
and_row Dash = U ∷ X ∷ Zero ∷ X ∷ X ∷ X ∷ Zero ∷ X ∷ X ∷ []

abbrev pub and_of : Logic → Logic → Logic
and_of l r = slice_index_or (and_row l) (column_of r) X

-- the table of `or`, with the same rows and columns
abbrev pub or_row : Logic → List Logic
or_row U = U ∷ U ∷ U ∷ One ∷ U ∷ U ∷ U ∷ One ∷ U ∷ []
or_row X = U ∷ X ∷ X ∷ One ∷ X ∷ X ∷ X ∷ One ∷ X ∷ []
or_row Zero = U ∷ X ∷ Zero ∷ One ∷ X ∷ X ∷ Zero ∷ One ∷ X ∷ []
or_row One = One ∷ One ∷ One ∷ One ∷ One ∷ One ∷ One ∷ One ∷ One ∷ []
or_row Z = U ∷ X ∷ X ∷ One ∷ X ∷ X ∷ X ∷ One ∷ X ∷ []
or_row W = U ∷ X ∷ X ∷ One ∷ X ∷ X ∷ X ∷ One ∷ X ∷ []
or_row L = U ∷ X ∷ Zero ∷ One ∷ X ∷ X ∷ Zero ∷ One ∷ X ∷ []
or_row H = One ∷ One ∷ One ∷ One ∷ One ∷ One ∷ One ∷ One ∷ One ∷ []
or_row Dash = U ∷ X ∷ X ∷ One ∷ X ∷ X ∷ X ∷ One ∷ X ∷ []

abbrev pub or_of : Logic → Logic → Logic
or_of l r = slice_index_or (or_row l) (column_of r) X

-- the table of `xor`, with the same rows and columns
abbrev pub xor_row : Logic → List Logic
xor_row U = U ∷ U ∷ U ∷ U ∷ U ∷ U ∷ U ∷ U ∷ U ∷ []
xor_row X = U ∷ X ∷ X ∷ X ∷ X ∷ X ∷ X ∷ X ∷ X ∷ []
xor_row Zero = U ∷ X ∷ Zero ∷ One ∷ X ∷ X ∷ Zero ∷ One ∷ X ∷ []
xor_row One = U ∷ X ∷ One ∷ Zero ∷ X ∷ X ∷ One ∷ Zero ∷ X ∷ []
xor_row Z = U ∷ X ∷ X ∷ X ∷ X ∷ X ∷ X ∷ X ∷ X ∷ []
xor_row W = U ∷ X ∷ X ∷ X ∷ X ∷ X ∷ X ∷ X ∷ X ∷ []
xor_row L = U ∷ X ∷ Zero ∷ One ∷ X ∷ X ∷ Zero ∷ One ∷ X ∷ []
xor_row H = U ∷ X ∷ One ∷ Zero ∷ X ∷ X ∷ One ∷ Zero ∷ X ∷ []
xor_row Dash = U ∷ X ∷ X ∷ X ∷ X ∷ X ∷ X ∷ X ∷ X ∷ []

abbrev pub xor_of : Logic → Logic → Logic
xor_of l r = slice_index_or (xor_row l) (column_of r) X

-- the table of `not`
abbrev pub not_row : List Logic
not_row = U ∷ X ∷ One ∷ Zero ∷ X ∷ X ∷ One ∷ Zero ∷ X ∷ []

abbrev pub not_of : Logic → Logic
not_of a = slice_index_or not_row (column_of a) X
