-- What stands for a generic, where it is known.
use Rattle.std.specs.Prelude.{List, [], ◌∷◌, Option, Some, None}
use Rattle.vd_name_rows.specs.declared.at.Actual.{Actual}

abbrev pub listed : Option Actual → List Actual
listed None = []
listed (Some a) = a ∷ []
