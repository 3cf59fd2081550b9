-- The marks of each revision: those of revision 1993 first, and behind them those that revision 2019 adds. A mark's number
-- is its place in the list. (IEEE 1076, lexical elements: delimiters. The back quote and the double marks of brackets
-- that the standard has besides aren't in the profile.)
use Rattle.std.specs.Prelude.{ℕ, List, [], ◌∷◌, ◌++◌, codes}
use Rattle.vd_trees.specs.declared.revision.Revision.{Revision}
use Rattle.vd_trees.specs.declared.revision.Revision.TheVariants.{V2019, V1993}

abbrev pub marks_1993 : List (List ℕ)
marks_1993 =
    codes "&" ∷ codes "'" ∷ codes "(" ∷ codes ")" ∷ codes "*" ∷ codes "+" ∷ codes "," ∷ codes "-" ∷ codes "." ∷ codes "/" ∷ codes ":" ∷ codes ";"
    ∷ codes "<" ∷ codes "=" ∷ codes ">" ∷ codes "|" ∷ codes "=>" ∷ codes "**" ∷ codes ":=" ∷ codes "/=" ∷ codes ">=" ∷ codes "<=" ∷ codes "<>" ∷ []

abbrev pub marks_added : List (List ℕ)
marks_added =
    codes "?" ∷ codes "??" ∷ codes "?=" ∷ codes "?/=" ∷ codes "?<" ∷ codes "?<=" ∷ codes "?>" ∷ codes "?>=" ∷ []

abbrev pub marks : Revision → List (List ℕ)
marks V2019 = marks_1993 ++ marks_added
marks V1993 = marks_1993
