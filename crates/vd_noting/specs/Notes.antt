-- What notes leave as it is: the trees, and the declarations that stand in front.
use Rattle.std.specs.Prelude.{◌≡◌, List, ◌++◌}
use Rattle.vd_declarations.specs.declared.declarations.Declaration.{Declaration}
use Rattle.vd_forest.specs.Forest.{Forest, nothing, more}
use Rattle.vd_notes.specs.declared.noted.Noted.{Noted}
use Rattle.vd_resolved.specs.declared.node.Resolved.{Resolved}
use Rattle.vd_rewriting.specs.Forms.{with_forms}
use Rattle.vd_walks.specs.Positions.{Tree}

-- the second declarations are the first ones and others behind them
pub record BeginsWith (front whole : List Declaration) : Type 0 where
  pub behind : List Declaration
  pub is : whole ≡ front ++ behind

-- the trees without what is noted of them
abbrev pub without_notes : Forest Noted → Forest Resolved
without_notes f = with_forms (λ n. n.node) f

-- one tree became another one like it, with notes
abbrev pub is_noted : Tree Resolved → Forest Noted → Forest Noted → Type 0
is_noted x inner made = without_notes made ≡ more x.form x.text x.place (without_notes inner) nothing
