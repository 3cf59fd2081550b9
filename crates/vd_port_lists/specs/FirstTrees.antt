-- What the first tree of a forest means, as far as interfaces ask: its declaration, and whether it is there.
use Rattle.std.specs.Prelude.{Bool, Option, ℕ}
use Rattle.vd_forest.specs.Forest.{Forest}
use Rattle.vd_meaning.specs.Facets.{nth}
use Rattle.vd_meaning.specs.Meanings.{meanings}
use Rattle.vd_meaning.specs.Tables.{Table}
use Rattle.vd_resolved.specs.declared.node.Resolved.{Resolved}

abbrev pub declared_first : Table → Forest Resolved → Option ℕ
declared_first t f = (nth 0 (meanings t f)).declaration

abbrev pub present_first : Table → Forest Resolved → Bool
present_first t f = (nth 0 (meanings t f)).is_present
