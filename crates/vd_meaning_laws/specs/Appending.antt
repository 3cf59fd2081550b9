-- Declarations that a pass puts behind those of a tree. What names no new one means the same as before.
use Rattle.std.specs.Prelude.{◌≡◌, ◌<◌, ◌≤◌, ◌+◌, ℕ, nat_lt, not, ◌&&◌, Bool, List, ◌++◌, length, if◌then◌else◌}
use Rattle.std.specs.List.{All, AllZip}
use Rattle.vd_trees.specs.declared.revision.Revision.{Revision}
use Rattle.vd_declarations.specs.declared.declarations.Declaration.{Declaration}
use Rattle.vd_forest.specs.Forest.{Forest}
use Rattle.vd_rewriting.specs.Forms.{with_forms}
use Rattle.vd_resolved.specs.declared.node.Resolved.{Resolved}
use Rattle.vd_resolved.specs.Validity.{IsOwn, IsType, OnSome, IsAmong, NamesOwn}
use Rattle.vd_environments.specs.Environments.{Denotation}
use Rattle.vd_meaning.specs.Tables.{given_count, table}
use Rattle.vd_meaning.specs.Meanings.{meanings}
use Rattle.vd_meaning_laws.specs.Agreement.{Link, IsApart}
use Rattle.vd_meaning_laws.specs.Renumbering.{SameTable, AlikeMeaning, renumbered}

-- The first n numbers stay, and the others make room for m new ones.
abbrev pub moved : ℕ → ℕ → ℕ → ℕ
moved n m k = if nat_lt k n then k else k + m

-- Of the new ones some stand always for the same.
abbrev pub appended : ℕ → ℕ → (ℕ → Bool) → (ℕ → Denotation) → Link
appended n m kept base =
    record { number = moved n m; kept = λ k. not (nat_lt k n) && (nat_lt k (n + m) && kept k); base = base }

-- This gives no two declarations one number.
abbrev pub AppendedIsApart : Type 0
AppendedIsApart = (n m : ℕ) (kept : ℕ → Bool) (base : ℕ → Denotation) → 0 < n → IsApart (appended n m kept base)

-- Where each declaration names declarations of its list, and the given ones are in it, the table says of each what it said, whatever stands behind them.
abbrev pub AppendedTablesAreSame : Type 0
AppendedTablesAreSame = (r : Revision) (ds new : List Declaration) (kept : ℕ → Bool) (base : ℕ → Denotation) → given_count r ≤ length ds → All (IsAmong ds) ds
    → SameTable (appended (length ds) (length new) kept base) (table r ds) (table r (ds ++ new))

-- A node that names a declaration of the list stays as it is, and so does a tree of such nodes.
abbrev pub OwnNodesStay : Type 0
OwnNodesStay = (ds : List Declaration) (m : ℕ) (kept : ℕ → Bool) (base : ℕ → Denotation) (n : Resolved) → OnSome (IsOwn ds) n.declaration → OnSome (IsType ds) n.mark
    → renumbered (appended (length ds) m kept base) n ≡ n

abbrev pub OwnTreesStay : Type 0
OwnTreesStay = (ds : List Declaration) (m : ℕ) (kept : ℕ → Bool) (base : ℕ → Denotation) (f : Forest Resolved) → NamesOwn ds f
    → with_forms (renumbered (appended (length ds) m kept base)) f ≡ f

-- So such a tree means the same with the new declarations.
abbrev pub OwnTreesMeanTheSame : Type 0
OwnTreesMeanTheSame = (r : Revision) (ds new : List Declaration) (kept : ℕ → Bool) (base : ℕ → Denotation) → given_count r ≤ length ds → All (IsAmong ds) ds → (f : Forest Resolved) → NamesOwn ds f
    → AllZip (AlikeMeaning (appended (length ds) (length new) kept base)) (meanings (table r ds) f) (meanings (table r (ds ++ new)) f)
