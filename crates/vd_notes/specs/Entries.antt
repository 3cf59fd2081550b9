-- What a text declares, in its order, each with the unit that declares it and with its mark.
use Rattle.std.specs.Prelude.{◌≡◌, ◌==◌, ℕ, List, [], ◌∷◌, ◌++◌, map, Option, Some, None, replicate, slice_index_or, slice_set, if◌then◌else◌}
use Rattle.vd_forest.specs.Forest.{Forest, nothing, more, parts_of, skipped}
use Rattle.vd_forms.specs.declared.form.Form.{Form}
use Rattle.vd_resolved.specs.declared.node.Resolved.{Resolved}
use Rattle.vd_notes.specs.declared.declares.Names.{Names}
use Rattle.vd_notes.specs.declared.declares.Names.TheVariants as names
use Rattle.vd_notes.specs.declared.declares.Row.{Row}
use Rattle.vd_notes.specs.declared.entries.Entry.{Entry}
use Rattle.vd_notes.specs.Rows.{row_of}

-- ---- numbers at nodes

-- the one number, or the other where there is none
abbrev pub or_else : Option ℕ → Option ℕ → Option ℕ
or_else None other = other
or_else (Some k) other = Some k

-- that of the first tree's node
abbrev pub first_declaration : Forest Resolved → Option ℕ
first_declaration nothing = None
first_declaration (more n text place parts next) = n.declaration

-- that of a node, or that of its first part where it has none
abbrev pub made_at : Resolved → Forest Resolved → Option ℕ
made_at n parts = or_else n.declaration (first_declaration parts)

abbrev pub first_made : Forest Resolved → Option ℕ
first_made nothing = None
first_made (more n text place parts next) = made_at n parts

-- what the mark names that stands behind so many parts. A subtype indication has it as its first part
abbrev pub mark_in : Option ℕ → Forest Resolved → Option ℕ
mark_in None parts = None
mark_in (Some place) parts = first_made (skipped place parts)

-- ---- what a node declares

abbrev pub entry_of : Option ℕ → Option ℕ → ℕ → Entry
entry_of home mark number = record { number = number; home = home; mark = mark }

abbrev pub one_of : Option ℕ → Option ℕ → Option ℕ → List Entry
one_of home mark None = []
one_of home mark (Some number) = entry_of home mark number ∷ []

-- at each of some trees
abbrev pub all_of : Option ℕ → Option ℕ → Forest Resolved → List Entry
all_of home mark nothing = []
all_of home mark (more n text place parts next) = one_of home mark n.declaration ++ all_of home mark next

abbrev pub named : Names → Option ℕ → Option ℕ → Resolved → Forest Resolved → List Entry
named names.Nowhere home mark n parts = []
named names.Itself home mark n parts = one_of home mark (made_at n parts)
named names.First home mark n parts = one_of home mark (first_declaration parts)
named (names.List place) home mark n parts = all_of home mark (parts_of (skipped place parts))
named names.All home mark n parts = all_of home mark parts

abbrev pub own_entries : Row → Option ℕ → Resolved → Forest Resolved → List Entry
own_entries row home n parts = named row.names home (mark_in row.mark parts) n parts

-- the unit of what a node and its parts declare: that in which the node stands, or the node itself
abbrev pub home_in : Row → Option ℕ → Resolved → Forest Resolved → Option ℕ
home_in row home n parts = if row.is_unit then or_else (made_at n parts) home else home

-- ---- what a text declares, where it stands in a unit

abbrev pub entries : Option ℕ → Forest Resolved → List Entry
entries home nothing = []
entries home (more n text place parts next) =
    own_entries (row_of n.form) (home_in (row_of n.form) home n parts) n parts
    ++ (entries (home_in (row_of n.form) home n parts) parts ++ entries home next)

-- its numbers
abbrev pub made_in : Forest Resolved → List ℕ
made_in f = map (λ e. e.number) (entries None f)

-- ---- the table of a design: the first entry of each number

abbrev pub first_of : ℕ → List Entry → Option Entry
first_of k [] = None
first_of k (e ∷ es) = if e.number == k then Some e else first_of k es

-- the table of so many numbers
abbrev pub table_of : ℕ → List Entry → List (Option Entry)
table_of count [] = replicate count None
table_of count (e ∷ es) = slice_set (table_of count es) e.number (Some e)

abbrev pub home_of : Option Entry → Option ℕ
home_of None = None
home_of (Some e) = e.home

abbrev pub mark_of : Option Entry → Option ℕ
mark_of None = None
mark_of (Some e) = e.mark
