-- What the gathered elements of a generic map have for a generic: by its number, or by its place where none names it.
use Rattle.std.specs.Prelude.{ℕ, Bool, false, not, nat_eq, Option, Some, None, slice_index_or, if◌then◌else◌}
use Rattle.indexmap.specs.IndexMap.{get}
use Rattle.vd_meaning.specs.Tables.{same_type}
use Rattle.vd_name_rules.specs.declared.elements.Elements.{Elements}

abbrev pub named_or_placed : Option Bool → Bool → Bool
named_or_placed (Some is_open) is_placed = not is_open
named_or_placed None is_placed = is_placed

abbrev pub has : Elements → ℕ → ℕ → Bool
has x k g = named_or_placed (get nat_eq x.named g) (slice_index_or x.placed.items k false)

-- the first element that names a generic counts
abbrev pub or_named : Option Bool → Option ℕ → Bool → ℕ → Option Bool
or_named (Some first) formal is_open g = Some first
or_named None formal is_open g = if same_type formal (Some g) then Some is_open else None
