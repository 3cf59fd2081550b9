-- What a table of values tells of a generic.
use Rattle.std.specs.Prelude.{◌≡◌, ◌<◌, ℕ, List, length, Option, Some, None, false, slice_index_or}
use Rattle.std.specs.Option.{MatchOption}
use Rattle.vd_forest.specs.Forest.{nothing, no_place}
use Rattle.vd_naming.specs.Associations.{Element, value_for}

abbrev pub no_element : Element
no_element = record { place = no_place; generic = None; is_known = false; actual = nothing }

-- that none of these elements gives it a value, or which one of all elements does first
abbrev pub Tells : (all some : List Element) → ℕ → Option ℕ → Type 0
Tells all some g told = MatchOption told (value_for g some ≡ None)
    (λ i. (i < length all) × (value_for g some ≡ Some (slice_index_or all i no_element).actual))
