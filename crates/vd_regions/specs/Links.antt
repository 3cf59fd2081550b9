-- The tables as code keeps them: from a region and a name to the newest declaration, and from each declaration to the one before it
-- in its table. Numbers count from 1 here, and 0 is none.
use Rattle.std.specs.Prelude.{◌≡◌, ℕ, zero, suc, ◌<◌, Bool, List, map, length, Option, Some, None, if◌then◌else◌, slice_index_or}
use Rattle.std.specs.Option.{option_or}
use Rattle.vd_regions.specs.declared.entries.Entered.{Entered}
use Rattle.vd_regions.specs.declared.entries.Link.{Link}
use Rattle.vd_regions.specs.declared.entries.Space.{Space}
use Rattle.vd_regions.specs.Scopes.{Region, nothing_entered, stands_in}

-- the newest of the first k declarations that pass a test
abbrev pub newest_below : (Entered → Bool) → List Entered → ℕ → ℕ
newest_below test es zero = 0
newest_below test es (suc k) = if test (slice_index_or es k nothing_entered) then suc k else newest_below test es k

-- the first of the first k declarations that passes a test
abbrev pub first_below : (Entered → Bool) → List Entered → ℕ → Option ℕ
first_below test es zero = None
first_below test es (suc k) = option_or (first_below test es k) (if test (slice_index_or es k nothing_entered) then Some k else None)

abbrev pub no_link : Link
no_link = record { entered = nothing_entered; before = 0 }

abbrev pub entered_of : List Link → List Entered
entered_of links = map (λ l. l.entered) links

abbrev pub region_of : Space → Region
region_of p = record { outer = p.outer; continues = p.continues; closed = p.closed; uses = p.uses }

-- the table that a declaration stands in
abbrev pub table_of : Entered → Entered → Bool
table_of e = stands_in e.region e.declaration.name

-- each link leads to the declaration before it in its table
abbrev pub AreLinked : List Link → Type 0
AreLinked links = (k : ℕ) → k < length links → (slice_index_or links k no_link).before
    ≡ newest_below (table_of (slice_index_or links k no_link).entered) (entered_of links) k
