-- The lines of a file's bytes, and where a file ends.
use Rattle.std.specs.Prelude.{◌<◌, ◌^◌, ℕ, ◌+◌, Bool, false, ◌&&◌, ◌==◌, List, [], ◌∷◌, length, if◌then◌else◌}
use Rattle.std.specs.List.{AllByRecursion}
use Rattle.vd_bytes.specs.declared.places.Place.{Place}
use Rattle.vd_directives.specs.declared.selected.Line.{Line}
use Rattle.vd_directives.specs.declared.selected.Selected.{Selected}

-- ---- a line feed (10) ends a line, and so does a carriage return (13) with a line feed behind it; the last may lack its
-- end

abbrev pub starts_with_line_feed : List ℕ → Bool
starts_with_line_feed [] = false
starts_with_line_feed (b ∷ bs) = b == 10

-- the byte in front of the first line
abbrev pub in_first_line : ℕ → List (List ℕ) → List (List ℕ)
in_first_line b [] = (b ∷ []) ∷ []
in_first_line b (l ∷ ls) = (b ∷ l) ∷ ls

abbrev pub lines_of : List ℕ → List (List ℕ)
lines_of [] = []
lines_of (b ∷ bs) =
    if b == 10 then [] ∷ lines_of bs
    else (if (b == 13) && starts_with_line_feed bs then lines_of bs else in_first_line b (lines_of bs))

abbrev pub numbered : ℕ → List (List ℕ) → List Line
numbered n [] = []
numbered n (l ∷ ls) = record { number = n; bytes = l } ∷ numbered (n + 1) ls

-- all lines of a file
abbrev pub plain_of : ℕ → List ℕ → Selected
plain_of file bytes = record { file = file; lines = numbered 1 (lines_of bytes); warnings = [] }

-- ---- places

-- each column of a line, that of its end included, fits 32 bits
abbrev pub FitsColumns : Line → Type 0
FitsColumns l = length l.bytes + 1 < 2 ^ 32

abbrev pub ColumnsFit : Selected → Type 0
ColumnsFit s = AllByRecursion FitsColumns s.lines

abbrev pub place_at : ℕ → ℕ → ℕ → Place
place_at file line column = record { file = file; line = line; column = column }

-- the end of a file: behind the last byte of the last line that is read, its line end not counted; where there is no line, the
-- first place of the file
abbrev pub end_place : ℕ → List Line → Place
end_place file [] = place_at file 1 1
end_place file (l ∷ []) = place_at file l.number (length l.bytes + 1)
end_place file (l ∷ m ∷ ls) = end_place file (m ∷ ls)
