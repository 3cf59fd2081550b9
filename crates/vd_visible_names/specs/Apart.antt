-- Readings in which the one part of an expression that is marked has another type than one that is known. It is marked by a byte in front of its text.
use Rattle.std.specs.Prelude.{◌∷◌, [], ◌==◌, ℕ, Bool, true, List, Option, None, Some, if◌then◌else◌, not}
use Rattle.std.specs.List.{filter}
use Rattle.vd_readings.specs.Readings.{Rules}
use Rattle.vd_states.specs.declared.ways.Way.{Way}

abbrev pub is_other_than : ℕ → Option ℕ → Bool
is_other_than mark None = true
is_other_than mark (Some own) = not (own == mark)

-- whether a way gives another type
abbrev pub is_other : ℕ → Way → Bool
is_other mark way = is_other_than mark way.mark

-- the ways of a node with a byte in front of its text
abbrev pub ways_behind : ℕ → (List ℕ → List Way) → List ℕ → ℕ → List Way
ways_behind mark ways text byte = if byte == 1 then filter (is_other mark) (ways text) else ways (byte ∷ text)

abbrev pub ways_apart : ℕ → (List ℕ → List Way) → List ℕ → List Way
ways_apart mark ways [] = ways []
ways_apart mark ways (byte ∷ text) = ways_behind mark ways text byte

abbrev pub apart : ℕ → Rules → Rules
apart mark rules = record { ways = λ state form text parts. ways_apart mark (λ own. rules.ways state form own parts) text; ends = rules.ends }
