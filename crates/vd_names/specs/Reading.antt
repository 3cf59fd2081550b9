-- Which rows the text of a map has: an object of two members, its format, which is the whole number 1, and its rows, a list of lists of six texts.
use Rattle.std.specs.Prelude.{ℕ, suc, Bool, true, false, ◌==◌, ◌&&◌, List, [], ◌∷◌, ◌++◌, Option, Some, None, codes, bytes_eq, option_and_then, is_some, if◌then◌else◌}
use Rattle.serde_json.specs.Data.{Data, Items, no_items, item, Members, no_members, member}
use Rattle.serde_json.specs.Find.{as_array, as_number, as_object, as_str, as_u64, at, get}
use Rattle.vd_trees.specs.declared.rows.Row.{Row}
use Rattle.vd_trees.specs.declared.rows.RowKind.{RowKind}
use Rattle.vd_trees.specs.declared.rows.RowKind.TheVariants.{Port, Signal, Implicit, Label, TypeName}

-- ---- rows

abbrev pub kind_of : List ℕ → Option RowKind
kind_of word =
    if bytes_eq word (codes "port") then Some Port
    else (if bytes_eq word (codes "signal") then Some Signal
    else (if bytes_eq word (codes "implicit") then Some Implicit
    else (if bytes_eq word (codes "label") then Some Label
    else (if bytes_eq word (codes "type") then Some TypeName
    else None))))

-- the text at a place of a list
abbrev pub text_at : ℕ → Data → Option (List ℕ)
text_at place d = option_and_then as_str (at place d)

-- six texts, and nothing behind them
abbrev pub row_with : Option RowKind → Option (List ℕ) → Option (List ℕ) → Option (List ℕ) → Option (List ℕ) → Option (List ℕ) → Bool → Option Row
row_with (Some kind) (Some unit) (Some name19) (Some name93) (Some mark) (Some mode) false =
    Some (record { kind = kind; unit = unit; name19 = name19; name93 = name93; mark = mark; mode = mode; range = [] })
row_with _ _ _ _ _ _ _ = None

abbrev pub row_in : Data → Option Row
row_in d = row_with (option_and_then kind_of (text_at 0 d)) (text_at 1 d) (text_at 2 d) (text_at 3 d) (text_at 4 d) (text_at 5 d) (is_some (at 6 d))

-- ---- the rows of a list, or the number of the first that is none

pub data Answer : Type 0 where
  HasRows : List Row → Answer
  HasOther : ℕ → Answer

abbrev pub with_row : ℕ → Option Row → Answer → Answer
with_row number None rest = HasOther number
with_row number (Some row) (HasRows rows) = HasRows (row ∷ rows)
with_row number (Some row) (HasOther other) = HasOther other

abbrev pub rows_from : ℕ → Items → Answer
rows_from number no_items = HasRows []
rows_from number (item d ds) = with_row number (row_in d) (rows_from (suc number) ds)

-- ---- the whole

abbrev pub count_members : Members → ℕ
count_members no_members = 0
count_members (member key d ms) = suc (count_members ms)

abbrev pub has_two : Option Members → Bool
has_two None = false
has_two (Some ms) = count_members ms == 2

abbrev pub is_pair : Data → Bool
is_pair d = has_two (as_object d)

abbrev pub is_one : Option ℕ → Bool
is_one None = false
is_one (Some n) = n == 1

abbrev pub is_format : Data → Bool
is_format d = is_one (option_and_then as_u64 (option_and_then as_number (get (codes "format") d)))

abbrev pub rows_member : Data → Option Items
rows_member d = if is_pair d && is_format d then option_and_then as_array (get (codes "rows") d) else None

abbrev pub answer_of_items : Option Items → Answer
answer_of_items None = HasOther 0
answer_of_items (Some items) = rows_from 1 items

-- where there is no value, there is no map
abbrev pub answer_to : Option Data → Answer
answer_to None = HasOther 0
answer_to (Some d) = answer_of_items (rows_member d)
