-- The map: a row for each port, in order, and its text, which is compact JSON and a line end.
use Rattle.std.specs.Prelude.{ℕ, ◌+◌, ◌/◌, ◌%◌, List, [], ◌∷◌, ◌++◌, codes, nat_lt, ◌==◌, if◌then◌else◌}
use Rattle.std.specs.List.{flat_map}
use Rattle.vd_forest.specs.Forest.{Forest, nothing, more, text_of, parts_of, next_of}
use Rattle.vd_first_trees.specs.declared.form.Form.{Form}
use Rattle.vd_first_trees.specs.declared.form.Form.TheVariants as form
use Rattle.vd_trees.specs.declared.rows.RowKind.{RowKind}
use Rattle.vd_trees.specs.declared.rows.RowKind.TheVariants.{Port, Signal, Implicit, Label, TypeName}
use Rattle.vd_trees.specs.declared.rows.Row.{Row}
use Rattle.vd_first_trees.specs.Forms.{same_form}

-- ---- rows

-- the text of the last of some leaves, or another where there is none
abbrev pub text_or : List ℕ → Forest Form → List ℕ
text_or text nothing = text
text_or text (more f t p parts next) = text_or t next

abbrev pub last_text : Forest Form → List ℕ
last_text leaves = text_or [] leaves

abbrev pub mode_text : Forest Form → List ℕ
mode_text nothing = []
mode_text (more f t p parts next) = if same_form f form.Out then codes "out" else codes "in"

-- a port keeps its name
abbrev pub port_row : List ℕ → List ℕ → List ℕ → List ℕ → Row
port_row unit name mark mode = record { kind = Port; unit = unit; name19 = name; name93 = name; mark = mark; mode = mode; range = [] }

-- a row for each of some identifiers
abbrev pub rows_each : List ℕ → Forest Form → List ℕ → List ℕ → List Row
rows_each unit nothing mark mode = []
rows_each unit (more f name p parts next) mark mode = port_row unit name mark mode ∷ rows_each unit next mark mode

-- the mark of a declaration's subtype, which is a selected name: its last identifier
abbrev pub mark_of : Forest Form → List ℕ
mark_of declaration = last_text (parts_of (parts_of (next_of (next_of declaration))))

-- the rows of some declarations of ports: each has identifiers, a mode and a subtype
abbrev pub port_rows : List ℕ → Forest Form → List Row
port_rows unit nothing = []
port_rows unit (more f t p parts next) = rows_each unit (parts_of parts) (mark_of parts) (mode_text (next_of parts)) ++ port_rows unit next

-- the rows of a unit: an entity's first part is its name, its second one the port clause
abbrev pub unit_rows : Forest Form → List Row
unit_rows nothing = []
unit_rows (more f t p parts next) = if same_form f form.EntityDeclaration then port_rows (text_of parts) (parts_of (next_of parts)) else []

-- the rows of some design units, each a context clause and a unit
abbrev pub design_rows : Forest Form → List Row
design_rows nothing = []
design_rows (more f t p parts next) = unit_rows (next_of parts) ++ design_rows next

-- ---- the text

-- a digit of base 16, in lower case
abbrev pub digit : ℕ → ℕ
digit n = if nat_lt n 10 then 48 + n else 87 + n

abbrev pub code_start : List ℕ
code_start = codes "\\u00"

-- a quotation mark, a backslash and the control codes are escaped
abbrev pub escaped : ℕ → List ℕ
escaped b =
    if b == 34 then 92 ∷ 34 ∷ []
    else (if b == 92 then 92 ∷ 92 ∷ []
    else (if b == 8 then 92 ∷ 98 ∷ []
    else (if b == 9 then 92 ∷ 116 ∷ []
    else (if b == 10 then 92 ∷ 110 ∷ []
    else (if b == 12 then 92 ∷ 102 ∷ []
    else (if b == 13 then 92 ∷ 114 ∷ []
    else (if nat_lt b 32 then code_start ++ (digit (b / 16) ∷ digit (b % 16) ∷ [])
    else b ∷ [])))))))

abbrev pub quoted : List ℕ → List ℕ
quoted text = 34 ∷ flat_map escaped text ++ 34 ∷ []

abbrev pub kind_text : RowKind → List ℕ
kind_text Port = codes "port"
kind_text Signal = codes "signal"
kind_text Implicit = codes "implicit"
kind_text Label = codes "label"
kind_text TypeName = codes "type"

-- a text behind its comma
abbrev pub field_text : List ℕ → List ℕ
field_text text = 44 ∷ quoted text

abbrev pub row_text : Row → List ℕ
row_text r =
    codes "["
    ++ (quoted (kind_text r.kind)
    ++ (field_text r.unit
    ++ (field_text r.name19
    ++ (field_text r.name93
    ++ (field_text r.mark
    ++ (field_text r.mode
    ++ codes "]"))))))

-- rows behind a first one, each behind its comma
abbrev pub further_rows_text : List Row → List ℕ
further_rows_text rs = flat_map (λ r. codes "," ++ row_text r) rs

abbrev pub rows_text : List Row → List ℕ
rows_text [] = []
rows_text (r ∷ rs) = row_text r ++ further_rows_text rs

abbrev pub map_text_of : List Row → List ℕ
map_text_of rs = codes "{\"format\":1,\"rows\":[" ++ rows_text rs ++ codes "]}" ++ 10 ∷ []
