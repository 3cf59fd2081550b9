-- What the mode `convert` says of files of revision 2019.
use Rattle.std.specs.Prelude.{◌≡◌, ◌<◌, ◌≤◌, ℕ, List, ◌∷◌, [], ◌++◌, length, codes}
use Rattle.std.specs.Fmt.{decimal}
use Rattle.vd_bytes.specs.declared.answers.Limit.{Limit}
use Rattle.vd_bytes.specs.declared.answers.Limit.TheVariants as limit_of
use Rattle.vd_bytes.specs.declared.answers.Refused.{Refused}
use Rattle.vd_modes.specs.Checks.{refusal_in, warnings_from}
use Rattle.vd_directives.specs.declared.selected.Line.{Line}
use Rattle.vd_first_names.specs.Maps.{map_text_of}
use Rattle.vd_program.specs.Dues.{Due, limit_number, limit_passed}
use Rattle.vd_trees.specs.declared.rows.Row.{Row}
use Rattle.vd_modes.specs.Conversions.{AreConverted, IsBeyond, IsRefused}
use Rattle.vd_modes.specs.Texts.{IsIn93}

-- converted U units R rows
abbrev pub conversion_line : ℕ → ℕ → List ℕ
conversion_line units rows = (codes "converted " ++ (decimal units ++ (codes " units " ++ decimal rows))) ++ (codes " rows" ++ 10 ∷ [])

-- the warnings of the files, and that line
abbrev pub console_of : List (List ℕ) → List (List Line) → ℕ → ℕ → List ℕ
console_of names warnings units rows = warnings_from names 0 warnings ++ conversion_line units rows

-- what is due where files become this design with these rows
abbrev pub conversion : List (List ℕ) → List (List Line) → List ℕ → List Row → ℕ → Due
conversion names warnings design rows units =
    record { status = 0; design = design; map = map_text_of rows; console = console_of names warnings units (length rows) }

-- files that break no rule, so that they may be converted
abbrev pub MayBeConverted : List ℕ → List (List ℕ) → Type 0
MayBeConverted tool contents = (units : ℕ) × (warnings : List (List Line)) × AreConverted tool contents units warnings

-- What is said of files of these names with these contents. The first argument is the tool type
pub data SaysConversion (tool : List ℕ) (names contents : List (List ℕ)) (due : Due) : Type 0 where
  refuses : (x : Refused) → IsRefused tool contents x → due ≡ refusal_in names x → SaysConversion tool names contents due
  limits : (limit : Limit) → IsBeyond tool contents limit → due ≡ limit_passed limit → SaysConversion tool names contents due
  is_long : (units rows : ℕ) (warnings : List (List Line)) → AreConverted tool contents units warnings
      → limit_number limit_of.Output < length (console_of names warnings units rows) → due ≡ limit_passed limit_of.Output → SaysConversion tool names contents due
  converts : (design : List ℕ) (rows : List Row) (units : ℕ) (warnings : List (List Line)) → AreConverted tool contents units warnings → IsIn93 design
      → length (console_of names warnings units (length rows)) ≤ limit_number limit_of.Output
      → due ≡ conversion names warnings design rows units → SaysConversion tool names contents due
