-- Where the rows of a table begin, as far as they were looked for.
use Rattle.std.specs.Prelude.{◌≡◌, ℕ, ◌/◌, ◌%◌, ◌<◌, ◌≤◌, List, length, drop, slice_index_or}
use Rattle.vd_forms.specs.declared.form.Form.{Form}
use Rattle.vd_forms.specs.Forms.{form_number}
use Rattle.vd_templates.specs.declared.pieces.Piece.{Piece}
use Rattle.vd_templates.specs.Templates.{up_to_head, row_in}
use Rattle.vd_writing.specs.declared.rows.TheConstants.{STATES}

-- the number with this index tells where a row begins, if it isn't 0
abbrev pub IsStart : List Piece → ℕ → ℕ → Type 0
IsStart table k start =
    0 < start → (start ≤ length table) × ((f : Form) → form_number f ≡ k / STATES → up_to_head (drop start table) ≡ row_in (k % STATES) f table)

abbrev pub AreStarts : List Piece → List ℕ → Type 0
AreStarts table starts = (k : ℕ) → k < length starts → IsStart table k (slice_index_or starts k 0)
