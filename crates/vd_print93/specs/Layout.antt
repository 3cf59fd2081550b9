-- How a tree of revision 1993 is laid out in lines. Where lines end, and how far in they begin, stands in the templates.
use Rattle.std.specs.Prelude.{ℕ, ◌+◌, ◌-◌, ◌*◌, Bool, true, false, List, [], ◌∷◌, replicate, Option, Some, None, if◌then◌else◌}
use Rattle.vd_forest.specs.Forest.{Forest}
use Rattle.vd_forms.specs.declared.form.Form.{Form}
use Rattle.vd_tokens.specs.declared.kinds.Kind.{Kind}
use Rattle.vd_print93.specs.declared.layout.Layout.{Layout}
use Rattle.vd_templates.specs.Templates.{Item, token, end_line, inward, outward, items_of}
use Rattle.vd_spacing.specs.Spacing.{is_spaced, Spacing, touching, spaced, new_line, Laid, laid_behind, laid_bytes}

-- two spaces for each level
abbrev pub line_start : ℕ → List ℕ
line_start level = 10 ∷ replicate (2 * level) 32

-- what stands between a token and the next one: where a line ended behind it, a new line at this level
abbrev pub spacing_of : ℕ → Bool → Kind → Kind → Spacing
spacing_of level ended left right = if ended then new_line level else (if is_spaced left right then spaced else touching)

-- nothing stands in front of the first token
abbrev pub spacing_behind : ℕ → Bool → Option Kind → Kind → Spacing
spacing_behind level ended None right = touching
spacing_behind level ended (Some left) right = spacing_of level ended left right

-- the tokens of some items, with what stands in front of each. A line that ended behind the last token begins anew with the next one,
-- at the level that the lines have by then
abbrev pub laid_from : ℕ → Bool → Option Kind → List Item → List Laid
laid_from level ended last [] = []
laid_from level ended last (token k text ∷ items) =
    record { spacing = spacing_behind level ended last k; kind = k; text = text } ∷ laid_from level false (Some k) items
laid_from level ended last (end_line ∷ items) = laid_from level true last items
laid_from level ended last (inward ∷ items) = laid_from (level + 1) ended last items
laid_from level ended last (outward ∷ items) = laid_from (level - 1) ended last items

abbrev pub laid_out : Forest Form → List Laid
laid_out units = laid_from 0 false None (items_of units)

-- the text of the units of a file
abbrev pub layout_of : Forest Form → List ℕ
layout_of units = laid_bytes (laid_out units)

-- ---- as the code goes on

-- the bytes of tokens behind a token, or at the start of a file
abbrev pub bytes_behind : Option Kind → List Laid → List ℕ
bytes_behind None ts = laid_bytes ts
bytes_behind (Some left) ts = laid_behind ts

-- the bytes of the items that are left
abbrev pub bytes_from : Layout → List Item → List ℕ
bytes_from l items = bytes_behind l.last (laid_from l.level l.ended l.last items)
