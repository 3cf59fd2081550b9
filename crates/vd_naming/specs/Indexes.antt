-- The index of an array type. (IEEE 1076, array types)
use Rattle.std.specs.Prelude.{ℕ, Bool, false, not, Option, Some, None}
use Rattle.vd_forest.specs.Forest.{Forest}
use Rattle.vd_forms.specs.declared.form.Form.{Form}
use Rattle.vd_overloads.specs.Interpretations.{first_place}
use Rattle.vd_visible.specs.Sights.{Sight}
use Rattle.vd_name_rows.specs.declared.steps.Want.TheVariants as want
use Rattle.vd_name_rows.specs.Designs.{At, Design, Outcome, sight}
use Rattle.vd_name_rows.specs.Refusals.{lesser, broken_if}
use Rattle.vd_naming.specs.Expressions.{expression, at_hand, read_as_mark, mark_declared, type_declared, discrete_class}

-- a discrete range
abbrev pub array_index : At → Design → Forest Form → Outcome
array_index at d tree = at_hand (expression want.AnyRange at d tree)

abbrev pub is_other_type : Sight → Option ℕ → Bool
is_other_type s None = false
is_other_type s (Some t) = not (discrete_class s t)

-- the type of the mark is at hand
abbrev pub with_index : Sight → Option ℕ → Forest Form → Outcome → Outcome
with_index s t tree o = record o { at = record o.at { mark = t }; first = lesser o.first (broken_if (is_other_type s t) 307 (first_place tree)) }

abbrev pub index_mark : At → Design → Forest Form → Outcome
index_mark at d tree = let o = read_as_mark at d tree in
    with_index (sight at d) (type_declared (sight at d) (mark_declared o.tree)) tree o
