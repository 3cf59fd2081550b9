-- The templates keep the layout: computed for each form.
use Rattle.std.specs.Prelude.{◌≡◌, false, ◌∷◌, IsTrue}
use Rattle.std.proofs.Common.{refl}
use Rattle.vd_forms.specs.declared.form.Form.{Form}
use Rattle.vd_forms.specs.declared.form.Form.TheVariants as form
use Rattle.vd_templates.specs.declared.states.TheConstants.{AS_IT_IS, OPERAND, LEFT_OF_AND, LEFT_OF_OR, LEFT_OF_XOR, LEFT_OF_XNOR, LEFT_OF_SUM, LEFT_OF_PRODUCT, GENERATED}
use Rattle.vd_templates.specs.Templates.{row_of}
use Rattle.vd_templates.specs.Layout.{primaries, in_brackets_but, operand_states, operands_of, lines_end, levels_end, HaveBrackets, HaveLines, HaveLevels}

operands : (f : Form) → operand_states (row_of AS_IT_IS f) ≡ operands_of f
operands form.Absent = refl
operands _ = refl

operand : (f : Form) → row_of OPERAND f ≡ in_brackets_but primaries f
operand form.Absent = refl
operand _ = refl

left_of_and : (f : Form) → row_of LEFT_OF_AND f ≡ in_brackets_but (form.And ∷ primaries) f
left_of_and form.Absent = refl
left_of_and _ = refl

left_of_or : (f : Form) → row_of LEFT_OF_OR f ≡ in_brackets_but (form.Or ∷ primaries) f
left_of_or form.Absent = refl
left_of_or _ = refl

left_of_xor : (f : Form) → row_of LEFT_OF_XOR f ≡ in_brackets_but (form.Xor ∷ primaries) f
left_of_xor form.Absent = refl
left_of_xor _ = refl

left_of_xnor : (f : Form) → row_of LEFT_OF_XNOR f ≡ in_brackets_but (form.Xnor ∷ primaries) f
left_of_xnor form.Absent = refl
left_of_xnor _ = refl

left_of_sum : (f : Form) → row_of LEFT_OF_SUM f ≡ in_brackets_but (form.Add ∷ form.Subtract ∷ form.Concatenate ∷ primaries) f
left_of_sum form.Absent = refl
left_of_sum _ = refl

left_of_product : (f : Form) → row_of LEFT_OF_PRODUCT f ≡ in_brackets_but (form.Multiply ∷ form.Divide ∷ form.Modulo ∷ form.Remainder ∷ primaries) f
left_of_product form.Absent = refl
left_of_product _ = refl

lines : (f : Form) → IsTrue (lines_end f 0 0 (row_of AS_IT_IS f))
lines form.Absent = refl
lines _ = refl

lines_generated : (f : Form) → IsTrue (lines_end f 0 0 (row_of GENERATED f))
lines_generated form.Absent = refl
lines_generated _ = refl

levels : (f : Form) → IsTrue (levels_end false (row_of AS_IT_IS f))
levels form.Absent = refl
levels _ = refl

levels_generated : (f : Form) → IsTrue (levels_end false (row_of GENERATED f))
levels_generated form.Absent = refl
levels_generated _ = refl

pub brackets : HaveBrackets
brackets = record { operands = operands; operand = operand; left_of_and = left_of_and; left_of_or = left_of_or; left_of_xor = left_of_xor; left_of_xnor = left_of_xnor; left_of_sum = left_of_sum; left_of_product = left_of_product }

pub all_lines : HaveLines
all_lines = record { as_they_are = lines; generated = lines_generated }

pub all_levels : HaveLevels
all_levels = record { as_they_are = levels; generated = levels_generated }
