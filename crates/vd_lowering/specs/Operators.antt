-- The operators that made expressions call, by the types of their operands.
use Rattle.std.specs.Prelude.{ℕ, List, Option, None, Some, slice_index_or}
use Rattle.vd_forms.specs.declared.form.Form.{Form}
use Rattle.vd_forms.specs.declared.form.Form.TheVariants as form
use Rattle.vd_lowering.specs.declared.operators.TypeRow.{TypeRow}

abbrev pub no_row : TypeRow
no_row = record { negation = None; conjunction = None; disjunction = None; exclusion = None; equality = None; at_least = None; at_most = None }

-- the operator of a row for nodes of a form
abbrev pub operator_in : Form → TypeRow → Option ℕ
operator_in form.Not row = row.negation
operator_in form.And row = row.conjunction
operator_in form.Or row = row.disjunction
operator_in form.Xor row = row.exclusion
operator_in form.Equal row = row.equality
operator_in form.AtLeast row = row.at_least
operator_in form.AtMost row = row.at_most
operator_in _ row = None

-- with operands of a type
abbrev pub operator_at : List TypeRow → Form → Option ℕ → Option ℕ
operator_at rows f None = None
operator_at rows f (Some of) = operator_in f (slice_index_or rows of no_row)
