-- What of a node is read, and in which order. A target isn't read, but what is in its brackets is.
use Rattle.std.specs.Prelude.{Bool, true, false, ◌&&◌, if◌then◌else◌}
use Rattle.vd_forms.specs.declared.form.Form.{Form}
use Rattle.vd_forms.specs.declared.form.Form.TheVariants as form
use Rattle.vd_notes.specs.declared.noted.Note.{Note}
use Rattle.vd_notes.specs.declared.noted.Note.TheVariants as note
use Rattle.vd_sensitivity.specs.declared.orders.Order.{Order}
use Rattle.vd_sensitivity.specs.declared.orders.Order.TheVariants as order
use Rattle.vd_sensitivity.specs.declared.orders.Staticness.{Staticness}
use Rattle.vd_sensitivity.specs.declared.orders.Staticness.TheVariants as statics
use Rattle.vd_sensitivity.specs.declared.orders.What.{What}
use Rattle.vd_sensitivity.specs.declared.orders.What.TheVariants as what

abbrev pub order_of : Form → Order
order_of form.Name = order.Name
order_of form.OperatorName = order.Name
order_of form.SignalAssignment = order.Assignment
order_of form.VariableAssignment = order.Assignment
order_of form.ConcurrentAssignment = order.Assignment
order_of form.SelectedSignalAssignment = order.Selection
order_of form.SelectedVariableAssignment = order.Selection
order_of form.DiscreteSubtype = order.Range
order_of _ = order.Parts

abbrev pub is_value : What → Bool
is_value what.Inside = false
is_value _ = true

-- An index that means the same outside of the process stands in the list as it is written. One that names something that the process declares stands
-- there as its value, and so it must be known.
abbrev pub static_by : Note → Staticness
static_by (note.Index is_local is_global is_known left right down) =
    if is_global then statics.AsWritten else (if is_local && is_known then statics.AsValues else statics.Never)
static_by _ = statics.Unnoted
