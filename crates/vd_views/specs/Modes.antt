-- Modes of the elements of views. (IEEE 1076-2019, mode views)
use Rattle.std.specs.Prelude.{Bool, true, false, Option, Some, None}
use Rattle.vd_forms.specs.declared.form.Form.{Form}
use Rattle.vd_forms.specs.declared.form.Form.TheVariants as form
use Rattle.vd_views.specs.declared.views.Mode.{Mode}
use Rattle.vd_views.specs.declared.views.Mode.TheVariants as mode

abbrev pub swapped : Mode → Mode
swapped mode.In = mode.Out
swapped mode.Out = mode.In
swapped mode.InOut = mode.InOut

-- in a converse `in` and `out` are exchanged
abbrev pub conversed : Bool → Mode → Mode
conversed true m = swapped m
conversed false m = m

-- a converse of a converse has the modes of the view itself
abbrev pub differ : Bool → Bool → Bool
differ true true = false
differ true false = true
differ false b = b

-- the mode that a word is
abbrev pub mode_of : Form → Option Mode
mode_of form.In = Some mode.In
mode_of form.Out = Some mode.Out
mode_of form.InOut = Some mode.InOut
mode_of _ = None

-- and the word of a mode
abbrev pub word_of : Mode → Form
word_of mode.In = form.In
word_of mode.Out = form.Out
word_of mode.InOut = form.InOut
