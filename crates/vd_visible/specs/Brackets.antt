-- The state of what stands in brackets, as code tells it.
use Rattle.std.specs.Prelude.{ℕ, Option, Some, None}
use Rattle.vd_states.specs.declared.states.State.{State}
use Rattle.vd_states.specs.declared.states.State.TheVariants as state
use Rattle.vd_states.specs.declared.states.Want.TheVariants as want
use Rattle.vd_visible.specs.declared.brackets.Brackets.{Brackets}
use Rattle.vd_visible.specs.declared.brackets.Brackets.TheVariants as brackets

abbrev pub state_of : ℕ → Brackets → Option State
state_of t brackets.Expression = Some (state.Only (want.Value t))
state_of t brackets.Elements = Some (state.Elements t)
state_of t (brackets.Fields others) = Some (state.Fields t (Some 0) others)
state_of t brackets.Nothing = None
