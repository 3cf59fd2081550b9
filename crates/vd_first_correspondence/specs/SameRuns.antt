-- Two designs have the same run: signals that join have equal values at equal times, with equal reports and stop, whatever the
-- outside does and however many cycles are asked for.
use Rattle.std.specs.Prelude.{◌≡◌, ◌<◌, ℕ, List, length, slice_get, Option, Some, None}
use Rattle.std.specs.List.{AllZip}
use Rattle.vd_forest.specs.Forest.{Forest}
use Rattle.vd_first_trees.specs.declared.form.Form.{Form}
use Rattle.vd_trees.specs.declared.rows.Row.{Row}
use Rattle.vd_first_names.specs.Joins.{ScopesJoin}
use Rattle.vd_kernel.specs.Stimuli.{SameRunAtInputs}
use Rattle.vd_first_elaboration.specs.Tops.{Top}
use Rattle.vd_first_elaboration.specs.Signals.{ScalarSignal}
use Rattle.vd_first_elaboration.specs.Elaboration.{Elaborated, elaboration}
use Rattle.vd_first_elaboration.specs.Traces.{declared_in}
use Rattle.vd_first_correspondence.specs.WholeMaps.{HasOne, Joined}

-- ---- through a map

-- for every two stimuli that are equal at joined inputs joined signals show the same; and the processes stand in order at places that join, as joined signals are declared at such places, so
-- that a stop of the one design is at a place that joins that of the other
pub record IsSameRun (rows : List Row) (m n : Elaborated) : Type 0 where
  pub run : SameRunAtInputs (Joined rows m.signals n.signals) m.model n.model
  pub scopes : AllZip (ScopesJoin rows) m.scopes n.scopes
  pub declared : (i j : ℕ) → (x : Joined rows m.signals n.signals i j) → ScopesJoin rows (declared_in (Some x.left)) (declared_in (Some x.right))

-- the same run of a top: both designs have the top and its run, or neither has it
abbrev pub IsSameRunFor : List Row → Option Elaborated → Option Elaborated → Type 0
IsSameRunFor rows None None = Unit {0}
IsSameRunFor rows None (Some n) = ⊥
IsSameRunFor rows (Some m) None = ⊥
IsSameRunFor rows (Some m) (Some n) = IsSameRun rows m n

-- the same run of every top of two trees
pub record HaveSameRun (rows : List Row) (units19 units93 : Forest Form) : Type 0 where
  pub for_each : (top : Top) → IsSameRunFor rows (elaboration units19 top) (elaboration units93 top)

-- ---- where each name stands for itself

-- signal i of these and signal j of those have one path
pub record HaveOnePath (ms ns : List ScalarSignal) (i j : ℕ) : Type 0 where
  pub left : ScalarSignal
  pub right : ScalarSignal
  pub left_is : slice_get ms i ≡ Some left
  pub right_is : slice_get ns j ≡ Some right
  pub same : left.path ≡ right.path

-- each scalar signal has one of its path in the other design, and no other one; and the run is the same
pub record IsSameByPath (m n : Elaborated) : Type 0 where
  pub each_left : (i : ℕ) → i < length m.signals → HasOne (λ j. HaveOnePath m.signals n.signals i j)
  pub each_right : (j : ℕ) → j < length n.signals → HasOne (λ i. HaveOnePath m.signals n.signals i j)
  pub run : SameRunAtInputs (HaveOnePath m.signals n.signals) m.model n.model
  pub scopes : m.scopes ≡ n.scopes

abbrev pub IsSameByPathFor : Option Elaborated → Option Elaborated → Type 0
IsSameByPathFor None None = Unit {0}
IsSameByPathFor None (Some n) = ⊥
IsSameByPathFor (Some m) None = ⊥
IsSameByPathFor (Some m) (Some n) = IsSameByPath m n

pub record AreSameByPath (left right : Forest Form) : Type 0 where
  pub for_each : (top : Top) → IsSameByPathFor (elaboration left top) (elaboration right top)
