-- Two designs have the same run through a map: paths that join show equal values at equal times, with equal reports and equal stops, whatever the outside does and
-- however many cycles are asked for.
use Rattle.std.specs.Prelude.{◌≡◌, ℕ, List, slice_get, Some, IsTrue}
use Rattle.std.specs.List.{AllZip}
use Rattle.vd_trees.specs.declared.revision.Revision.{Revision}
use Rattle.vd_trees.specs.declared.paths.Scope.{Scope}
use Rattle.vd_trees.specs.declared.traces.Stop.{Stop}
use Rattle.vd_kernel.specs.Stimuli.{SameRunAtInputs}
use Rattle.vd_resolved.specs.Trees.{ResolvedTree}
use Rattle.vd_environments.specs.Got.{Halt}
use Rattle.vd_meaning.specs.Building.{ScalarObject, Placed, Made, Failing, Stopped, Limited}
use Rattle.vd_meaning.specs.Elaborations.{Elaboration, Elaborates, Fails, NoTop, elaboration, model_of, signal_scope}
use Rattle.vd_joins.specs.Joins.{Joining, joins, scopes_join}
use Rattle.vd_maps.specs.Tops.{NamedTop, top_in, HasTop, HasTypedGenerics}

-- ---- signals

-- signal i of the one design and signal j of the other, whose paths join
pub record Joined (by : Joining) (ms ns : List ScalarObject) (i j : ℕ) : Type 0 where
  pub left : ScalarObject
  pub right : ScalarObject
  pub left_is : slice_get ms i ≡ Some left
  pub right_is : slice_get ns j ≡ Some right
  pub join : IsTrue (joins by left.path right.path)

abbrev pub Joins : Joining → Made → Made → ℕ → ℕ → Type 0
Joins by m n = Joined by m.signals n.signals

-- ---- stops

abbrev pub ScopesJoin : Joining → Scope → Scope → Type 0
ScopesJoin by s t = IsTrue (scopes_join by s t)

-- Stops are equal where kind, time and delta are equal and the scopes join; failures besides have one text.
pub record EqualStops (by : Joining) (s t : Stop) : Type 0 where
  pub kind : s.kind ≡ t.kind
  pub time : s.time ≡ t.time
  pub delta : s.delta ≡ t.delta
  pub scope : ScopesJoin by s.scope t.scope
  pub text : s.text ≡ t.text

abbrev pub stop_in_elaboration : Halt → Scope → Stop
stop_in_elaboration halt scope = record { kind = halt.kind; time = 0; delta = 0; scope = scope; text = halt.text }

-- two elaborations end alike: in equal stops, or at the same limit
abbrev pub EndAlike : Joining → Failing → Failing → Type 0
EndAlike by (Stopped h s) (Stopped k t) = EqualStops by (stop_in_elaboration h s) (stop_in_elaboration k t)
EndAlike by (Stopped h s) (Limited k) = ⊥
EndAlike by (Limited l) (Stopped k t) = ⊥
EndAlike by (Limited l) (Limited k) = l ≡ k

-- ---- runs

-- For every two stimuli that are equal at joined inputs, and any number of cycles, there are equally many steps with equal times, delta numbers and reports, in which joined
-- signals show the same, and an equal end. A stop names its process, or the signal with two sources, by number: so processes stand in order at scopes that join, and joined
-- signals are declared at such.
pub record IsSameRun (by : Joining) (m n : Made) : Type 0 where
  pub run : SameRunAtInputs (Joins by m n) (model_of m) (model_of n)
  pub scopes : AllZip (λ (p q : Placed). ScopesJoin by p.scope q.scope) m.processes n.processes
  pub declared : (i j : ℕ) → (x : Joins by m n i j) → ScopesJoin by (signal_scope (Some x.left)) (signal_scope (Some x.right))

-- Both elaborations give designs with the same run, or end alike. That neither has the top counts only where it isn't there.
abbrev pub HaveSameRunIf : Type 0 → Joining → Elaboration → Elaboration → Type 0
HaveSameRunIf there by (Elaborates m) (Elaborates n) = IsSameRun by m n
HaveSameRunIf there by (Fails f) (Fails g) = EndAlike by f g
HaveSameRunIf there by NoTop NoTop = there → ⊥
HaveSameRunIf there by _ _ = ⊥

-- Two trees, each of its revision, have the same run for every top, with equal values of their types for its generics.
pub record HaveSameRun (by : Joining) (r s : Revision) (left right : ResolvedTree) : Type 0 where
  pub for_each : (top : NamedTop) → HasTypedGenerics r left top → HaveSameRunIf (HasTop left top) by (elaboration r left (top_in left top)) (elaboration s right (top_in right top))
