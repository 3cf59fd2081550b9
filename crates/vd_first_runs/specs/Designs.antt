-- A design of the code before its run, beside an elaborated one.
use Rattle.std.specs.Prelude.{◌≡◌, map, length, replicate, Some, None}
use Rattle.vd_forest.specs.Forest.{text_of, erased}
use Rattle.vd_trees.specs.declared.traces.RunEnd.{RunEnd}
use Rattle.vd_trees.specs.declared.traces.RunEnd.TheVariants as ends
use Rattle.vd_kernel.specs.Cycles.{initialised}
use Rattle.vd_kernel.specs.Traces.{with_two}
use Rattle.vd_kernel.specs.SignalValues.{nothing_given}
use Rattle.vd_kernel.specs.Orders.{shape_of, IsRingFree}
use Rattle.vd_simulation.specs.Designs.{IsGiven}
use Rattle.vd_first_elaboration.specs.Tops.{TopUnits}
use Rattle.vd_first_elaboration.specs.Processes.{number_of}
use Rattle.vd_first_elaboration.specs.Elaboration.{Elaborated, elaborated_units}
use Rattle.vd_first_elaboration.specs.Traces.{paths_of}
use Rattle.vd_first_runs.specs.declared.elaboration.ResolvedDesign.{ResolvedDesign}
use Rattle.vd_first_runs.specs.Elaborations.{stop_of}
use Rattle.vd_first_runs.specs.Places.{scope_at}
use Rattle.vd_first_processes.specs.Resolved.{resolved}
use Rattle.vd_first_runs.specs.Runs.{Running, object_names, HasCome}

-- the design that some units make. Places play no role in it
abbrev pub elaborated_of : TopUnits → Elaborated
elaborated_of u = elaborated_units (record { entity = erased u.entity; architecture = erased u.architecture })

-- The code's design is the one of these units, with names that are resolved.
pub record IsDesignOf (u : TopUnits) (design : ResolvedDesign) : Type 0 where
  pub entity_is : design.entity ≡ text_of u.entity
  pub architecture_is : design.architecture ≡ text_of u.architecture
  pub paths_are : design.paths.items ≡ paths_of (elaborated_of u)
  pub scopes_are : (elaborated_of u).scopes ≡ replicate (length design.processes.items) (scope_at design.entity design.architecture)
  pub given : IsGiven (elaborated_of u).model.shape design.shape
  pub ring_free : IsRingFree (shape_of design.shape.scalars.items)
  pub processes_are : design.processes.items ≡ map (resolved (number_of (object_names (elaborated_of u)))) (elaborated_of u).model.processes

-- no signal has two sources, and the run has come through initialisation
pub record HasBegun (e : Elaborated) (run : Running) : Type 0 where
  pub one_source : with_two 0 e.model.shape.signals ≡ None
  pub come : HasCome e run (initialised e.model nothing_given)

-- two sources of a signal are the end, or that memory ran out
abbrev pub EndsBeforeRun : Elaborated → RunEnd → Type 0
EndsBeforeRun e (ends.Stop stop) = stop_of e ≡ Some stop
EndsBeforeRun e (ends.Limit limit) = ⊥
EndsBeforeRun e ends.Memory = Unit {0}
