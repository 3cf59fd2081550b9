-- What a run of a design shows. (IEEE 1076, execution of a model: initialisation, and the simulation cycles behind it.)
use Rattle.std.specs.Prelude.{ℕ, List}
use Rattle.vd_values.specs.declared.scalar.Scalar.{Scalar}
use Rattle.vd_trees.specs.declared.traces.Report.{Report}
use Rattle.vd_trees.specs.declared.traces.Stop.{Stop}

-- what a step comes to: a value for each scalar signal, in their order, or a stop
pub data Outcome : Type 0 where
  shows : (values : List Scalar) → Outcome
  stops : (stop : Stop) → Outcome

-- the initialisation or a cycle: its time in femtoseconds, the number of its delta cycle, its reports in order
pub record Step : Type 0 where
  pub time : ℕ
  pub delta : ℕ
  pub reports : List Report
  pub outcome : Outcome

-- why no step follows: all cycles that were asked for are done, nothing is left to come, the last step stopped, or the
-- elaboration stopped, in which case there is no step
pub data End : Type 0 where
  done : End
  quiet : End
  halted : End
  not_elaborated : (stop : Stop) → End

-- the steps in order, the initialisation first
pub record Trace : Type 0 where
  pub steps : List Step
  pub end : End
