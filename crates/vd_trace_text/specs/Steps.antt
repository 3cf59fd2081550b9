-- The two kinds of steps.
use Rattle.std.specs.Prelude.{ℕ, List}
use Rattle.vd_values.specs.declared.scalar.Scalar.{Scalar}
use Rattle.vd_trees.specs.declared.traces.Report.{Report}
use Rattle.vd_trees.specs.declared.traces.Stop.{Stop}
use Rattle.vd_trees.specs.Traces.{shows, stops, Step}

abbrev pub shown_step : ℕ → ℕ → List Report → List Scalar → Step
shown_step time delta reports values = record { time = time; delta = delta; reports = reports; outcome = shows values }

abbrev pub stopped_step : ℕ → ℕ → List Report → Stop → Step
stopped_step time delta reports stop = record { time = time; delta = delta; reports = reports; outcome = stops stop }
