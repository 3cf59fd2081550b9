-- The signals and drivers of a top, as the kernel's code is given them. (IEEE 1076, drivers.)
use Rattle.std.specs.Prelude.{ℕ, suc, false, List, [], ◌∷◌, ◌++◌, length, None, slice_index_or, slice_set, if◌then◌else◌}
use Rattle.vd_forest.specs.Forest.{Forest, parts_of, next_of, tree_count}
use Rattle.vd_first_trees.specs.declared.form.Form.{Form}
use Rattle.vd_values.specs.declared.scalar.Scalar.TheVariants.{Literal}
use Rattle.vd_kernel.specs.declared.assignments.Source.{Source}
use Rattle.vd_kernel.specs.declared.assignments.Source.TheVariants.{Driver}
use Rattle.vd_kernel.specs.declared.shape.DriverShape.{DriverShape}
use Rattle.vd_kernel.specs.Models.{Signal, Shape, no_signal}
use Rattle.vd_first_elaboration.specs.Ports.{Port, mode_of}
use Rattle.vd_first_elaboration.specs.Elaboration.{is_input, kernel_signals, inputs_from}

-- a signal of std_ulogic with these sources
abbrev pub plain_signal : List Source → Signal
plain_signal sources =
    record { initial = Literal 0; is_resolved = false; sources = sources; actual = None; is_out = false; input = None }

-- a signal with a driver more
abbrev pub with_driver : ℕ → Signal → Signal
with_driver driver s = record s { sources = s.sources ++ Driver driver ∷ [] }

-- the signals, where the one of this number, if there is one, has a driver more
abbrev pub with_driver_at : ℕ → List Signal → ℕ → List Signal
with_driver_at driver signals i = slice_set signals i (with_driver driver (slice_index_or signals i no_signal))

-- the signals with drivers that drive these, in order, the first driver having this number
abbrev pub connected : ℕ → List ℕ → List Signal → List Signal
connected driver [] signals = signals
connected driver (i ∷ is) signals = connected (suc driver) is (with_driver_at driver signals i)

-- a driver of a signal of std_ulogic
abbrev pub plain_driver : DriverShape
plain_driver = record { initial = Literal 0 }

-- how many drivers from outside the ports of a declaration of these parts have
abbrev pub outside_count : Forest Form → ℕ
outside_count parts = if is_input (mode_of (next_of parts)) then tree_count (parts_of parts) else 0

-- the design of some ports, where the drivers of the processes drive these
abbrev pub kernel_shape : List ℕ → List Port → Shape
kernel_shape driven ports =
    record { signals = kernel_signals driven 0 (length driven) ports; driven = driven; inputs = inputs_from 0 ports }
