-- The elaborated design of a top: its scalar signals, and what the kernel runs. (IEEE 1076, elaboration of a design hierarchy.)
use Rattle.std.specs.Prelude.{ℕ, suc, ◌+◌, Bool, true, false, List, [], ◌∷◌, ◌++◌, map, length, Option, Some, None, ◌==◌, if◌then◌else◌}
use Rattle.vd_forest.specs.Forest.{Forest, nothing, more, parts_of, next_of, erased}
use Rattle.vd_first_trees.specs.declared.form.Form.{Form}
use Rattle.vd_trees.specs.declared.paths.Scope.{Scope}
use Rattle.vd_values.specs.declared.scalar.Scalar.TheVariants.{Literal}
use Rattle.vd_kernel.specs.declared.assignments.Source.{Source}
use Rattle.vd_kernel.specs.declared.assignments.Source.TheVariants.{Driver}
use Rattle.vd_kernel.specs.Models.{Signal, Shape, Model}
use Rattle.vd_first_elaboration.specs.Tops.{Top, TopUnits, top_units}
use Rattle.vd_first_elaboration.specs.Ports.{Mode, input, output, Port, entity_ports}
use Rattle.vd_first_elaboration.specs.Signals.{ScalarSignal, top_level, top_scope, port_signal}
use Rattle.vd_first_elaboration.specs.Processes.{Process, driven_by, number_of, step}

-- ---- drivers

-- each process, with the number of its first driver. These drivers are made before
abbrev pub processes_from : ℕ → Forest Form → List Process
processes_from drivers nothing = []
processes_from drivers (more f t p parts next) =
    record { first_driver = drivers; parts = parts } ∷ processes_from (drivers + length (driven_by parts)) next

-- the names that the drivers of some processes drive, in order
abbrev pub driven_names : Forest Form → List (List ℕ)
driven_names nothing = []
driven_names (more f t p parts next) = driven_by parts ++ driven_names next

-- the drivers of a signal, the first of the list of what is driven having this number
abbrev pub drivers_of : ℕ → ℕ → List ℕ → List Source
drivers_of signal driver [] = []
drivers_of signal driver (d ∷ ds) = if d == signal then Driver driver ∷ drivers_of signal (suc driver) ds else drivers_of signal (suc driver) ds

abbrev pub is_input : Mode → Bool
is_input input = true
is_input _ = false

abbrev pub is_output : Mode → Bool
is_output output = true
is_output _ = false

-- a port of std_ulogic, which is not resolved: it begins with 'U', and a stimulus may drive an `in` port. The next number is that of the
-- driver that it would have
abbrev pub kernel_signal : List ℕ → ℕ → ℕ → Mode → Signal
kernel_signal driven number outside mode =
    record {
      initial = Literal 0;
      is_resolved = false;
      sources = drivers_of number 0 driven;
      actual = None;
      is_out = is_output mode;
      input = if is_input mode then Some outside else None;
    }

-- the signals of some ports, the first of which has this number, and this number for a driver from outside
abbrev pub kernel_signals : List ℕ → ℕ → ℕ → List Port → List Signal
kernel_signals driven number outside [] = []
kernel_signals driven number outside (p ∷ ps) =
    kernel_signal driven number outside p.mode ∷ kernel_signals driven (suc number) (if is_input p.mode then suc outside else outside) ps

-- the numbers of the `in` ports
abbrev pub inputs_from : ℕ → List Port → List ℕ
inputs_from number [] = []
inputs_from number (p ∷ ps) = if is_input p.mode then number ∷ inputs_from (suc number) ps else inputs_from (suc number) ps

-- ---- the design

-- the scalar signals in order, where each process stands, and what the kernel runs
pub record Elaborated : Type 0 where
  pub signals : List ScalarSignal
  pub scopes : List Scope
  pub model : Model Process

abbrev pub port_names : List Port → List (List ℕ)
port_names ps = map (λ p. p.name) ps

-- an architecture's third part is its statement part
abbrev pub processes_of : Forest Form → Forest Form
processes_of architecture = parts_of (next_of (next_of architecture))

-- one scope for each of some processes, which stand at one place
abbrev pub scopes_of : Scope → Forest Form → List Scope
scopes_of scope nothing = []
scopes_of scope (more f t p parts next) = scope ∷ scopes_of scope next

abbrev pub shape_of : List Port → Forest Form → Shape
shape_of ports processes =
    let driven = map (number_of (port_names ports)) (driven_names processes) in
    record { signals = kernel_signals driven 0 (length driven) ports; driven = driven; inputs = inputs_from 0 ports }

abbrev pub model_of : List Port → Forest Form → Model Process
model_of ports processes =
    record { shape = shape_of ports processes; processes = processes_from 0 processes; step = step (port_names ports) }

abbrev pub elaborated_units : TopUnits → Elaborated
elaborated_units u =
    record {
      signals = map (port_signal (top_level u)) (entity_ports u.entity);
      scopes = scopes_of (top_scope u) (processes_of u.architecture);
      model = model_of (entity_ports u.entity) (processes_of u.architecture);
    }

abbrev pub elaborated_if : Option TopUnits → Option Elaborated
elaborated_if None = None
elaborated_if (Some u) = Some (elaborated_units u)

-- the elaborated design of a top, where the design units have one. Places play no role in it
abbrev pub elaboration : Forest Form → Top → Option Elaborated
elaboration units top = elaborated_if (top_units (erased units) top)
