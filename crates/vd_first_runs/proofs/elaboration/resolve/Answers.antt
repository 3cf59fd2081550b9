use Rattle.std.proofs.Common.{◌≡◌, map, ap, ap₂, ◌∙◌, subst}
use mathlib.Core.Path.{fun_ext}
use Rattle.vd_forest.specs.Forest.{parts_of, next_of}
use Rattle.vd_trees.specs.declared.paths.Path.{Path}
use Rattle.vd_simulation.specs.Designs.{IsGiven}
use Rattle.vd_first_elaboration.specs.Ports.{declared_ports}
use Rattle.vd_first_elaboration.specs.Processes.{number_of}
use Rattle.vd_first_elaboration.specs.Elaboration.{processes_from, driven_names, port_names, processes_of}
use Rattle.vd_first_runs.specs.declared.elaboration.ResolvedDesign.{ResolvedDesign}
use Rattle.vd_first_processes.specs.Numbering.{number_in}
use Rattle.vd_first_runs.specs.Places.{path_at}
use Rattle.vd_first_processes.specs.Resolved.{resolved}
use Rattle.vd_first_runs.specs.Shapes.{kernel_shape}
use Rattle.vd_first_runs.specs.Units.{own_units}
use Rattle.vd_first_runs.proofs.DesignLemmas.{is_made, as_many}
use Rattle.vd_first_runs.proofs.elaboration.resolve.Goals as goal

pub returns-clause-design : goal.returns-clause-design
returns-clause-design c =
    let u = own_units c.args.units.now in
    let numbers = number_in c.in_ok-numbers.numbers in
    let design : ResolvedDesign = record { paths = c.in_ok-paths.paths; entity = c.in_ok-from_slice.field-0; architecture = c.in_ok-from_slice-2.field-0; shape = c.in_ok-shape.shape; processes = c.in_ok-processes.processes } in
    let numbered : numbers ≡ number_of (map (λ (p : Path). p.object) c.in_ok-paths.paths.items) =
    fun_ext c.in_ok-numbers.ensures ∙ ap (λ ps. number_of (map (λ (p : Path). p.object) ps)) c.deref.ensures.value in
    let paths =
    c.in_ok-paths.ensures
    ∙ ap (λ f. map (path_at c.text-entity.result.now c.text-architecture.result.now) (port_names (declared_ports f))) c.requires.ports
    ∙ ap₂ (λ a b. map (path_at a b) (port_names (declared_ports (parts_of (next_of u.entity))))) c.text-entity.ensures c.text-architecture.ensures in
    let made = c.in_ok-processes.ensures.processes ∙ ap (λ f. map (resolved numbers) (processes_from 0 f)) c.requires.processes in
    let driven = c.deref-2.ensures.value ∙ c.in_ok-processes.ensures.driven ∙ ap (λ f. map numbers (driven_names f)) c.requires.processes in
    let given =
    subst (λ f. IsGiven (kernel_shape (map numbers (driven_names (processes_of u.architecture))) (declared_ports f)) c.in_ok-shape.shape) c.requires.ports
    (subst (λ ds. IsGiven (kernel_shape ds (declared_ports c.args.ports.now)) c.in_ok-shape.shape) driven c.in_ok-shape.ensures.given) in
    is_made u design numbers numbered (c.in_ok-from_slice.ensures ∙ c.text-entity.ensures) (c.in_ok-from_slice-2.ensures ∙ c.text-architecture.ensures) paths made given c.in_ok-shape.ensures.ring_free

pub returns-clause-paths : goal.returns-clause-paths
returns-clause-paths c =
    let u = own_units c.args.units.now in
    let design : ResolvedDesign = record { paths = c.in_ok-paths.paths; entity = c.in_ok-from_slice.field-0; architecture = c.in_ok-from_slice-2.field-0; shape = c.in_ok-shape.shape; processes = c.in_ok-processes.processes } in
    let paths =
    c.in_ok-paths.ensures
    ∙ ap (λ f. map (path_at c.text-entity.result.now c.text-architecture.result.now) (port_names (declared_ports f))) c.requires.ports
    ∙ ap₂ (λ a b. map (path_at a b) (port_names (declared_ports (parts_of (next_of u.entity))))) c.text-entity.ensures c.text-architecture.ensures in
    let given = subst (λ f. IsGiven (kernel_shape c.deref-2.result.now (declared_ports f)) c.in_ok-shape.shape) c.requires.ports c.in_ok-shape.ensures.given in
    as_many u design c.deref-2.result.now given paths
