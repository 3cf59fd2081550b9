-- What the code makes of some units is their design.
use Rattle.std.proofs.Common.{◌≡◌, ℕ, zero, suc, ◌<◌, true, false, List, [], ◌∷◌, Option, Some, None, is_some, Result, Ok, Err, IfOk, IfErr, map, length, arith, replicate, refl, sym, ap, ap₂, ◌∙◌, subst}
use Rattle.std.specs.Prelude.{slice_get, option_and_then}
use Rattle.std.proofs.lemmas.List.{length-map}
use Rattle.vd_forest.specs.Forest.{Forest, text_of, parts_of, next_of, tree_count, erased}
use Rattle.vd_forest.proofs.ForestLemmas.{text_of_erased, erased_parts_of, erased_next_of, tree_count_erased}
use Rattle.vd_first_trees.specs.declared.form.Form.{Form}
use Rattle.vd_trees.specs.declared.paths.Path.{Path}
use Rattle.vd_trees.specs.declared.paths.Level.{Level}
use Rattle.vd_trees.specs.declared.traces.RunEnd.{RunEnd}
use Rattle.vd_trees.specs.declared.traces.RunEnd.TheVariants as ends
use Rattle.vd_kernel.specs.Traces.{TwoSources, with_two}
use Rattle.vd_kernel.specs.Orders.{shape_of, IsRingFree}
use Rattle.vd_kernel.specs.Cycles.{initialised}
use Rattle.vd_kernel.specs.SignalValues.{nothing_given}
use Rattle.vd_simulation.specs.Designs.{IsGiven, IsDesign}
use Rattle.vd_simulation.specs.Simulations.{modelled, stop_in, IsMoment}
use Rattle.vd_first_elaboration.specs.Tops.{TopUnits}
use Rattle.vd_first_elaboration.specs.Ports.{Port, declared_ports, entity_ports}
use Rattle.vd_first_elaboration.specs.Signals.{ScalarSignal, top_level, top_scope, port_signal}
use Rattle.vd_first_elaboration.specs.Processes.{number_of}
use Rattle.vd_first_elaboration.specs.Elaboration.{Elaborated, processes_from, driven_names, port_names, processes_of}
use Rattle.vd_first_elaboration.specs.Traces.{paths_of, declared_in, end_of}
use Rattle.vd_first_runs.specs.declared.elaboration.ResolvedDesign.{ResolvedDesign}
use Rattle.vd_first_runs.specs.Designs.{elaborated_of, IsDesignOf, EndsBeforeRun}
use Rattle.vd_first_runs.specs.Elaborations.{limit_by, limit_of, two_sources_in, stop_by, stop_of, EndsElaboration}
use Rattle.vd_first_runs.specs.Places.{level_at, scope_at, path_at}
use Rattle.vd_first_processes.specs.Resolved.{Resolved, step, resolved}
use Rattle.vd_first_processes.specs.Resolved.{itself}
use Rattle.vd_first_runs.specs.Runs.{Running, object_names, HasCome}
use Rattle.vd_first_runs.specs.Shapes.{kernel_shape}
use Rattle.vd_first_processes.proofs.ErasedLemmas.{ports_erased, driven_names_erased, processes_erased, processes_long, scopes_replicated}
use Rattle.vd_first_runs.proofs.ShapeLemmas.{kernel_long, told_long, two_told, two_within}
use Rattle.vd_first_runs.proofs.RunLemmas.{names_of_signals, steps_of_design}

paths_of_signals : (level : Level) (ps : List Port) → map (λ (s : ScalarSignal). s.path) (map (port_signal level) ps) ≡ map (λ object. record { levels = level ∷ []; generates = []; object = object; rest = [] }) (port_names ps)
paths_of_signals level [] = refl
paths_of_signals level (p ∷ ps) =
    ap (λ (qs : List Path). record { levels = level ∷ []; generates = []; object = p.name; rest = [] } ∷ qs) (paths_of_signals level ps)

map_itself : (rs : List Resolved) → map itself rs ≡ rs
map_itself [] = refl
map_itself (r ∷ rs) = ap (λ qs. r ∷ qs) (map_itself rs)

-- each signal of a top is declared in its one level
declared_at : (level : Level) (ps : List Port) (i : ℕ) → i < length ps → declared_in (slice_get (map (port_signal level) ps) i) ≡ record { levels = level ∷ []; generates = []; unit = [] }
declared_at level [] i h = absurd (omega arith)
declared_at level (p ∷ ps) zero h = refl
declared_at level (p ∷ ps) (suc i) h = declared_at level ps i (omega arith)

is_one : (o : Option ℕ) → is_some o ≡ true → (i : ℕ) × (o ≡ Some i)
is_one None e = cc
is_one (Some i) e = (i, refl)

is_none : (o : Option ℕ) → is_some o ≡ false → o ≡ None
is_none None e = refl
is_none (Some i) e = cc

-- what holds of an answer where something else does
pub ok_implies : {A B : Type 0} (P Q : A → Type 0) (r : Result A B) → IfOk r P → ((x : A) → P x → Q x) → IfOk r Q
ok_implies P Q (Ok x) p f = f x p
ok_implies P Q (Err y) p f = tt

pub err_implies : {A B : Type 0} (P Q : B → Type 0) (r : Result A B) → IfErr r P → ((y : B) → P y → Q y) → IfErr r Q
err_implies P Q (Ok x) p f = tt
err_implies P Q (Err y) p f = f y p

-- an elaboration within its limits that ends before a run
pub ends_so : (e : Elaborated) (end : RunEnd) → limit_of e ≡ None → EndsBeforeRun e end → EndsElaboration e end
ends_so e (ends.Stop stop) within is = (within, is)
ends_so e (ends.Limit limit) within is = absurd is
ends_so e ends.Memory within is = tt

module _ (u : TopUnits) where
  abbrev e : Elaborated
  e = elaborated_of u

  abbrev ports : List Port
  ports = declared_ports (parts_of (next_of u.entity))

  abbrev processes : Forest Form
  processes = processes_of u.architecture

  ports_same : entity_ports (erased u.entity) ≡ ports
  ports_same =
      ap (λ f. declared_ports (parts_of f)) (sym (erased_next_of u.entity))
      ∙ ap declared_ports (sym (erased_parts_of (next_of u.entity))) ∙ ports_erased (parts_of (next_of u.entity))

  processes_same : processes_of (erased u.architecture) ≡ erased processes
  processes_same =
      ap (λ f. parts_of (next_of f)) (sym (erased_next_of u.architecture))
      ∙ ap parts_of (sym (erased_next_of (next_of u.architecture)))
      ∙ sym (erased_parts_of (next_of (next_of u.architecture)))

  level_same : top_level (record { entity = erased u.entity; architecture = erased u.architecture }) ≡ level_at (text_of u.entity) (text_of u.architecture)
  level_same = ap₂ level_at (text_of_erased u.entity) (text_of_erased u.architecture)

  pub paths_same : paths_of e ≡ map (path_at (text_of u.entity) (text_of u.architecture)) (port_names ports)
  paths_same =
      paths_of_signals _ (entity_ports (erased u.entity))
      ∙ ap₂ (λ level ps. map (λ object. record { levels = level ∷ []; generates = []; object = object; rest = [] }) (port_names ps)) level_same ports_same

  scope_same : top_scope (record { entity = erased u.entity; architecture = erased u.architecture }) ≡ scope_at (text_of u.entity) (text_of u.architecture)
  scope_same = ap (λ level. record { levels = level ∷ []; generates = []; unit = [] }) level_same

  names_same : object_names e ≡ port_names ports
  names_same = names_of_signals _ (entity_ports (erased u.entity)) ∙ ap port_names ports_same

  pub signals_long : length e.signals ≡ length ports
  signals_long = length-map (entity_ports (erased u.entity)) (port_signal _) ∙ ap length ports_same

  pub model_long : length e.model.processes ≡ tree_count processes
  model_long = processes_long 0 (processes_of (erased u.architecture)) ∙ ap tree_count processes_same ∙ tree_count_erased processes

  scopes_same : (n : ℕ) → tree_count processes ≡ n → e.scopes ≡ replicate n (scope_at (text_of u.entity) (text_of u.architecture))
  scopes_same n counted =
      scopes_replicated (top_scope (record { entity = erased u.entity; architecture = erased u.architecture })) (processes_of (erased u.architecture)) n (ap tree_count processes_same ∙ tree_count_erased processes ∙ counted)
      ∙ ap (replicate n) scope_same

  shape_same : e.model.shape ≡ kernel_shape (map (number_of (port_names ports)) (driven_names processes)) ports
  shape_same =
      ap₂ (λ ps names. kernel_shape (map (number_of (port_names ps)) names) ps) ports_same
      (ap driven_names processes_same ∙ driven_names_erased processes)

  processes_made : (numbers : List ℕ → ℕ) → map (resolved numbers) e.model.processes ≡ map (resolved numbers) (processes_from 0 processes)
  processes_made numbers =
      ap (λ f. map (resolved numbers) (processes_from 0 f)) processes_same ∙ processes_erased numbers 0 processes

  pub limit_same : limit_of e ≡ limit_by (length ports) (tree_count processes)
  limit_same = ap₂ limit_by signals_long model_long

  module _ (design : ResolvedDesign) where
    two_same : IsDesignOf u design → with_two 0 design.shape.scalars.items ≡ with_two 0 e.model.shape.signals
    two_same is = ap (with_two 0) is.given.design.signals_are ∙ two_told 0 e.model.shape.signals

    -- no two sources
    pub one_source : IsDesignOf u design → is_some (with_two 0 design.shape.scalars.items) ≡ false → with_two 0 e.model.shape.signals ≡ None
    one_source is none = sym (two_same is) ∙ is_none (with_two 0 design.shape.scalars.items) none

    -- two sources
    pub two_stop : IsDesignOf u design → is_some (with_two 0 design.shape.scalars.items) ≡ true → stop_of e ≡ Some (two_sources_in (scope_at design.entity design.architecture))
    two_stop is some =
        let found = is_one (with_two 0 design.shape.scalars.items) some in
        let i = found.0 in
        let at = sym (two_same is) ∙ found.1 in
        let long : length e.model.shape.signals ≡ length (entity_ports (erased u.entity)) = kernel_long _ 0 _ (entity_ports (erased u.entity)) in
        let within : i < length (entity_ports (erased u.entity)) = omega (arith, two_within 0 e.model.shape.signals i at, long) in
        ap (option_and_then (λ signal. stop_by (end_of e (TwoSources signal)))) at
        ∙ ap (λ scope. Some (two_sources_in scope)) (declared_at _ (entity_ports (erased u.entity)) i within ∙ scope_same ∙ ap₂ scope_at (sym is.entity_is) (sym is.architecture_is))

    -- the code's design, from what its parts are
    pub is_made : (numbers : List ℕ → ℕ) → numbers ≡ number_of (map (λ (p : Path). p.object) design.paths.items) → design.entity ≡ text_of u.entity → design.architecture ≡ text_of u.architecture
        → design.paths.items ≡ map (path_at (text_of u.entity) (text_of u.architecture)) (port_names ports)
        → design.processes.items ≡ map (resolved numbers) (processes_from 0 processes)
        → IsGiven (kernel_shape (map numbers (driven_names processes)) ports) design.shape
        → IsRingFree (shape_of design.shape.scalars.items) → IsDesignOf u design
    is_made numbers numbered entity architecture paths made given ring_free =
        let paths_are : design.paths.items ≡ paths_of e = paths ∙ sym paths_same in
        let own : numbers ≡ number_of (object_names e) = numbered ∙ ap (λ ps. number_of (map (λ (p : Path). p.object) ps)) paths_are in
        let same_shape : kernel_shape (map numbers (driven_names processes)) ports ≡ e.model.shape =
        ap (λ f. kernel_shape (map f (driven_names processes)) ports) (own ∙ ap number_of names_same) ∙ sym shape_same in
        let long : tree_count processes ≡ length design.processes.items =
        sym (ap length made ∙ length-map (processes_from 0 processes) (resolved numbers) ∙ processes_long 0 processes) in
        record {
          paths_are = paths_are;
          entity_is = entity;
          architecture_is = architecture;
          scopes_are = scopes_same (length design.processes.items) long ∙ ap₂ (λ a b. replicate (length design.processes.items) (scope_at a b)) (sym entity) (sym architecture);
          given = subst (λ s. IsGiven s design.shape) same_shape given;
          ring_free = ring_free;
          processes_are = made ∙ sym (processes_made numbers) ∙ ap (λ f. map (resolved f) e.model.processes) own;
        }

    -- there are as many paths as signals
    pub as_many : (driven : List ℕ) → IsGiven (kernel_shape driven ports) design.shape → design.paths.items ≡ map (path_at (text_of u.entity) (text_of u.architecture)) (port_names ports) → length design.paths.items ≡ length design.shape.scalars.items
    as_many driven given paths =
        ap length paths ∙ length-map (port_names ports) (path_at (text_of u.entity) (text_of u.architecture)) ∙ length-map ports (λ (p : Port). p.name)
        ∙ sym (ap length given.design.signals_are ∙ told_long driven 0 (length driven) ports)

    -- a run of it that has come through initialisation
    pub has_begun : (run : Running) → IsDesignOf u design → run.paths ≡ design.paths.items → run.scope ≡ scope_at design.entity design.architecture → run.process_count ≡ length design.processes.items
        → run.simulation.net.signals ≡ design.shape.scalars.items
        → IsMoment itself (stop_in run.simulation.end) run.simulation (initialised (modelled e.model.shape step (map itself design.processes.items)) nothing_given)
        → HasCome e run (initialised e.model nothing_given)
    has_begun run is paths scope count signals moment =
        let starts : map itself design.processes.items ≡ map (resolved (number_of (object_names e))) e.model.processes =
        map_itself design.processes.items ∙ is.processes_are in
        record {
          run_of = record {
            units = record { entity = erased u.entity; architecture = erased u.architecture };
            is_elaborated = refl;
            paths_are = paths ∙ is.paths_are;
            scopes_are = is.scopes_are ∙ ap₂ replicate (sym count) (sym scope);
            design = subst (IsDesign e.model.shape) (sym signals) is.given.design;
          };
          own = initialised (modelled e.model.shape step (map (resolved (number_of (object_names e))) e.model.processes)) nothing_given;
          is_own = subst (λ ps. IsMoment itself (stop_in run.simulation.end) run.simulation (initialised (modelled e.model.shape step ps) nothing_given)) starts moment;
          same = (steps_of_design e (record { entity = erased u.entity; architecture = erased u.architecture }) refl e.model.processes).first nothing_given nothing_given (λ i j same. refl);
        }
