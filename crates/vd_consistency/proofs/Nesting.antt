-- Instances inside instances in a design that is sound.
use Rattle.std.proofs.Common.{ℕ, zero, suc, Bool, true, false, List, [], ◌∷◌, length, Option, Some, None}
use Rattle.std.specs.Prelude.{◌&&◌, Ok, Err, IfSome, bytes_eq, if◌then◌else◌}
use Rattle.std.specs.List.{AllByRecursion}
use Rattle.vd_trees.specs.declared.paths.Scope.{Scope}
use Rattle.vd_composites.specs.Stops.{◌>>=◌}
use Rattle.vd_meaning.specs.Building.{Built, inside_instance, is_among, State}
use Rattle.vd_meaning.specs.NodeFacets.{View, Instance, Hierarchy, Unit', EntityUnit, ArchitectureUnit, PackageUnit}
use Rattle.vd_meaning.specs.Instances.{with_generics, ports_of}
use Rattle.vd_meaning.specs.Hierarchies.{EntityText, ArchitectureText, generic_actual, make_implicit, count_implicit, for_implicit, all_associated, label_of, leaving, entity_elaborated, instance_of, ahead_of, hierarchy, is_wanted, entity_in, architecture_in}
use Rattle.vd_consistency.specs.Invariants.{HasSignals, IsState, IsGrown, Builds, KeepsInstance, KeepsHierarchy, KeepsElaborating, KeepsUnit}
use Rattle.vd_consistency.proofs.Steps.{after}
use Rattle.vd_consistency.proofs.Running.{has_more}
use Rattle.vd_consistency.proofs.Objects.{further, builds_then}
use Rattle.vd_consistency.proofs.Associating.{generics_keep, IsPort, ports_keep}
use Rattle.vd_consistency.proofs.Elaborating.{IsAssociating, all_keep, all_implicit, count_keeps, make_keeps}

-- the surroundings go on
pub left_keeps : (s : State) → IsState s → (g : Built State) → Builds s.made g → Builds s.made (g >>= λ u. Ok (leaving s.env u))
left_keeps s h (Ok u) k =
    record {
      state = record { has = record { denoted = (has_more (is_among s.made.signals) (is_among u.made.signals) s.env k.grows h.has).denoted }; sound = k.state.sound };
      grows = k.grows;
    }
left_keeps s h (Err e) k = tt

-- ---- an entity with an architecture

module _ (views : List View) (h : Hierarchy) (hs : KeepsHierarchy h) (outer inner : Scope) (entity : EntityText) (architecture : ArchitectureText)
    (k : KeepsElaborating architecture.region) (x : Instance) (j : KeepsInstance x) where
  pub entity_keeps : (implicit : ℕ) (s : State) → IsState s → Builds s.made (entity_elaborated views h outer inner entity architecture x implicit s)
  entity_keeps implicit s i =
      after (HasSignals (is_among s.made.signals)) (IsGrown s.made) (with_generics outer inner s.env (generic_actual x) 0 entity.generics.objects s.env) _
      (generics_keep (is_among s.made.signals) outer inner s.env (generic_actual x) 0 entity.generics.objects s.env i.has) (λ f has.
      after (λ c. AllByRecursion IsPort c.it) (IsGrown s.made) (ports_of views inner f entity.ports s.made) _ (ports_keep views inner f entity.ports s.made) (λ ports b.
      after (IsAssociating (record s.made { counted = ports.next })) (IsGrown s.made)
      (all_associated outer inner s.env x 0 ports.it (record { state = record { env = f; made = record s.made { counted = ports.next } }; next = implicit })) _
      (all_keep outer inner s.env x j 0 ports.it b (record { state = record { env = f; made = record s.made { counted = ports.next } }; next = implicit }) (record { has = has; sound = i.sound }) i.has) (λ t g.
      left_keeps s i (architecture.region h inner t.state) (further s.made t.state (record { state = g.grown.state; grows = g.grown.grows }) (architecture.region h inner t.state) (k h hs inner t.state g.grown.state)))))

abbrev pub IfArchitecture : Option ArchitectureText → Type 0
IfArchitecture x = IfSome x (λ a. KeepsElaborating a.region)

module _ (views : List View) (h : Hierarchy) (hs : KeepsHierarchy h) (scope : Scope) (x : Instance) (j : KeepsInstance x) where
  pub instance_keeps : (entity : Option EntityText) (architecture : Option ArchitectureText) → IfArchitecture architecture → (s : State) → IsState s
      → Builds s.made (instance_of views h scope entity architecture x s)
  instance_keeps (Some entity) (Some architecture) k s i =
      builds_then s.made (for_implicit (make_implicit views scope entity x) x 0 entity.ports s) _ (all_implicit (make_implicit views scope entity x) (make_keeps views scope entity x) x j 0 entity.ports s i)
      (entity_keeps views h hs scope (inside_instance (label_of x.label) x.entity architecture.name scope) entity architecture k x j (length s.made.signals))
  instance_keeps (Some entity) None k s i = tt
  instance_keeps None architecture k s i = tt

pub ahead_keeps : (views : List View) (scope : Scope) (x : Instance) → KeepsInstance x → (entity : Option EntityText) (s : State) → IsState s → Builds s.made (ahead_of views scope entity x s)
ahead_keeps views scope x j (Some entity) s i = all_implicit (count_implicit views scope entity x) (count_keeps views scope entity x) x j 0 entity.ports s i
ahead_keeps views scope x j None s i = tt

-- ---- units by their names

wanted_or_found : (b : Bool) (x y : Option ArchitectureText) → IfArchitecture x → IfArchitecture y → IfArchitecture (if b then x else y)
wanted_or_found true x y h k = h
wanted_or_found false x y h k = k

pub architecture_keeps : (us : List Unit') → AllByRecursion KeepsUnit us → (found : Option ArchitectureText) → IfArchitecture found → (entity : List ℕ) (wanted : Option (List ℕ))
    → IfArchitecture (architecture_in found us entity wanted)
architecture_keeps [] k found h entity wanted = h
architecture_keeps (ArchitectureUnit own of region ∷ us) k found h entity wanted =
    architecture_keeps us k.1 _ (wanted_or_found (bytes_eq of entity && is_wanted wanted own) (Some (record { name = own; region = region })) found k.0 h) entity wanted
architecture_keeps (EntityUnit own generics ports ∷ us) k found h entity wanted = architecture_keeps us k.1 found h entity wanted
architecture_keeps (PackageUnit p ∷ us) k found h entity wanted = architecture_keeps us k.1 found h entity wanted

pub hierarchy_keeps : (views : List View) (units : List Unit') → AllByRecursion KeepsUnit units → (n : ℕ) → KeepsHierarchy (hierarchy views units n)
hierarchy_keeps views units k zero =
    record { ahead = λ scope x j s i. ahead_keeps views scope x j (entity_in None units x.entity) s i; instance = λ scope x j s i. tt }
hierarchy_keeps views units k (suc n) =
    record {
      ahead = λ scope x j s i. ahead_keeps views scope x j (entity_in None units x.entity) s i;
      instance = λ scope x j s i.
          instance_keeps views (hierarchy views units n) (hierarchy_keeps views units k n) scope x j (entity_in None units x.entity) (architecture_in None units x.entity x.architecture)
          (architecture_keeps units k None tt x.entity x.architecture) s i;
    }
