-- Each design that elaboration gives is sound, and so consistent.
use Rattle.std.proofs.Common.{◌≡◌, ℕ, Bool, true, false, List, [], ◌∷◌, ◌++◌, Option, Some, None, refl, subst}
use Rattle.std.specs.Prelude.{◌==◌, ◌&&◌, Ok, Err, IfOk, IfSome, if◌then◌else◌}
use Rattle.std.specs.List.{AllByRecursion}
use Rattle.vd_trees.specs.declared.revision.Revision.{Revision}
use Rattle.vd_composites.specs.Stops.{◌>>=◌}
use Rattle.vd_resolved.specs.Trees.{ResolvedTree}
use Rattle.vd_composites.specs.Subtypes.{fit}
use Rattle.vd_environments.specs.Got.{got}
use Rattle.vd_environments.specs.Environments.{ScalarSignal, Denotation, nothing_denoted, GenericActual, Env, denoting, with_actual_function, Indicated}
use Rattle.vd_environments.specs.Processes.{declared}
use Rattle.vd_meaning.specs.Facets.{Objects, Formal, FormalConstants, FormalType, FormalFunction}
use Rattle.vd_meaning.specs.Generics.{constant_value, with_constant, next_actual, later_actuals, with_constants, behind_constants, with_type, with_generics, taken}
use Rattle.vd_meaning.specs.Tables.{table}
use Rattle.vd_meaning.specs.Given.{marks, denoted_in}
use Rattle.vd_meaning.specs.Building.{Made, Built, is_among, State}
use Rattle.vd_meaning.specs.NodeFacets.{Hierarchy, PackageSort, PlainPackage, GenericPackage, BodyOfPackage, InstanceOfPackage, PackageText, Unit', EntityUnit, ArchitectureUnit, PackageUnit}
use Rattle.vd_meaning.specs.Hierarchies.{EntityText, ArchitectureText, entity_in, architecture_in}
use Rattle.vd_meaning.specs.Parts.{parts}
use Rattle.vd_meaning.specs.Elaborations.{package_scope, is_generic, is_body, package_in, declarations_of, instance_declared, instance_elaborated, unless_generic, elaborated_by, package_elaborated, with_packages, Top, top_instance, top_scope, top_elaborated, Elaboration, Elaborates, Fails, NoTop, of_built, Units, units_of, hierarchy_of, beginning, elaborated_with, elaborated_units, elaboration}
use Rattle.vd_consistency.specs.Invariants.{AreOf, HasSignals, IsEnv, Keeps, KeepsPackage, IsSound, IsState, IsGrown, Builds, KeepsHierarchy, KeepsUnit}
use Rattle.vd_consistency.proofs.Steps.{after, after_any, joined}
use Rattle.vd_consistency.proofs.Running.{denoting_env}
use Rattle.vd_consistency.proofs.Turning.{declared_keeps}
use Rattle.vd_consistency.proofs.Objects.{evaluated_keeps, itself, builds_then}
use Rattle.vd_consistency.proofs.Nesting.{entity_keeps, IfArchitecture, architecture_keeps, hierarchy_keeps}
use Rattle.vd_consistency.proofs.Trees.{units_keep, trees_keep}

-- ---- the beginning: no given declaration is a signal

no_signal_of : (P : ScalarSignal → Bool) (b : Bool) (x y : Denotation) → IfSome x.signals (AreOf P) → IfSome y.signals (AreOf P) → IfSome (if b then x else y).signals (AreOf P)
no_signal_of P true x y h k = h
no_signal_of P false x y h k = k

no_signals : (P : ScalarSignal → Bool) (ms : List (ℕ × Indicated)) (n : ℕ) → IfSome (denoted_in ms n).signals (AreOf P)
no_signals P [] n = tt
no_signals P (m ∷ ms) n = no_signal_of P (m.0 == n) (record nothing_denoted { subtype = m.1.subtype; make = m.1.make }) (denoted_in ms n) tt (no_signals P ms n)

begins : IsState beginning
begins =
    record {
      has = record { denoted = λ d. no_signals (is_among []) marks d };
      sound = record { of_driven = tt; of_sources = tt; of_actuals = tt; of_signals = tt; of_drivers = refl; of_processes = tt };
    }

-- ---- generics and instances of packages

module _ (P : ScalarSignal → Bool) (drivers : ℕ → Option ℕ) where
  constant_env : (o : Objects) (d : ℕ) (a : GenericActual) (e : Env) → IsEnv P drivers e → IfOk (with_constant o d a e) (IsEnv P drivers)
  constant_env o d a e h =
      after_any (IsEnv P drivers) (o.indicated e) _ (λ i.
      after_any (IsEnv P drivers) (constant_value a.value o.default i e) _ (λ v.
      after_any (IsEnv P drivers) (got (fit i.subtype v)) _ (λ w. denoting_env P drivers d _ e tt h)))

  constants_env : (o : Objects) (ds : List ℕ) (as' : List GenericActual) (e : Env) → IsEnv P drivers e → IfOk (with_constants o ds as' e) (IsEnv P drivers)
  constants_env o [] as' e h = h
  constants_env o (d ∷ ds) as' e h =
      after (IsEnv P drivers) (IsEnv P drivers) (with_constant o d (next_actual as') e) _ (constant_env o d (next_actual as') e h) (constants_env o ds (later_actuals as'))

  generics_env : (fs : List Formal) (as' : List GenericActual) (e : Env) → IsEnv P drivers e → IfOk (with_generics fs as' e) (IsEnv P drivers)
  generics_env [] as' e h = h
  generics_env (FormalConstants o ∷ fs) as' e h =
      after (IsEnv P drivers) (IsEnv P drivers) (with_constants o o.numbers as' e) _ (constants_env o o.numbers as' e h) (generics_env fs (behind_constants o.numbers as'))
  generics_env (FormalType d ∷ fs) as' e h =
      generics_env fs (later_actuals as') (with_type d (next_actual as').indicated e) (denoting_env P drivers d _ e tt h)
  generics_env (FormalFunction d ∷ fs) as' e h =
      generics_env fs (later_actuals as') (with_actual_function d (next_actual as').function (next_actual as').calls e) (denoting_env P drivers d _ e tt h)

  taken_env : (cs : List (ℕ × ℕ)) (from : Env) → HasSignals P from → (e : Env) → IsEnv P drivers e → IsEnv P drivers (taken cs from e)
  taken_env [] from k e h = h
  taken_env (c ∷ cs) from k e h = taken_env cs from k (denoting c.1 (from.denotes c.0) e) (denoting_env P drivers c.1 (from.denotes c.0) e (k.denoted c.0) h)

  abbrev IfKeeps : Option PackageText → Type 0
  IfKeeps x = IfSome x KeepsPackage

  body_declarations : (x : Option PackageText) → IfKeeps x → AllByRecursion Keeps (declarations_of x)
  body_declarations None k = tt
  body_declarations (Some p) k = k.of_declarations

  instance_env : (original : PackageText) (body : Option PackageText) (p : PackageText) → KeepsPackage original → IfKeeps body → (e : Env) → IsEnv P drivers e
      → IfOk (instance_declared original body p e) (IsEnv P drivers)
  instance_env original body p j k e h =
      after (IsEnv P drivers) (IsEnv P drivers) (with_generics original.generics (p.actuals e) e >>= declared original.declarations >>= declared (declarations_of body)) _
      (after (IsEnv P drivers) (IsEnv P drivers) (with_generics original.generics (p.actuals e) e >>= declared original.declarations) _
      (after (IsEnv P drivers) (IsEnv P drivers) (with_generics original.generics (p.actuals e) e) _ (generics_env original.generics (p.actuals e) e h)
      (declared_keeps P drivers original.declarations j.of_declarations))
      (declared_keeps P drivers (declarations_of body) (body_declarations body k)))
      (λ f i. taken_env p.copies f i.has e h)

-- ---- packages, and the top

some_package : (b : Bool) (x y : Option PackageText) → IfSome x KeepsPackage → IfSome y KeepsPackage → IfSome (if b then x else y) KeepsPackage
some_package true x y h k = h
some_package false x y h k = k

package_keeps : (is : PackageSort → Bool) (us : List Unit') → AllByRecursion KeepsUnit us → (found : Option PackageText) → IfSome found KeepsPackage → (n : ℕ) → IfSome (package_in is found us n) KeepsPackage
package_keeps is [] k found h n = h
package_keeps is (PackageUnit p ∷ us) k found h n =
    package_keeps is us k.1 _ (some_package (is p.sort && (p.number == n)) (Some p) found k.0 h) n
package_keeps is (EntityUnit name generics ports ∷ us) k found h n = package_keeps is us k.1 found h n
package_keeps is (ArchitectureUnit name entity region ∷ us) k found h n = package_keeps is us k.1 found h n

instance_keeps : (original body : Option PackageText) (p : PackageText) → IfSome original KeepsPackage → IfSome body KeepsPackage → (s : State) → IsState s → Builds s.made (instance_elaborated original body p s)
instance_keeps None body p j k s i = tt
instance_keeps (Some original) body p j k s i =
    evaluated_keeps (IsEnv (is_among s.made.signals) s.env.drivers) (IsGrown s.made) (package_scope p.name) (instance_declared original body p s.env) _
    (instance_env (is_among s.made.signals) s.env.drivers original body p j k s.env (record { has = i.has; drives = refl }))
    (λ e r. record { state = record { has = r.has; sound = i.sound }; grows = λ x y. y })

module _ (h : Hierarchy) (hs : KeepsHierarchy h) where
  unless_generic_keeps : (x : Option PackageText) (p : PackageText) → KeepsPackage p → (s : State) → IsState s → Builds s.made (unless_generic x h p s)
  unless_generic_keeps None p k s i = k.of_declaring h hs (package_scope p.name) s i
  unless_generic_keeps (Some original) p k s i = itself s i

  by_sort : (x : PackageSort) (before : List Unit') → AllByRecursion KeepsUnit before → (p : PackageText) → KeepsPackage p → (s : State) → IsState s → Builds s.made (elaborated_by x h before p s)
  by_sort PlainPackage before j p k s i = k.of_declaring h hs (package_scope p.name) s i
  by_sort GenericPackage before j p k s i = itself s i
  by_sort BodyOfPackage before j p k s i = unless_generic_keeps (package_in is_generic None before p.number) p k s i
  by_sort InstanceOfPackage before j p k s i =
      instance_keeps (package_in is_generic None before p.number) (package_in is_body None before p.number) p
      (package_keeps is_generic before j None tt p.number) (package_keeps is_body before j None tt p.number) s i

  packages_keep : (us : List Unit') → AllByRecursion KeepsUnit us → (before : List Unit') → AllByRecursion KeepsUnit before → (s : State) → IsState s → Builds s.made (with_packages h before us s)
  packages_keep [] k before j s i = itself s i
  packages_keep (PackageUnit p ∷ us) k before j s i =
      builds_then s.made (package_elaborated h before p s) _ (by_sort p.sort before j p k.0 s i)
      (packages_keep us k.1 (before ++ PackageUnit p ∷ []) (joined KeepsUnit before (PackageUnit p ∷ []) j (k.0, tt)))
  packages_keep (EntityUnit name generics ports ∷ us) k before j s i = packages_keep us k.1 before j s i
  packages_keep (ArchitectureUnit name entity region ∷ us) k before j s i = packages_keep us k.1 before j s i

abbrev IfDesign : Elaboration → Type 0
IfDesign (Elaborates made) = IsSound made
IfDesign (Fails failing) = Unit {0}
IfDesign NoTop = Unit {0}

built_sound : (m : Made) (g : Built State) → Builds m g → IfDesign (of_built g)
built_sound m (Ok s) h = h.state.sound
built_sound m (Err e) h = tt

module _ (u : Units) (k : AllByRecursion KeepsUnit u.units) (top : Top) where
  with_sound : (entity : Option EntityText) (architecture : Option ArchitectureText) → IfArchitecture architecture → IfDesign (elaborated_with u top entity architecture)
  with_sound (Some entity) (Some architecture) j =
      built_sound beginning.made (with_packages (hierarchy_of u) [] u.units beginning >>= top_elaborated u.views (hierarchy_of u) top entity architecture)
      (builds_then beginning.made (with_packages (hierarchy_of u) [] u.units beginning) _
      (packages_keep (hierarchy_of u) (hierarchy_keeps u.views u.units k 64) u.units k [] tt beginning begins)
      (entity_keeps u.views (hierarchy_of u) (hierarchy_keeps u.views u.units k 64) (top_scope top architecture.name) (top_scope top architecture.name) entity architecture j (top_instance top)
      (record { ports = tt }) 0))
  with_sound (Some entity) None j = tt
  with_sound None architecture j = tt

  units_sound : IfDesign (elaborated_units u top)
  units_sound = with_sound (entity_in None u.units top.entity) (architecture_in None u.units top.entity top.architecture) (architecture_keeps u.units k None tt top.entity top.architecture)

pub design_sound : (r : Revision) (tree : ResolvedTree) (top : Top) (made : Made) → elaboration r tree top ≡ Elaborates made → IsSound made
design_sound r tree top made e =
    subst IfDesign e (units_sound (units_of r tree) (units_keep (parts (table r tree.declarations) tree.units) (trees_keep (table r tree.declarations) tree.units)) top)
