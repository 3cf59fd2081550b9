-- What holds of maps.
use Rattle.std.specs.Prelude.{◌≡◌, ◌<◌, ℕ, List, [], length, slice_get, Some, IsTrue}
use Rattle.std.specs.Bool.{Decides}
use Rattle.std.specs.List.{AllZip, AllByRecursion}
use Rattle.vd_trees.specs.declared.revision.Revision.{Revision}
use Rattle.vd_trees.specs.declared.paths.Path.{Path}
use Rattle.vd_trees.specs.declared.paths.Scope.{Scope}
use Rattle.vd_trees.specs.declared.rows.Row.{Row}
use Rattle.vd_kernel.specs.Models.{signal_at}
use Rattle.vd_kernel.specs.Correspondence.{SameRun}
use Rattle.vd_kernel.specs.Composition.{Through, JoinsTheSame}
use Rattle.vd_forest.specs.Forest.{Forest, nothing, more, next_of}
use Rattle.vd_forms.specs.declared.form.Form.TheVariants as form
use Rattle.vd_resolved.specs.declared.node.Resolved.{Resolved}
use Rattle.vd_resolved.specs.Trees.{ResolvedTree}
use Rattle.vd_meaning.specs.Building.{ScalarObject, Placed, Made}
use Rattle.vd_meaning.specs.Elaborations.{Elaboration, Elaborates, Fails, NoTop, elaboration, shape_of, model_of}
use Rattle.vd_first_names.specs.Joins as rows
use Rattle.vd_joins.specs.Joins.{Joining, map_of, pass_with, joins, scopes_join}
use Rattle.vd_maps.specs.SameRuns.{Joins, ScopesJoin, IsSameRun, HaveSameRunIf}
use Rattle.vd_maps.specs.Units.{Sort, EntityUnit, ArchitectureUnit, Node, units_in}
use Rattle.vd_maps.specs.Tops.{NamedTop, top_in, HasTop}
use Rattle.vd_maps.specs.WholeMaps.{JoinOneToOne, IsWhole, JoinAllIf}
use Rattle.vd_maps.specs.Tests.{join_one_to_one, is_whole}
use Rattle.vd_maps.specs.SameTraces.{HaveSameTraces}
use Rattle.vd_maps.specs.Interfaces.{Item, UnitInterface, OfEntity, OfArchitecture, OfPackage, output_name, interface_of, InterfaceIsKept}

-- ---- the test for a join says what the relation between rows and paths says that the first language has

abbrev pub JoinsAreThoseOfRows : Type 0
JoinsAreThoseOfRows = (rs : List Row) (p q : Path) → Decides (joins (map_of rs) p q) (rows.Joins rs p q)

-- ---- runs and traces

-- Designs with the same run have the same traces.
abbrev pub RunsGiveTraces : Type 0
RunsGiveTraces = (by : Joining) (m n : Made) → IsSameRun by m n → HaveSameTraces by m n

-- ---- tests for one to one joins and for whole maps: where they hold, what they test for holds

abbrev pub TestShowsOneToOne : Type 0
TestShowsOneToOne = (by : Joining) (m n : Made) → IsTrue (join_one_to_one by m.signals n.signals) → JoinOneToOne by m n

abbrev pub TestShowsWhole : Type 0
TestShowsWhole = (rs : List Row) (tree19 tree93 : ResolvedTree) (m n : Made) → IsTrue (is_whole rs tree19 tree93 m n) → IsWhole rs tree19 tree93 m n

-- ---- a pass without rows: what is equal joins, and nothing else does

abbrev pub EqualPathsJoin : Type 0
EqualPathsJoin = (p q : Path) → Decides (joins (pass_with []) p q) (p ≡ q)

abbrev pub EqualScopesJoin : Type 0
EqualScopesJoin = (s t : Scope) → Decides (scopes_join (pass_with []) s t) (s ≡ t)

-- ---- a design and itself: each signal joins itself and no other one, and all places join themselves

pub record JoinsItself (by : Joining) (m : Made) : Type 0 where
  pub each : (i : ℕ) → i < length m.signals → Joins by m m i i
  pub only : (i j : ℕ) → Joins by m m i j → i ≡ j
  pub scopes : (s : Scope) → ScopesJoin by s s

abbrev pub SameDesignHasSameRun : Type 0
SameDesignHasSameRun = (by : Joining) (m : Made) → JoinsItself by m → IsSameRun by m m

-- no two signals have one path
pub record HasDistinctPaths (m : Made) : Type 0 where
  pub distinct : (i j : ℕ) (x y : ScalarObject) → slice_get m.signals i ≡ Some x → slice_get m.signals j ≡ Some y → x.path ≡ y.path → i ≡ j

-- Without rows a design joins itself where its paths are distinct.
abbrev pub DistinctPathsJoinThemselves : Type 0
DistinctPathsJoinThemselves = (m : Made) → HasDistinctPaths m → JoinsItself (pass_with []) m

-- Two designs with the same signals and places, whose run is the same signal by signal of one number
pub record AreSameByNumber (m n : Made) : Type 0 where
  pub run : SameRun (λ i j. i ≡ j) (model_of m) (model_of n)
  pub signals : m.signals ≡ n.signals
  pub inputs : (i : ℕ) → (signal_at (shape_of m) i).input ≡ (signal_at (shape_of n) i).input
  pub scopes : AllZip (λ (p q : Placed). p.scope ≡ q.scope) m.processes n.processes

-- have the same run by each map that joins the first one with itself.
abbrev pub SameNumbersHaveSameRun : Type 0
SameNumbersHaveSameRun = (by : Joining) (m n : Made) → JoinsItself by m → AreSameByNumber m n → IsSameRun by m n

-- ---- one map behind another

-- The third join is that of the first two, one behind the other, for signals and for places; and joined signals have the same driver from outside, or none.
pub record Compose (first second whole : Joining) (m n o : Made) : Type 0 where
  pub signals : JoinsTheSame (Through (Joins first m n) (Joins second n o)) (Joins whole m o)
  pub scopes : (s t u : Scope) → ScopesJoin first s t → ScopesJoin second t u → ScopesJoin whole s u
  pub first_inputs : (i j : ℕ) → Joins first m n i j → (signal_at (shape_of m) i).input ≡ (signal_at (shape_of n) j).input
  pub second_inputs : (j k : ℕ) → Joins second n o j k → (signal_at (shape_of n) j).input ≡ (signal_at (shape_of o) k).input

abbrev pub RunsCompose : Type 0
RunsCompose = (first second whole : Joining) (m n o : Made) → Compose first second whole m n o → JoinOneToOne first m n
    → IsSameRun first m n → IsSameRun second n o → IsSameRun whole m o

abbrev pub JoinsCompose : Type 0
JoinsCompose = (first second whole : Joining) (m n o : Made) → Compose first second whole m n o → JoinOneToOne first m n → JoinOneToOne second n o → JoinOneToOne whole m o

-- ---- elaborations, one map behind another

-- three designs as above, or ends of elaboration whose places join as above
abbrev pub ComposeFor : (first second whole : Joining) → Elaboration → Elaboration → Elaboration → Type 0
ComposeFor first second whole (Elaborates m) (Elaborates n) (Elaborates o) = Compose first second whole m n o
ComposeFor first second whole (Fails f) (Fails g) (Fails h) = (s t u : Scope) → ScopesJoin first s t → ScopesJoin second t u → ScopesJoin whole s u
ComposeFor first second whole _ _ _ = Unit {0}

-- A second tree has the run of the first, and a third that of the second: so the third has the run of the first; and signals join one to one.
abbrev pub ElaborationsCompose : Type 0
ElaborationsCompose = (first second whole : Joining) (left middle : ResolvedTree) (top : NamedTop) (x y z : Elaboration) → ComposeFor first second whole x y z → JoinAllIf (HasTop left top) first x y
    → HaveSameRunIf (HasTop left top) first x y → HaveSameRunIf (HasTop middle top) second y z → HaveSameRunIf (HasTop left top) whole x z

abbrev pub ElaborationsJoinAll : Type 0
ElaborationsJoinAll = (first second whole : Joining) (left middle : ResolvedTree) (top : NamedTop) (x y z : Elaboration) → ComposeFor first second whole x y z → JoinAllIf (HasTop left top) first x y
    → JoinAllIf (HasTop middle top) second y z → JoinAllIf (HasTop left top) whole x z

-- ---- the interface of a design is kept by itself, where each declaration of a package has its own name in the output

abbrev pub HasOwnName : (ℕ → List ℕ) → Item → Type 0
HasOwnName names i = output_name names i.number ≡ i.name

abbrev pub HaveOwnNames : (ℕ → List ℕ) → UnitInterface → Type 0
HaveOwnNames names (OfEntity name generics ports) = Unit {0}
HaveOwnNames names (OfArchitecture name entity) = Unit {0}
HaveOwnNames names (OfPackage name items) = AllByRecursion (HasOwnName names) items

abbrev pub OwnInterfaceIsKept : Type 0
OwnInterfaceIsKept = (names : ℕ → List ℕ) (rs : List Row) (tree : ResolvedTree) → AllByRecursion (HaveOwnNames names) (interface_of tree) → InterfaceIsKept names rs tree tree

-- ---- tops: a tree that has a top elaborates it, or ends with a stop or a limit

-- a name is an identifier, as the grammar has it
abbrev pub IsIdentifier : Forest Resolved → Type 0
IsIdentifier nothing = ⊥
IsIdentifier (more n text place parts next) = n.form ≡ form.Identifier

-- those of an entity, and of an architecture and its entity
abbrev pub HasName : Sort → Forest Resolved → Type 0
HasName EntityUnit parts = IsIdentifier parts
HasName ArchitectureUnit parts = IsIdentifier parts × IsIdentifier (next_of parts)
HasName _ parts = Unit {0}

abbrev pub UnitsHaveNames : Forest Resolved → Type 0
UnitsHaveNames units = AllByRecursion (λ (x : Node). HasName x.sort x.parts) (units_in units)

abbrev pub TopsAreElaborated : Type 0
TopsAreElaborated = (r : Revision) (tree : ResolvedTree) → UnitsHaveNames tree.units → (top : NamedTop) → HasTop tree top
    → elaboration r tree (top_in tree top) ≡ NoTop → ⊥
