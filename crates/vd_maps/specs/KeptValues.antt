-- What packages declare keeps its values: each constant an equal one, each function for all arguments of the types of its parameters an equal one with equal bounds, or a stop of the same kind. (IEEE 1076,
-- elaboration of a package; subprograms.)
use Rattle.std.specs.Prelude.{◌≡◌, ℕ, Bool, List, [], ◌∷◌, ◌++◌, map, Option, Some, Ok, Err, IsTrue, Contains, bytes_eq, if◌then◌else◌}
use Rattle.vd_values.specs.declared.scalar.Scalar.{Scalar}
use Rattle.vd_trees.specs.declared.revision.Revision.{Revision}
use Rattle.vd_composites.specs.Composites.{Value}
use Rattle.vd_resolved.specs.Trees.{ResolvedTree}
use Rattle.vd_environments.specs.Got.{Got}
use Rattle.vd_environments.specs.Environments.{Argument, Denotation, Env}
use Rattle.vd_meaning.specs.Building.{Built, State}
use Rattle.vd_meaning.specs.Elaborations.{units_of, hierarchy_of, beginning, with_packages}
use Rattle.vd_meaning.specs.Tables.{table}
use Rattle.vd_joins.specs.Joins.{Joining}
use Rattle.vd_maps.specs.SameRuns.{EndAlike}
use Rattle.vd_maps.specs.TypedValues.{are_values_of}
use Rattle.vd_maps.specs.Interfaces.{Kind, Type', Subtype', Constant', Function', Item, UnitInterface, OfEntity, OfArchitecture, OfPackage, interface_of, keeps_item}

-- the evaluation of the units in the order of analysis, without a top
abbrev pub packages_elaborated : Revision → ResolvedTree → Built State
packages_elaborated r tree = let u = units_of r tree in with_packages (hierarchy_of u) [] u.units beginning

-- ---- what two declarations have in common

abbrev pub SameResult : Got (Value Scalar) → Got (Value Scalar) → Type 0
SameResult (Ok v) (Ok w) = v ≡ w
SameResult (Ok v) (Err h) = ⊥
SameResult (Err h) (Ok w) = ⊥
SameResult (Err h) (Err k) = h.kind ≡ k.kind

abbrev pub arguments : List (Value Scalar) → List Argument
arguments values = map (λ v subtype. Ok v) values

abbrev pub SameMeaning : Kind → (List (Value Scalar) → Bool) → Denotation → Denotation → Type 0
SameMeaning Type' fit x y = Unit {0}
SameMeaning Subtype' fit x y = Unit {0}
SameMeaning Constant' fit x y = x.value ≡ y.value
SameMeaning Function' fit x y =
    (values : List (Value Scalar)) → IsTrue (fit values) → SameResult (x.function (arguments values)) (y.function (arguments values))

-- one value of its type for each parameter of a function
abbrev pub fit_parameters : Revision → ResolvedTree → ℕ → List (Value Scalar) → Bool
fit_parameters r tree d values = let t = table r tree.declarations in are_values_of tree.declarations t (t.declared d).parameters values

abbrev pub KeepsMeaning : Revision → ResolvedTree → Env → Env → Kind → Option ℕ → Option ℕ → Type 0
KeepsMeaning r tree e f kind (Some d) (Some c) = SameMeaning kind (fit_parameters r tree d) (e.denotes d) (f.denotes c)
KeepsMeaning r tree e f kind _ _ = ⊥

-- ---- packages

abbrev pub items_shown : List ℕ → List UnitInterface → List Item
items_shown name [] = []
items_shown name (OfPackage own items ∷ us) = (if bytes_eq own name then items else []) ++ items_shown name us
items_shown name (OfEntity own generics ports ∷ us) = items_shown name us
items_shown name (OfArchitecture own entity ∷ us) = items_shown name us

-- What a package declares means what it means that stands for it in the package of that name.
pub record ValuesAreKept (names : ℕ → List ℕ) (by : Joining) (r : Revision) (left right : ResolvedTree) (e f : Env) : Type 0 where
  pub kept : (package_name : List ℕ) (a b : Item) → Contains (items_shown package_name (interface_of left)) a → Contains (items_shown package_name (interface_of right)) b
      → IsTrue (keeps_item names by.rows a b) → KeepsMeaning r left e f a.kind a.number b.number

-- or both evaluations end alike
abbrev pub SamePackages : (ℕ → List ℕ) → Joining → Revision → ResolvedTree → ResolvedTree → Built State → Built State → Type 0
SamePackages names by r left right (Ok s) (Ok t) = ValuesAreKept names by r left right s.env t.env
SamePackages names by r left right (Ok s) (Err g) = ⊥
SamePackages names by r left right (Err f) (Ok t) = ⊥
SamePackages names by r left right (Err f) (Err g) = EndAlike by f g

-- Two trees, each of its revision: a design and what is written from it, or the design before a pass and the one behind it.
pub record PackagesAreKept (names : ℕ → List ℕ) (by : Joining) (r s : Revision) (left right : ResolvedTree) : Type 0 where
  pub kept : SamePackages names by r left right (packages_elaborated r left) (packages_elaborated s right)
