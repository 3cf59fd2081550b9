-- What a node of a resolved tree is to elaboration, beside what it means.
use Rattle.std.specs.Prelude.{ℕ, zero, suc, Bool, List, [], ◌∷◌, ◌++◌, Option, None, Ok}
use Rattle.vd_values.specs.declared.scalar.Scalar.{Scalar}
use Rattle.vd_trees.specs.declared.paths.Scope.{Scope}
use Rattle.vd_composites.specs.Stops.{◌>>=◌}
use Rattle.vd_composites.specs.Composites.{Value}
use Rattle.vd_environments.specs.Got.{Got}
use Rattle.vd_environments.specs.Environments.{GenericActual, Env}
use Rattle.vd_environments.specs.Commands.{Command}
use Rattle.vd_meaning.specs.Facets.{Meaning, no_meaning, Objects, Formal}
use Rattle.vd_meaning.specs.Building.{Mode, Input, Built, State}

-- ---- interfaces

-- how the elements of a view are driven: a mode, or another view, perhaps conversed
pub data ElementMode : Type 0 where
  ByMode : (mode : Mode) → ElementMode
  ByView : (view : Option ℕ) (is_converse : Bool) → ElementMode

-- an element of a view, by its name
pub record ViewElement : Type 0 where
  pub name : List ℕ
  pub mode : ElementMode

-- a view: its declaration, the mark of its record type, and its elements
pub record View : Type 0 where
  pub view : ℕ
  pub mark : Option ℕ
  pub elements : List ViewElement

-- ports that are declared together: their names, their subtype and default, what the subtype names, and their mode or view. A port with a view may leave out its subtype,
-- which is then that of the view
pub record Ports : Type 0 where
  pub names : List (List ℕ)
  pub objects : Objects
  pub has_subtype : Bool
  pub named : List ℕ
  pub mode : ElementMode

-- the generics of an entity, and what the default of each names
pub record Generics : Type 0 where
  pub objects : List Objects
  pub defaults : List (List ℕ)

-- an actual of a map: the formal that it names, and what it is
pub record Actual : Type 0 where
  pub formal : Option ℕ
  pub meaning : Meaning

-- ---- hierarchy

-- an instance: its label, the names of its entity and architecture, its maps
pub record Instance : Type 0 where
  pub label : List ℕ
  pub entity : List ℕ
  pub architecture : Option (List ℕ)
  pub generics : List Actual
  pub ports : List Actual

-- what instances come to: the subtypes of their implicit signals, which are evaluated ahead, and themselves
pub record Hierarchy : Type 0 where
  pub ahead : Scope → Instance → State → Built State
  pub instance : Scope → Instance → State → Built State

abbrev pub Elaborating : Type 0
Elaborating = Hierarchy → Scope → State → Built State

abbrev pub nothing_to_do : Elaborating
nothing_to_do h scope s = Ok s

abbrev pub one_after_other : List Elaborating → Elaborating
one_after_other [] h scope s = Ok s
one_after_other (f ∷ fs) h scope s = f h scope s >>= one_after_other fs h scope

-- ---- design units, in the order of analysis

-- a package without generics, one with generics, a body of either, an instance
pub data PackageSort : Type 0 where
  PlainPackage : PackageSort
  GenericPackage : PackageSort
  BodyOfPackage : PackageSort
  InstanceOfPackage : PackageSort

pub record PackageText : Type 0 where
  pub sort : PackageSort
  pub name : List ℕ
  -- the declaration of the package itself, of that of which this is the body, or of that of which it is an instance
  pub number : ℕ
  pub generics : List Formal
  -- what it declares, where it has no generics, and where generics stand for their actuals
  pub declaring : Elaborating
  pub declarations : List Command
  -- of an instance: its actuals, and which of its declarations stands for which of the package
  pub actuals : Env → List GenericActual
  pub copies : List (ℕ × ℕ)

pub data Unit' : Type 0 where
  EntityUnit : (name : List ℕ) (generics : Generics) (ports : List Ports) → Unit'
  ArchitectureUnit : (name entity : List ℕ) (region : Elaborating) → Unit'
  PackageUnit : (text : PackageText) → Unit'

-- ---- facets

pub record Part : Type 0 where
  pub meaning : Meaning
  -- the declarations that are named in it, in order
  pub named : List ℕ
  -- in front of `=>`, what is named there
  pub formal : Option ℕ
  pub mode : ElementMode
  pub elements : List ViewElement
  pub views : List View
  pub ports : List Ports
  -- of generics, declaration by declaration, what their default names
  pub defaults : List (List ℕ)
  pub actuals : List Actual
  -- of a declaration, and of a region
  pub declaring : Elaborating
  pub region : Elaborating
  -- of a concurrent statement with a label: what is evaluated ahead of all statements, and what it comes to
  pub ahead : List ℕ → Elaborating
  pub elaborating : List ℕ → Elaborating
  -- of further alternatives of a generate, where the ones before aren't taken, and else
  pub otherwise : List ℕ → Elaborating → Elaborating
  pub cases : List ℕ → (Env → Got (Value Scalar)) → Elaborating
  pub units : List Unit'

abbrev pub of_meaning : Meaning → Part
of_meaning m =
    record {
      meaning = m;
      named = [];
      formal = None;
      mode = ByMode Input;
      elements = [];
      views = [];
      ports = [];
      defaults = [];
      actuals = [];
      declaring = nothing_to_do;
      region = nothing_to_do;
      ahead = λ _. nothing_to_do;
      elaborating = λ _. nothing_to_do;
      otherwise = λ _ f. f;
      cases = λ _ _. nothing_to_do;
      units = [];
    }

abbrev pub nth : ℕ → List Part → Part
nth n [] = of_meaning no_meaning
nth zero (p ∷ ps) = p
nth (suc n) (p ∷ ps) = nth n ps

abbrev pub from : ℕ → List Part → List Part
from zero ps = ps
from (suc n) [] = []
from (suc n) (p ∷ ps) = from n ps

abbrev pub last_of : List Part → Part
last_of [] = of_meaning no_meaning
last_of (p ∷ []) = p
last_of (p ∷ q ∷ ps) = last_of (q ∷ ps)

abbrev pub gathered : {A : Type 0} → (Part → List A) → List Part → List A
gathered f [] = []
gathered f (p ∷ ps) = f p ++ gathered f ps
