-- What is visible at a place. (IEEE 1076, scope and visibility: visibility by selection, direct visibility, use clauses)
-- A declaration is entered when it becomes visible: at its end.
use Rattle.std.specs.Prelude.{◌≡◌, ◌⊎◌, ◌<◌, ℕ, IsTrue, List, ◌∷◌, ◌++◌, length, Option, Some, None}
use Rattle.std.specs.List.{Contains}
use Rattle.vd_declarations.specs.declared.classes.Class.{Class}
use Rattle.vd_declarations.specs.declared.classes.Class.TheVariants as class
use Rattle.vd_declarations.specs.Classes.{is_overloadable}
use Rattle.vd_regions.specs.Scopes.{Scopes, Clause, region_at, entered_at, declaration_at, meant, chain}
use Rattle.vd_regions.specs.Homographs.{apart, replaces}

-- a region declares it under the name
pub record IsEntered (s : Scopes) (region : ℕ) (name : List ℕ) (k : ℕ) : Type 0 where
  pub known : k < length s.entered
  pub here : (entered_at s k).region ≡ region
  pub named : (declaration_at s k).name ≡ name

-- and no function of a user took its place there
pub record IsDeclared (s : Scopes) (region : ℕ) (name : List ℕ) (k : ℕ) : Type 0 where
  pub entered : IsEntered s region name k
  pub in_place : (j : ℕ) → IsEntered s region name j → IsTrue (replaces s j k) → ⊥

-- two declarations of one name don't hide one another: both are overloadable, with different profiles
abbrev pub AreApart : Scopes → ℕ → ℕ → Type 0
AreApart s k j = IsTrue (apart s (declaration_at s k) (declaration_at s j))

abbrev pub IsOverloadable : Scopes → ℕ → Type 0
IsOverloadable s k = IsTrue (is_overloadable (declaration_at s k).class)

-- ---- directly: declared in a region round the place, and no region inside that one declares what hides it

pub record IsDirect (s : Scopes) (region : ℕ) (name : List ℕ) (k : ℕ) : Type 0 where
  pub inside : List ℕ
  pub at : ℕ
  pub outside : List ℕ
  pub round : chain s region ≡ inside ++ at ∷ outside
  pub declared : IsDeclared s at name k
  pub unhidden : (r j : ℕ) → Contains inside r → IsDeclared s r name j → AreApart s k j

-- ---- by use

-- a clause speaks of a name
abbrev pub Means : Option (List ℕ) → List ℕ → Type 0
Means None name = Unit {0}
Means (Some own) name = own ≡ name

-- given: by a use clause of a region round the place, out of a region whose end is reached
pub record IsGiven (s : Scopes) (region : ℕ) (name : List ℕ) (k : ℕ) : Type 0 where
  pub at : ℕ
  pub clause : Clause
  pub round : Contains (chain s region) at
  pub stands : Contains (region_at s at).uses clause
  pub closed : IsTrue (region_at s clause.from).closed
  pub meant : Means clause.name name
  pub declared : IsDeclared s clause.from name k

-- by use: given, hidden by no declaration round the place, and by no other that is given
pub record IsByUse (s : Scopes) (region : ℕ) (name : List ℕ) (k : ℕ) : Type 0 where
  pub given : IsGiven s region name k
  pub unhidden : (r j : ℕ) → Contains (chain s region) r → IsDeclared s r name j → AreApart s k j
  pub alone : (j : ℕ) → IsGiven s region name j → (j ≡ k) ⊎ (IsOverloadable s k × IsOverloadable s j)

abbrev pub IsVisible : Scopes → ℕ → List ℕ → ℕ → Type 0
IsVisible s region name k = IsDirect s region name k ⊎ IsByUse s region name k

-- ---- by a selected name, whose prefix names a library, a unit or a type

-- What a region declares can be selected by a name whose prefix is of this class. The units of a library are there one by one, and
-- those of a package or a record type once its end is reached. The declarations of an entity are there in its own architectures alone.
abbrev pub Opens : Scopes → (place inside : ℕ) → Class → Type 0
Opens s place inside class.Library = Unit {0}
Opens s place inside class.Package = IsTrue (region_at s inside).closed
Opens s place inside class.UninstantiatedPackage = IsTrue (region_at s inside).closed
Opens s place inside class.PackageInstance = IsTrue (region_at s inside).closed
Opens s place inside class.RecordType = IsTrue (region_at s inside).closed
Opens s place inside class.Entity = IsTrue (region_at s inside).closed × Contains (chain s place) inside
Opens s place inside _ = ⊥

pub record IsSelected (s : Scopes) (place prefix : ℕ) (name : List ℕ) (k : ℕ) : Type 0 where
  pub inside : ℕ
  pub region : (declaration_at s prefix).inside ≡ Some inside
  pub opens : Opens s place inside (declaration_at s prefix).class
  pub declared : IsDeclared s inside name k

-- ---- what a name means

-- a declaration that some entries of these mean: mostly itself
pub record IsMeant (s : Scopes) (P : ℕ → Type 0) (k : ℕ) : Type 0 where
  pub entry : ℕ
  pub found : P entry
  pub means : meant s entry ≡ k
