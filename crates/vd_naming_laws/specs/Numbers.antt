-- Scopes whose declarations name what is declared in them, and trees that do. (IEEE 1076, declarations; scope of declarations)
use Rattle.std.specs.Prelude.{◌≡◌, ◌<◌, ◌++◌, ℕ, true, List, length}
use Rattle.std.specs.List.{AllByRecursion, All}
use Rattle.vd_declarations.specs.Classes.{is_type, types_of, named_by}
use Rattle.vd_forest.specs.Forest.{Forest, nothing, more}
use Rattle.vd_predefined.specs.declared.numbers.TheConstants.{BOOLEAN, INTEGER, TIME, STRING, SEVERITY_LEVEL}
use Rattle.vd_regions.specs.Scopes.{Scopes, declaration_at}
use Rattle.vd_regions.specs.declared.entries.Entered.{Entered}
use Rattle.vd_resolved.specs.declared.node.Resolved.{Resolved}
use Rattle.vd_resolved.specs.Trees.{ResolvedTree}
use Rattle.vd_resolved.specs.Validity.{OnSome, IsType, IsAmong}
use Rattle.vd_declarations.specs.declared.declarations.Declaration.{Declaration}
use Rattle.vd_name_rows.specs.declared.notes.Taken.{Taken}
use Rattle.vd_naming.specs.Settled.{settled}
use Rattle.vd_overloads.specs.declared.wanted.Wanted.{Wanted}
use Rattle.vd_overloads.specs.declared.wanted.Wanted.TheVariants as wanted

-- so many are declared
abbrev pub IsDeclared : Scopes → ℕ → Type 0
IsDeclared s k = k < length s.entered

-- it is declared, as a type
abbrev pub IsTypeIn : Scopes → ℕ → Type 0
IsTypeIn s k = is_type (declaration_at s k).class ≡ true

-- each declaration names declarations, and types where it names a type; and the types that the language names are types
pub record IsSound (s : Scopes) : Type 0 where
  pub marks : (k : ℕ) → OnSome (IsTypeIn s) (declaration_at s k).mark
  pub parameters : (k : ℕ) → AllByRecursion (IsDeclared s) (declaration_at s k).parameters
  pub generics : (k : ℕ) → AllByRecursion (IsDeclared s) (declaration_at s k).generics
  pub named : (k : ℕ) → AllByRecursion (IsDeclared s) (named_by (declaration_at s k).class)
  pub types : (k : ℕ) → AllByRecursion (IsTypeIn s) (types_of (declaration_at s k).class)
  pub boolean : IsTypeIn s BOOLEAN
  pub integer : IsTypeIn s INTEGER
  pub time : IsTypeIn s TIME
  pub string : IsTypeIn s STRING
  pub severity : IsTypeIn s SEVERITY_LEVEL

-- each node names a declaration or none, and a type or none
abbrev pub NamesDeclared : Scopes → Forest Resolved → Type 0
NamesDeclared s nothing = Unit {0}
NamesDeclared s (more node text place parts next) =
    OnSome (IsDeclared s) node.declaration × OnSome (IsTypeIn s) node.mark × NamesDeclared s parts × NamesDeclared s next

-- what is wanted of an expression names a type
abbrev pub WantsType : Scopes → Wanted → Type 0
WantsType s (wanted.OfType t) = IsTypeIn s t
WantsType s (wanted.Range t) = IsTypeIn s t
WantsType s (wanted.DiscreteRange t) = IsTypeIn s t
WantsType s (wanted.Choice t) = IsTypeIn s t
WantsType s _ = Unit {0}

-- the type of each node is a type, where it has one
abbrev pub MarksAreTypes : Scopes → Forest Resolved → Type 0
MarksAreTypes s nothing = Unit {0}
MarksAreTypes s (more node text place parts next) = OnSome (IsTypeIn s) node.mark × MarksAreTypes s parts × MarksAreTypes s next

-- each array type names types: where its element or its index is refused, it names the declaration 0, which is none
abbrev pub ArraysNameTypes : Scopes → Type 0
ArraysNameTypes s = (k : ℕ) → AllByRecursion (IsTypeIn s) (types_of (declaration_at s k).class)

-- more is entered, behind all others
pub record AddsTo (s t : Scopes) : Type 0 where
  pub later : List Entered
  pub same : t.entered ≡ s.entered ++ later

-- Settling keeps numbers that are declared, and types. It does where each header of a body that stands for another one has a type wherever that has one.
pub record SettlesWell (s : Scopes) (ts : List Taken) : Type 0 where
  pub own : (n : ℕ) → IsDeclared s n → IsDeclared s (settled ts n)
  pub types : (n : ℕ) → IsTypeIn s n → IsTypeIn s (settled ts n)

-- each node of a tree has a type of the list or none
abbrev pub MarksAreOf : List Declaration → Forest Resolved → Type 0
MarksAreOf declarations nothing = Unit {0}
MarksAreOf declarations (more node text place parts next) = OnSome (IsType declarations) node.mark × MarksAreOf declarations parts × MarksAreOf declarations next

-- a resolved tree is valid, but for the numbers of declarations at its nodes
pub record IsAlmostResolved (tree : ResolvedTree) : Type 0 where
  pub marks : MarksAreOf tree.declarations tree.units
  pub declarations : All (IsAmong tree.declarations) tree.declarations
