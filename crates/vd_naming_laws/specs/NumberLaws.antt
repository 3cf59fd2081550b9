-- Laws of the numbers that names get.
use Rattle.std.specs.Prelude.{ℕ, List}
use Rattle.std.specs.List.{AllByRecursion, Contains}
use Rattle.vd_forest.specs.Forest.{Forest}
use Rattle.vd_forms.specs.declared.form.Form.{Form}
use Rattle.vd_predefined.specs.Given.{given_scopes}
use Rattle.vd_regions.specs.Scopes.{Scopes}
use Rattle.vd_resolved.specs.declared.node.Resolved.{Resolved}
use Rattle.vd_visible.specs.Sights.{Standpoint, sight_from}
use Rattle.vd_trees.specs.declared.revision.Revision.{Revision}
use Rattle.vd_overloads.specs.Environment.{rules_at, scene_at}
use Rattle.vd_overloads.specs.Interpretations.{interpretations}
use Rattle.vd_overloads.specs.declared.wanted.Wanted.{Wanted}
use Rattle.vd_naming.specs.Naming.{names_from, names_of}
use Rattle.vd_naming.specs.Settled.{resolved_tree}
use Rattle.vd_naming_laws.specs.Numbers.{IsDeclared, IsSound, NamesDeclared, WantsType, MarksAreTypes, ArraysNameTypes, AddsTo, SettlesWell, IsAlmostResolved}

-- where declarations name what is declared, what is visible under a name is declared
abbrev pub VisibleAreDeclared : Type 0
VisibleAreDeclared = (p : Standpoint) (name : List ℕ) → IsSound p.scopes → AllByRecursion (IsDeclared p.scopes) ((sight_from p).visible name)

-- and the interpretations of an expression name what is declared
abbrev pub InterpretationsNameDeclared : Type 0
InterpretationsNameDeclared = (p : Standpoint) (w : Wanted) (tree : Forest Form) (reading : Forest Resolved) → IsSound p.scopes → WantsType p.scopes w
    → Contains (interpretations (rules_at p) (scene_at p) w tree) reading → NamesDeclared p.scopes reading

-- what is given names what is given
abbrev pub GivenAreSound : Type 0
GivenAreSound = (r : Revision) → IsSound (given_scopes r)

-- the names of any trees only enter declarations behind others
abbrev pub NamesOnlyAppend : Type 0
NamesOnlyAppend = (s : Scopes) (r : Revision) (units : Forest Form) → AddsTo s (names_from s r units).design.scopes

-- what they enter names what is declared, and types where it names types; and so do the nodes where they name types
abbrev pub NamesStaySound : Type 0
NamesStaySound = (s : Scopes) (r : Revision) (units : Forest Form) → IsSound s → ArraysNameTypes (names_from s r units).design.scopes
    → IsSound (names_from s r units).design.scopes × MarksAreTypes (names_from s r units).design.scopes (names_from s r units).tree

-- so where settling keeps types, all of the resolved tree does but for the numbers of declarations at its nodes
abbrev pub NamesAreAlmostResolved : Type 0
NamesAreAlmostResolved = (r : Revision) (units : Forest Form) → ArraysNameTypes (names_of r units).design.scopes
    → SettlesWell (names_of r units).design.scopes (names_of r units).design.taken → IsAlmostResolved (resolved_tree (names_of r units))
