-- Which resolved trees are valid. This is local: it says of each node and each declaration alone what it names.
use Rattle.std.specs.Prelude.{◌<◌, ℕ, List, [], ◌∷◌, length, Option, Some, None, IsTrue, slice_index_or}
use Rattle.std.specs.List.{All}
use Rattle.vd_trees.specs.declared.revision.Revision.{Revision}
use Rattle.vd_declarations.specs.declared.classes.Class.{Class}
use Rattle.vd_declarations.specs.declared.classes.Class.TheVariants as class
use Rattle.vd_declarations.specs.declared.declarations.Declaration.{Declaration}
use Rattle.vd_declarations.specs.Classes.{is_type, types_of, named_by}
use Rattle.vd_forest.specs.Forest.{Forest, nothing, more}
use Rattle.vd_forms.specs.Validity.{IsDesign}
use Rattle.vd_resolved.specs.declared.node.Resolved.{Resolved}
use Rattle.vd_resolved.specs.Trees.{ResolvedTree, syntax_of}

-- one of the declarations
abbrev pub IsOwn : List Declaration → ℕ → Type 0
IsOwn declarations k = k < length declarations

-- where there is none, its class is that of a label
abbrev pub class_at : List Declaration → ℕ → Class
class_at [] k = class.Label
class_at (d ∷ ds) k = (slice_index_or (d ∷ ds) k d).class

-- one that is a type. A subtype is none
pub record IsType (declarations : List Declaration) (k : ℕ) : Type 0 where
  pub own : IsOwn declarations k
  pub is : IsTrue (is_type (class_at declarations k))

abbrev pub OnSome : (ℕ → Type 0) → Option ℕ → Type 0
OnSome P None = Unit {0}
OnSome P (Some k) = P k

-- ---- declarations

-- it names declarations of the list, and types where it names a type
pub record IsAmong (declarations : List Declaration) (d : Declaration) : Type 0 where
  pub mark : OnSome (IsType declarations) d.mark
  pub parameters : All (IsOwn declarations) d.parameters
  pub generics : All (IsOwn declarations) d.generics
  pub named : All (IsOwn declarations) (named_by d.class)
  pub types : All (IsType declarations) (types_of d.class)

-- ---- nodes

-- each node has a declaration of the list or none, and a type of the list or none
abbrev pub NamesOwn : List Declaration → Forest Resolved → Type 0
NamesOwn declarations nothing = Unit {0}
NamesOwn declarations (more node text place parts next) =
    OnSome (IsOwn declarations) node.declaration × OnSome (IsType declarations) node.mark
    × NamesOwn declarations parts × NamesOwn declarations next

-- ---- trees

-- a valid syntax tree of the revision, whose nodes and declarations name what is in the list
pub record IsResolved (r : Revision) (tree : ResolvedTree) : Type 0 where
  pub syntax : IsDesign r (syntax_of tree.units)
  pub nodes : NamesOwn tree.declarations tree.units
  pub declarations : All (IsAmong tree.declarations) tree.declarations
