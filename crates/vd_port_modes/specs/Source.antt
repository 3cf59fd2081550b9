-- What the tables are made of.
use Rattle.std.specs.Prelude.{◌++◌, List, slice_index_or, ℕ}
use Rattle.vd_declarations.specs.declared.declarations.Declaration.{Declaration}
use Rattle.vd_meaning.specs.Tables.{no_declaration, pairs}
use Rattle.vd_port_lists.specs.declared.entries.ListedInstance.{ListedInstance}
use Rattle.vd_resolved.specs.Trees.{ResolvedTree}
use Rattle.vd_trees.specs.declared.revision.Revision.{Revision}
use Rattle.vd_value_rules.specs.Designs.{Design, design_of}

-- a resolved tree, and its revision
pub record Source : Type 0 where
  pub revision : Revision
  pub tree : ResolvedTree

abbrev pub design_in : Source → Design
design_in s = design_of s.revision s.tree

-- ---- what a package or an instance declares, its generics first, by the declarations of a design

abbrev pub declared_there : List Declaration → ℕ → List ℕ
declared_there ds n = (slice_index_or ds n no_declaration).generics ++ (slice_index_or ds n no_declaration).parameters

-- each declaration of a package with that which stands for it in an instance
abbrev pub copies_there : List Declaration → ListedInstance → List (ℕ × ℕ)
copies_there ds x = pairs (declared_there ds x.generic) (declared_there ds x.instance)
