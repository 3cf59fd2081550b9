-- Designs of either revision, and the texts of their traces. (IEEE 1076, elaboration and execution of a model.)
use Rattle.std.specs.Prelude.{ℕ, List, [], ◌++◌, map, None}
use Rattle.vd_trees.specs.declared.revision.Revision.{Revision}
use Rattle.vd_declarations.specs.declared.classes.Made.TheVariants.{Generic}
use Rattle.vd_declarations.specs.declared.declarations.Declaration.{Declaration}
use Rattle.vd_forest.specs.Forest.{Forest}
use Rattle.vd_resolved.specs.declared.node.Resolved.{Resolved}
use Rattle.vd_resolved.specs.Trees.{ResolvedTree, side_by_side}
use Rattle.vd_predefined.specs.Given.{given_scopes}
use Rattle.vd_meaning.specs.Elaborations.{elaboration}
use Rattle.vd_elaboration_facts.specs.Hierarchies.{text_of}

-- design units, and the declarations of their text behind those that are given
abbrev pub designed : Revision → List (Forest Resolved) → List Declaration → ResolvedTree
designed r units own =
    record { units = side_by_side units; declarations = map (λ x. x.declaration) (given_scopes r).entered ++ own }

-- a declaration that lists its generics, and a generic of an instance
abbrev pub with_generics : List ℕ → Declaration → Declaration
with_generics numbers d = record d { generics = numbers }

abbrev pub generic_copy : Declaration → Declaration
generic_copy d = record d { made = Generic }

-- the text of the trace of an entity, with its last architecture and the defaults of its generics, after at most so many cycles
abbrev pub traced : Revision → ResolvedTree → List ℕ → ℕ → List ℕ
traced r design entity cycles =
    text_of (elaboration r design (record { entity = entity; architecture = None; generics = [] })) cycles
