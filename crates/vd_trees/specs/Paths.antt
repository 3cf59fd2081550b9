-- Paths and scopes as text: the name of the top entity, the labels with their indexes in round brackets, the object, and its
-- fields and indexes, as in `top.g(3).s.f(0)`. (IEEE 1076, path names.) Names stand in lower case in trees, and an index has
-- its printed text with it.
use Rattle.std.specs.Prelude.{ℕ, List, [], ◌∷◌, ◌++◌, map, Option, Some, None}
use Rattle.std.specs.List.{flat_map, join_with_byte}
use Rattle.vd_trees.specs.declared.paths.PathIndex.{PathIndex}
use Rattle.vd_trees.specs.declared.paths.Label.{Label}
use Rattle.vd_trees.specs.declared.paths.Level.{Level}
use Rattle.vd_trees.specs.declared.paths.PathStep.{PathStep}
use Rattle.vd_trees.specs.declared.paths.PathStep.TheVariants.{Field, Index}
use Rattle.vd_trees.specs.declared.paths.Path.{Path}
use Rattle.vd_trees.specs.declared.paths.Scope.{Scope}

-- texts with dots (46) between them
abbrev pub dotted : List (List ℕ) → List ℕ
dotted texts = join_with_byte 46 texts

-- in round brackets (40, 41)
abbrev pub index_text : PathIndex → List ℕ
index_text i = 40 ∷ i.text ++ 41 ∷ []

abbrev pub label_index_text : Option PathIndex → List ℕ
label_index_text None = []
label_index_text (Some i) = index_text i

abbrev pub label_text : Label → List ℕ
label_text l = l.name ++ label_index_text l.index

-- the top entity's name
abbrev pub top_names : List Level → List (List ℕ)
top_names [] = []
top_names (top ∷ levels) = top.entity ∷ []

-- the names on the way to a place: the top entity, the labels of all levels, those of the generates round the place
abbrev pub way_to : List Level → List Label → List (List ℕ)
way_to levels generates = top_names levels ++ map label_text (flat_map (λ (l : Level). l.labels) levels ++ generates)

abbrev pub step_text : PathStep → List ℕ
step_text (Field name) = 46 ∷ name
step_text (Index i) = index_text i

abbrev pub path_text : Path → List ℕ
path_text p = dotted (way_to p.levels p.generates ++ p.object ∷ []) ++ flat_map step_text p.rest

-- in a package, where there are no levels, its name
abbrev pub scope_names : List Level → Scope → List (List ℕ)
scope_names [] s = s.unit ∷ []
scope_names (top ∷ levels) s = way_to (top ∷ levels) s.generates

abbrev pub scope_text : Scope → List ℕ
scope_text s = dotted (scope_names s.levels s)
