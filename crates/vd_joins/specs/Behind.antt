-- What stands behind a name in a text that begins with it.
use Rattle.std.specs.Prelude.{ℕ, ◌==◌, List, [], ◌∷◌, Option, Some, None, option_and_then, if◌then◌else◌}
use Rattle.vd_trees.specs.declared.paths.Label.{Label}
use Rattle.vd_trees.specs.declared.paths.PathStep.{PathStep}
use Rattle.vd_trees.specs.declared.paths.PathStep.TheVariants.{Field, Index}

abbrev pub behind : List ℕ → List ℕ → Option (List ℕ)
behind [] text = Some text
behind (c ∷ cs) [] = None
behind (c ∷ cs) (b ∷ bs) = if b == c then behind cs bs else None

-- behind some labels, each with a dot (46) behind it
abbrev pub behind_labels : List Label → List ℕ → Option (List ℕ)
behind_labels [] text = Some text
behind_labels (l ∷ ls) text = option_and_then (behind_labels ls) (option_and_then (behind (46 ∷ [])) (behind l.name text))

-- What a text leaves of some steps, where it goes on with the first of them, which are fields, each behind a dot.
abbrev pub left_behind : Option (List ℕ) → List PathStep → Option (List PathStep)
left_behind None steps = None
left_behind (Some []) steps = Some steps
left_behind (Some (c ∷ cs)) [] = None
left_behind (Some (c ∷ cs)) (Index i ∷ steps) = None
left_behind (Some (c ∷ cs)) (Field f ∷ steps) = left_behind (behind (46 ∷ f) (c ∷ cs)) steps
