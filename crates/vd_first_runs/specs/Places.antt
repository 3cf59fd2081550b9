-- Where the objects and processes of a top stand, with the names of its entity and its architecture. (IEEE 1076, path names.)
use Rattle.std.specs.Prelude.{ℕ, List, [], ◌∷◌}
use Rattle.vd_trees.specs.declared.paths.Level.{Level}
use Rattle.vd_trees.specs.declared.paths.Path.{Path}
use Rattle.vd_trees.specs.declared.paths.Scope.{Scope}

abbrev pub level_at : (entity architecture : List ℕ) → Level
level_at entity architecture = record { labels = []; entity = entity; architecture = architecture }

abbrev pub scope_at : (entity architecture : List ℕ) → Scope
scope_at entity architecture = record { levels = level_at entity architecture ∷ []; generates = []; unit = [] }

abbrev pub path_at : (entity architecture object : List ℕ) → Path
path_at entity architecture object =
    record { levels = level_at entity architecture ∷ []; generates = []; object = object; rest = [] }
