-- What the groups are to the rules.
use Rattle.std.specs.Prelude.{◌≡◌}
use Rattle.vd_resolved.specs.Trees.{ResolvedTree}
use Rattle.vd_value_rules.specs.Groups.{all_firsts, firsts_of}
use Rattle.vd_trees.specs.declared.revision.Revision.{Revision}
use Rattle.vd_value_rules.specs.Rules.{broken_in}

-- the first refusals of all groups are those of all that a design breaks
abbrev pub GroupsAreAll : Type 0
GroupsAreAll = (r : Revision) (tree : ResolvedTree) → all_firsts r tree ≡ firsts_of (broken_in r tree)
