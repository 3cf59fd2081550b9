-- The groups that are open, the innermost first. Which lines are selected is defined apart from this, in Groups.
use Rattle.std.specs.Prelude.{ℕ, Bool, true, false, not, ◌&&◌, List, [], ◌∷◌, if◌then◌else◌}
use Rattle.vd_directives.specs.declared.groups.Level.{Level}
use Rattle.vd_directives.specs.declared.kinds.Kind.{Kind}
use Rattle.vd_directives.specs.declared.kinds.Kind.TheVariants.{If, Elsif, Else, End, Error, Broken, Unknown}
use Rattle.vd_directives.specs.Stacks.{is_nil}

abbrev pub here : List Level → Bool
here [] = true
here (level ∷ levels) = level.is_here

abbrev pub branched : Bool → List Level → List Level
branched condition [] = []
branched condition (level ∷ levels) =
    record { is_here = condition && level.may_come; may_come = not condition && level.may_come; has_else = false } ∷ levels

abbrev pub ended : List Level → List Level
ended [] = []
ended (level ∷ levels) = record { is_here = level.may_come; may_come = false; has_else = true } ∷ levels

abbrev pub left : List Level → List Level
left [] = []
left (level ∷ levels) = levels

-- the groups behind a line
abbrev pub entered : Kind → List Level → List Level
entered (If condition) levels = record { is_here = condition && here levels; may_come = not condition && here levels; has_else = false } ∷ levels
entered (Elsif condition) levels = branched condition levels
entered Else levels = ended levels
entered End levels = left levels
entered kind levels = levels

abbrev pub branch_rule : List Level → ℕ
branch_rule [] = 112
branch_rule (level ∷ levels) = if level.has_else then 112 else 0

abbrev pub level_rule : Kind → List Level → ℕ
level_rule Broken levels = 111
level_rule Unknown levels = if here levels then 111 else 0
level_rule (Elsif condition) levels = branch_rule levels
level_rule Else levels = branch_rule levels
level_rule End levels = if is_nil levels then 112 else 0
level_rule Error levels = if here levels then 113 else 0
level_rule kind levels = 0
