-- Places, in memory.
use Rattle.std.specs.Prelude.{◌≡◌, ◌∷◌, List, [], drop}
use Rattle.vd_contexts.specs.Standing.{standings_in}
use Rattle.vd_value_rules.specs.Designs.{Design}
use Rattle.vd_value_rules.specs.Standings.{State, further_standings}
use Rattle.vd_accepting.specs.declared.levels.Level.{Level}

-- a level has what a state has beside what is known
pub record IsLevel (d : Design) (x : Level) (s : State) : Type 0 where
  pub coming : standings_in d (drop x.at x.coming.items) ≡ s.coming
  pub label : s.label ≡ x.label
  pub copied : s.is_copied ≡ x.is_copied

-- behind a tree, whatever is known there
abbrev pub behind : State → State
behind s = record s { coming = further_standings s.coming }

abbrev pub IsBehind : Design → Level → State → Type 0
IsBehind d x s = IsLevel d x (behind s)

-- levels one round the other, from the inside out
abbrev pub AreLevels : Design → List Level → List State → Type 0
AreLevels d [] [] = Unit {0}
AreLevels d (x ∷ xs) (s ∷ ss) = IsLevel d x s × AreLevels d xs ss
AreLevels d _ _ = ⊥
