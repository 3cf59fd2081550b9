-- Steps of the walk.
use Rattle.std.proofs.Common.{◌++◌, ◌≡◌, ◌∙◌, ◌∷◌, List, [], ap, reverse, subst, sym}
use Rattle.std.proofs.lemmas.List.{reverse-append}
use Rattle.vd_walks.specs.Positions.{Tree}
use Rattle.vd_resolved.specs.declared.node.Resolved.{Resolved}
use Rattle.vd_value_rules.specs.Designs.{Design}
use Rattle.vd_value_rules.specs.Standings.{State, state_along}
use Rattle.vd_accepting.specs.Levels.{AreLevels, IsBehind, IsLevel}
use Rattle.vd_accepting.specs.declared.levels.Level.{Level}

abbrev pub along_at : Design → State → Tree Resolved → State
along_at d s x = state_along d s x.form x.text x.place x.parts

pub level_along : (d : Design) (l : Level) (s : State) (x : Tree Resolved) → IsBehind d l s → IsLevel d l (along_at d s x)
level_along d l s x is = record { coming = is.coming; label = is.label; copied = is.copied }

-- a level more in front of the others
pub levels_more : (d : Design) (xs longer : List Level) (x : Level) (s : State) (ss : List State) → longer ≡ xs ++ x ∷ [] → IsLevel d x s → AreLevels d (reverse xs) ss
    → AreLevels d (reverse longer) (s ∷ ss)
levels_more d xs longer x s ss pushed is are =
    subst (λ ls. AreLevels d ls (s ∷ ss)) (sym (ap reverse pushed ∙ reverse-append xs (x ∷ []))) (is, are)

pub levels_less : (d : Design) (xs longer : List Level) (x : Level) (s : State) (ss : List State) → longer ≡ xs ++ x ∷ [] → AreLevels d (reverse longer) (s ∷ ss)
    → IsLevel d x s × AreLevels d (reverse xs) ss
levels_less d xs longer x s ss popped are = subst (λ ls. AreLevels d ls (s ∷ ss)) (ap reverse popped ∙ reverse-append xs (x ∷ [])) are
