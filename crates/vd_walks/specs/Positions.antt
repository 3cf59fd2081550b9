-- Places in a forest, by the way to them, and what is broken at each of them.
use Rattle.std.specs.Prelude.{List, [], ◌∷◌, ◌++◌, ℕ}
use Rattle.vd_bytes.specs.declared.answers.Refused.{Refused}
use Rattle.vd_bytes.specs.declared.places.Place.{Place}
use Rattle.vd_forest.specs.Forest.{Forest, more, nothing}
use Rattle.vd_forest.specs.declared.cursor.Opened.{Opened}
use Rattle.vd_walks.specs.Least.{Judge}

-- a tree without what stands behind it
pub record Tree (F : Type 0) : Type 0 where
  pub form : F
  pub text : List ℕ
  pub place : Place
  pub parts : Forest F

-- from a tree behind it, or into its parts
pub data Step (F : Type 0) : Type 0 where
  Along : (tree : Tree F) → Step F
  Down : (tree : Tree F) → Step F

-- the way to a place, the last step first
abbrev pub Position : Type 0 → Type 0
Position F = List (Step F)

abbrev pub tree_with : {F : Type 0} → F → List ℕ → Place → Forest F → Tree F
tree_with form text place parts = record { form = form; text = text; place = place; parts = parts }

abbrev pub tree_of : {F : Type 0} → Opened F → Tree F
tree_of o = tree_with o.form o.text.now o.place o.parts

-- behind all trees of a forest
abbrev pub passed : {F : Type 0} → Position F → Forest F → Position F
passed p nothing = p
passed p (more form text place parts next) = passed (Along (tree_with form text place parts) ∷ p) next

-- what the trees of a forest break, node by node in the order of the text
abbrev pub all_broken_at : {F : Type 0} → (Position F → Tree F → List Refused) → Position F → Forest F → List Refused
all_broken_at broken p nothing = []
all_broken_at broken p (more form text place parts next) =
    broken p (tree_with form text place parts)
    ++ (all_broken_at broken (Down (tree_with form text place parts) ∷ p) parts ++ all_broken_at broken (Along (tree_with form text place parts) ∷ p) next)

-- ---- states

-- the state at a place, by what a judge says of the steps to it
abbrev pub state_at : {F S : Type 0} → Judge F S → S → Position F → S
state_at judge s [] = s
state_at judge s (Along x ∷ p) = judge.along (state_at judge s p) x.form x.text x.place x.parts
state_at judge s (Down x ∷ p) = judge.down (state_at judge s p) x.form x.text x.place x.parts

-- what a judge finds broken at a place
abbrev pub judged : {F S : Type 0} → Judge F S → S → Position F → Tree F → List Refused
judged judge s p x = judge.broken (state_at judge s p) x.form x.text x.place x.parts

-- ---- where a walk is

-- at some place, with some refusals found
pub record IsAtPlace {F : Type 0} (follows : List Refused → List (Position F) → Type 0) : Type 0 where
  pub found : List Refused
  pub here : Position F
  pub round : List (Position F)
  pub knows : follows found (here ∷ round)

-- at the end of the parts of a tree
pub record IsAtEnd {F : Type 0} (follows : List Refused → List (Position F) → Type 0) (x : Tree F) : Type 0 where
  pub found : List Refused
  pub here : Position F
  pub round : List (Position F)
  pub knows : follows found (passed (Down x ∷ here) x.parts ∷ here ∷ round)
