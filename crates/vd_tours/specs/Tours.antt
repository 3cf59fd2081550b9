-- What a forest becomes that is walked once, in the order of its text, where each tree becomes any number of other trees.
use Rattle.std.specs.Prelude.{◌≡◌, ◌≤◌, ℕ, List, ◌∷◌, length}
use Rattle.vd_forest.specs.Forest.{Forest, nothing, more, joined}
use Rattle.vd_forest.specs.Store.{at, Extends}
use Rattle.vd_walks.specs.Positions.{Along, Down, Position, Tree, passed, tree_with}
use Rattle.vd_tours.specs.declared.touring.Entry.{Entry}
use Rattle.vd_tours.specs.declared.touring.Entry.TheVariants as entry

-- which trees may take the place of a tree whose parts are not walked
abbrev pub Replacing : Type 0 → Type 0 → Type 1
Replacing F G = Position F → Tree F → Forest G → Type 0

-- which trees, the second ones, a tree becomes whose parts became the first ones
abbrev pub Becoming : Type 0 → Type 0 → Type 1
Becoming F G = Position F → Tree F → Forest G → Forest G → Type 0

-- a tree became these trees: by itself, or by what its parts became
pub data IsMade {F G : Type 0} (replaces : Replacing F G) (becomes : Becoming F G) (p : Position F) (x : Tree F) (made_of_parts : Forest G → Type 0) (g : Forest G) : Type 0 where
  Replaced : (is : replaces p x g) → IsMade replaces becomes p x made_of_parts g
  Rebuilt : (inner : Forest G) → (parts : made_of_parts inner) → (is : becomes p x inner g) → IsMade replaces becomes p x made_of_parts g

-- what a first tree became, and then what those behind it became
pub record AreFollowed {G : Type 0} (is_first : Forest G → Type 0) (is_rest : Forest G → Type 0) (g : Forest G) : Type 0 where
  pub first : Forest G
  pub rest : Forest G
  pub is : g ≡ joined first rest
  pub made : is_first first
  pub behind : is_rest rest

-- what the trees of a forest became, from this place on, at every depth that was walked
abbrev pub AreMade : {F G : Type 0} → Replacing F G → Becoming F G → Position F → Forest F → Forest G → Type 0
AreMade replaces becomes p nothing g = g ≡ nothing
AreMade replaces becomes p (more form text place parts next) g =
    AreFollowed
    (IsMade replaces becomes p (tree_with form text place parts) (AreMade replaces becomes (Down (tree_with form text place parts) ∷ p) parts))
    (AreMade replaces becomes (Along (tree_with form text place parts) ∷ p) next)
    g

-- ---- where a walk is

-- at some place, known since the store was so, which has only grown
pub record IsAtPlace {F G : Type 0} (knows : List (Forest G) → List (Position F) → Type 0) (store : List (Forest G)) : Type 0 where
  pub before : List (Forest G)
  pub grown : Extends before store
  pub here : Position F
  pub round : List (Position F)
  pub known : knows before (here ∷ round)

-- at the end of the parts of a tree
pub record IsAtEnd {F G : Type 0} (knows : List (Forest G) → List (Position F) → Type 0) (store : List (Forest G)) (x : Tree F) : Type 0 where
  pub before : List (Forest G)
  pub grown : Extends before store
  pub here : Position F
  pub round : List (Position F)
  pub known : knows before (passed (Down x ∷ here) x.parts ∷ here ∷ round)

-- ---- what the calls of a walk answer

-- the trees that take a tree's place are some of the store
abbrev pub IsWithin : {G : Type 0} → List (Forest G) → Entry → Type 0
IsWithin store entry.Inside = Unit {0}
IsWithin store (entry.Done trees) = trees ≤ length store

-- the walk goes into the tree at a place, or these trees take its place, and the walk is behind it
abbrev pub IsEntered : {F G : Type 0} → (List (Forest G) → List (Position F) → Type 0) → Replacing F G → List (Forest G) → Position F → List (Position F) → Tree F → Entry → Type 0
IsEntered knows replaces store p ps x entry.Inside = knows store ((Down x ∷ p) ∷ p ∷ ps)
IsEntered knows replaces store p ps x (entry.Done trees) = replaces p x (at store trees) × knows store ((Along x ∷ p) ∷ ps)

-- the tree became these trees, and the walk is behind it
pub record IsLeft {F G : Type 0} (knows : List (Forest G) → List (Position F) → Type 0) (becomes : Becoming F G) (store : List (Forest G)) (p : Position F) (ps : List (Position F)) (x : Tree F)
    (inner : Forest G) (trees : ℕ) : Type 0 where
  pub is : becomes p x inner (at store trees)
  pub known : knows store ((Along x ∷ p) ∷ ps)

-- the trees of a forest became these trees, and the walk is behind them. What is known was so when the store was `before`
pub record IsToured {F G : Type 0} (knows : List (Forest G) → List (Position F) → Type 0) (replaces : Replacing F G) (becomes : Becoming F G) (store : List (Forest G)) (p : Position F)
    (ps : List (Position F)) (from : Forest F) (trees : ℕ) : Type 0 where
  pub made : AreMade replaces becomes p from (at store trees)
  pub before : List (Forest G)
  pub grown : Extends before store
  pub known : knows before (passed p from ∷ ps)
