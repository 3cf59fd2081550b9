-- Derivations of a grammar and the texts that they have. A grammar is the productions and the start of a table; nothing
-- here looks at a claim.
use Rattle.std.specs.Prelude.{ℕ, ◌+◌, ◌-◌, ◌<◌, ◌≤◌, ◌≡◌, max, true, nat_eq, List, [], ◌∷◌, ◌++◌, length, take, Option, Some, None, slice_get, if◌then◌else◌}
use Rattle.std.specs.List.{range_with_len}
use Rattle.vd_gram.specs.declared.tables.Production.{Production}
use Rattle.vd_gram.specs.declared.tables.Table.{Table}
use Rattle.vd_gram.specs.Claims.{has, is_terminal, end_symbol}

-- no tree, or a first tree with the trees after it. A leaf is a symbol with its place in a text, and a node is a production,
-- by its number, with the trees of its right side
pub data Trees : Type 0 where
  nothing : Trees
  leaf : (symbol : ℕ) → (place : ℕ) → (next : Trees) → Trees
  node : (production : ℕ) → (parts : Trees) → (next : Trees) → Trees

-- the symbols of the leaves
abbrev pub yield : Trees → List ℕ
yield nothing = []
yield (leaf symbol place next) = symbol ∷ yield next
yield (node production parts next) = yield parts ++ yield next

-- the places of the leaves
abbrev pub places : Trees → List ℕ
places nothing = []
places (leaf symbol place next) = place ∷ places next
places (node production parts next) = places parts ++ places next

-- the trees without the places of their leaves
abbrev pub unplaced : Trees → Trees
unplaced nothing = nothing
unplaced (leaf symbol place next) = leaf symbol 0 (unplaced next)
unplaced (node production parts next) = node production (unplaced parts) (unplaced next)

-- the trees, side by side
abbrev pub tree_count : Trees → ℕ
tree_count nothing = 0
tree_count (leaf symbol place next) = tree_count next + 1
tree_count (node production parts next) = tree_count next + 1

-- the trees are derivations of the symbols, one of each: the leaf of a terminal, or a node of a production whose left is
-- the symbol, with derivations of its right
abbrev pub Derive : Table → List ℕ → Trees → Type 0
Derive t [] nothing = Unit {0}
Derive t [] (leaf symbol place next) = ⊥
Derive t [] (node production parts next) = ⊥
Derive t (s ∷ ss) nothing = ⊥
Derive t (s ∷ ss) (leaf symbol place next) = (is_terminal t s ≡ true) × (symbol ≡ s) × Derive t ss next
Derive t (s ∷ ss) (node production parts next) =
    (p : Production) × (slice_get t.productions.now production ≡ Some p) × (p.left ≡ s) × Derive t p.right.now parts × Derive t ss next

-- the tree is a derivation of a text: of the start
abbrev pub IsDerivation : Table → Trees → Type 0
IsDerivation t trees = Derive t (t.start ∷ []) trees

-- how many leaves and nodes there are
abbrev pub size : Trees → ℕ
size nothing = 0
size (leaf symbol place next) = size next + 1
size (node production parts next) = size parts + size next + 1

-- ---- what can stand at the front of a text

abbrev pub with_end : List ℕ → List ℕ
with_end symbols = symbols ++ end_symbol ∷ []

-- some text of the grammar, with its end, goes on from these symbols
pub record GoesOn (t : Table) (symbols : List ℕ) : Type 0 where
  pub tree : Trees
  pub rest : List ℕ
  pub derived : IsDerivation t tree
  pub begins : with_end (yield tree) ≡ symbols ++ rest

-- the place of the first symbol, the end being one, with which no text goes on
pub record IsHopeless (t : Table) (symbols : List ℕ) (place : ℕ) : Type 0 where
  pub within : place ≤ length symbols
  pub goes_on : GoesOn t (take place (with_end symbols))
  pub hopeless : ¬ (GoesOn t (take (place + 1) (with_end symbols)))

-- ---- depth

-- 1 for a production of a marked nonterminal, and 0 for others
abbrev pub mark : Table → Option Production → ℕ
mark t None = 0
mark t (Some p) = if has t.marked.now p.left then 1 else 0

abbrev pub mark_of : Table → ℕ → ℕ
mark_of t production = mark t (slice_get t.productions.now production)

-- how many marked nodes stand above one another
abbrev pub depth : Table → Trees → ℕ
depth t nothing = 0
depth t (leaf symbol place next) = depth t next
depth t (node production parts next) = max (mark_of t production + depth t parts) (depth t next)

-- the same of the nodes in front of which fewer than so many leaves stand
abbrev pub depth_before : Table → ℕ → Trees → ℕ
depth_before t begun nothing = 0
depth_before t begun (leaf symbol place next) = depth_before t (begun - 1) next
depth_before t begun (node production parts next) =
    if nat_eq begun 0 then 0
    else max (mark_of t production + depth_before t begun parts) (depth_before t (begun - length (yield parts)) next)

-- before the first hopeless symbol more than `deep` marked nodes stand above one another: among the nodes that have begun
-- in front of the end of some symbols with which a text goes on
pub record IsTooDeep (t : Table) (symbols : List ℕ) (deep : ℕ) : Type 0 where
  pub begun : ℕ
  pub tree : Trees
  pub rest : List ℕ
  pub derived : IsDerivation t tree
  pub within : begun ≤ length (with_end symbols)
  pub begins : with_end (yield tree) ≡ take begun (with_end symbols) ++ rest
  pub deeper : deep < depth_before t begun tree

-- ---- a list of trees in two

-- the trees of the first list, and then those of the second
abbrev pub joined : Trees → Trees → Trees
joined nothing rest = rest
joined (leaf symbol place next) rest = leaf symbol place (joined next rest)
joined (node production parts next) rest = node production parts (joined next rest)

-- ---- what a reader of texts answers

-- the tree is the derivation of the symbols, with the leaves at their places, and no nodes stand too deep
pub record IsParse (t : Table) (symbols : List ℕ) (deep : ℕ) (tree : Trees) : Type 0 where
  pub derived : IsDerivation t tree
  pub yields : yield tree ≡ symbols
  pub placed : places tree ≡ range_with_len 0 (length symbols)
  pub shallow : ¬ (IsTooDeep t symbols deep)

-- the symbols are refused at a place: no text goes on there, and nothing is too deep in front of it
pub record IsRefused (t : Table) (symbols : List ℕ) (deep place : ℕ) : Type 0 where
  pub hopeless : IsHopeless t symbols place
  pub shallow : ¬ (IsTooDeep t symbols deep)
