-- What a reader of a text that looks at one symbol at a time has to know. These words serve the reader's own functions.
use Rattle.std.specs.Prelude.{ℕ, ◌+◌, ◌-◌, ◌*◌, ◌<◌, ◌≤◌, ◌≡◌, max, Bool, true, false, ◌&&◌, nat_eq, List, [], ◌∷◌, ◌++◌, length, take, Option, Some, None, slice_get, if◌then◌else◌}
use Rattle.std.specs.List.{list_all, range_with_len}
use Rattle.std.specs.declared.hash.FoldHasher.{FoldHasher}
use Rattle.std.specs.declared.hash.BuildHasherDefault.{BuildHasherDefault}
use Rattle.std.specs.HashMap.{get, HashMap}
use Rattle.vd_gram.specs.declared.tables.Production.{Production}
use Rattle.vd_gram.specs.declared.tables.Table.{Table}
use Rattle.vd_gram.specs.declared.stack.Pending.{Pending}
use Rattle.vd_gram.specs.declared.steps.Step.{Step}
use Rattle.vd_gram.specs.declared.steps.Step.TheVariants.{Leaf, Node}
use Rattle.vd_gram.specs.Claims.{has, is_terminal, is_known, firsts_of, follow_of, signs_of, can_all_be_empty, end_symbol}
use Rattle.vd_gram.specs.Derivations.{Trees, nothing, leaf, node, yield, tree_count, Derive, IsDerivation, with_end, mark_of, depth_before}
use Rattle.vd_gram.specs.Pending.{symbols_of}

-- the production is one of the nonterminal, and the symbol tells that it comes next
pub record IsChoice (t : Table) (nonterminal sign production : ℕ) : Type 0 where
  pub chosen : Production
  pub at : slice_get t.productions.now production ≡ Some chosen
  pub left : chosen.left ≡ nonterminal
  pub told : has (signs_of t chosen) sign ≡ true

-- the symbols that can stand behind, where a text has to give these symbols still, and then to end
abbrev pub behind : Table → List ℕ → List ℕ
behind t symbols = firsts_of t symbols ++ (if can_all_be_empty t symbols then end_symbol ∷ [] else [])

-- what can stand behind each nonterminal of these symbols is claimed to follow it
abbrev pub AreFollowed : Table → List ℕ → Type 0
AreFollowed t [] = Unit {0}
AreFollowed t (s ∷ ss) =
    (is_terminal t s ≡ false → (x : ℕ) → has (behind t ss) x ≡ true → has (follow_of t s) x ≡ true) × AreFollowed t ss

-- ---- depth

-- how many marked nodes stand above one another in the trees of symbols to come, those above the symbols counted too, among the
-- nodes in front of which fewer than so many leaves stand
abbrev pub deepest : Table → ℕ → List Pending → Trees → ℕ
deepest t begun [] trees = 0
deepest t begun (q ∷ qs) nothing = 0
deepest t begun (q ∷ qs) (leaf symbol place next) = deepest t (begun - 1) qs next
deepest t begun (q ∷ qs) (node production parts next) =
    if nat_eq begun 0 then 0
    else max (q.depth + mark_of t production + depth_before t begun parts) (deepest t (begun - length (yield parts)) qs next)

-- ---- the steps of a derivation

abbrev pub steps_of : Trees → List Step
steps_of nothing = []
steps_of (leaf symbol place next) = Leaf symbol place ∷ steps_of next
steps_of (node production parts next) = Node production (tree_count parts) ∷ (steps_of parts ++ steps_of next)

abbrev pub step_places : List Step → List ℕ
step_places [] = []
step_places (Leaf symbol place ∷ steps) = place ∷ step_places steps
step_places (Node production parts ∷ steps) = step_places steps

-- ---- a reading

-- the trees `rest` are what is still to come of a tree, where `taken` symbols of `text` were taken and `above` is how many
-- marked nodes stood above one another so far. The nodes that have begun before `seen` symbols count
pub record Leaves (t : Table) (text : List ℕ) (taken seen : ℕ) (pending : List Pending) (above : ℕ) (tree rest : Trees) : Type 0 where
  pub yields : with_end (yield tree) ≡ take taken text ++ with_end (yield rest)
  pub depths : (begun : ℕ) → seen ≤ begun → depth_before t begun tree ≡ max above (deepest t (begun - taken) pending rest)

-- a derivation that such trees complete
pub record Completed (t : Table) (text : List ℕ) (taken seen : ℕ) (pending : List Pending) (steps : List Step) (above : ℕ) (rest : Trees) : Type 0 where
  pub tree : Trees
  pub derived : IsDerivation t tree
  pub steps_are : steps_of tree ≡ steps ++ steps_of rest
  pub leaves : Leaves t text taken seen pending above tree rest

-- such trees of a derivation
pub record Remains (t : Table) (text : List ℕ) (taken seen : ℕ) (pending : List Pending) (above : ℕ) (tree : Trees) : Type 0 where
  pub rest : Trees
  pub derived : Derive t (symbols_of pending) rest
  pub leaves : Leaves t text taken seen pending above tree rest

-- a reader has taken the first symbols of a text and waits for others, and has looked at the first `seen` symbols. Whatever
-- the symbols to come derive completes a derivation, and every derivation with the seen symbols at its front goes on so
pub record IsReading (t : Table) (text : List ℕ) (taken seen : ℕ) (pending : List Pending) (steps : List Step) (above : ℕ) : Type 0 where
  pub followed : AreFollowed t (symbols_of pending)
  pub known : list_all (is_known t) (symbols_of pending) ≡ true
  pub placed : step_places steps ≡ range_with_len 0 taken
  pub fill : (rest : Trees) → Derive t (symbols_of pending) rest → Completed t text taken seen pending steps above rest
  pub only : (tree : Trees) (more : List ℕ) → IsDerivation t tree → with_end (yield tree) ≡ take seen text ++ more
      → Remains t text taken seen pending above tree

-- no derivation with some of the first symbols at its front has nodes too deep that have begun before them
pub record IsShallow (t : Table) (text : List ℕ) (taken deep : ℕ) : Type 0 where
  pub shallow : (tree : Trees) (begun : ℕ) (more : List ℕ) → begun ≤ taken → IsDerivation t tree
      → with_end (yield tree) ≡ take begun text ++ more → depth_before t begun tree ≤ deep

-- ---- which production comes next

abbrev pub tells : Table → ℕ → ℕ → Production → Bool
tells t nonterminal sign p = nat_eq p.left nonterminal && has (signs_of t p) sign

-- the symbol tells of no production of the nonterminal
pub record IsNoChoice (t : Table) (nonterminal sign : ℕ) : Type 0 where
  pub none : (production : ℕ) → IsChoice t nonterminal sign production → ⊥

-- each production that a map has for a nonterminal and a symbol is the one of which the symbol tells
abbrev pub AreChoices : Table → HashMap ℕ ℕ (BuildHasherDefault FoldHasher) → Type 0
AreChoices t known =
    (nonterminal sign production : ℕ) → sign < 65536 → get nat_eq known (nonterminal * 65536 + sign) ≡ Some production
    → IsChoice t nonterminal sign production

-- what a map has for a nonterminal and a symbol of which some production is told
abbrev pub IsKnown : HashMap ℕ ℕ (BuildHasherDefault FoldHasher) → ℕ → ℕ → Option ℕ → Type 0
IsKnown known nonterminal sign None = Unit {0}
IsKnown known nonterminal sign (Some production) = get nat_eq known (nonterminal * 65536 + sign) ≡ Some production
