-- Passes in which each node has a state that comes from outside.
use Rattle.std.specs.Prelude.{ℕ, List, ◌∷◌}
use Rattle.vd_bytes.specs.declared.places.Place.{Place}
use Rattle.vd_forest.specs.Forest.{Forest, nothing, more}
use Rattle.vd_rewriting.specs.Folding.{Meaning, folded}
use Rattle.vd_rewriting.specs.Rewriting.{Pass, same_pass}

-- a state that a node hands on, given its own state, its form, text and place, and its parts
abbrev pub Handing : Type 0 → Type 0 → Type 0
Handing F S = S → F → List ℕ → Place → Forest F → S

-- A node hands one state down to the first of its parts and one along to the tree after it, and each state has its pass.
pub record Rules (F G S : Type 0) : Type 0 where
  pub down : Handing F S
  pub along : Handing F S
  pub pass : S → Pass F G

-- the forest, rewritten, where its first tree has the state
abbrev pub rewritten_under : {F G S : Type 0} → Rules F G S → S → Forest F → Forest G
rewritten_under rules state nothing = nothing
rewritten_under rules state (more form text place parts next) =
    rules.pass state form text place parts
    (rewritten_under rules (rules.down state form text place parts) parts)
    (rewritten_under rules (rules.along state form text place parts) next)

-- a pass that knows no state
abbrev pub rules_of : {F G : Type 0} → Pass F G → Rules F G (Unit {0})
rules_of pass = record { down = λ state form text place parts. state; along = λ state form text place parts. state; pass = λ state. pass }

abbrev pub same_rules : {F : Type 0} → Rules F F (Unit {0})
same_rules = rules_of same_pass

-- ---- the law of meanings

-- At each node old and new meanings are related, in a way that depends on the state, wherever they are related at the parts, under the
-- state that is handed down, and at the trees after the node, under the state that is handed along.
abbrev pub RelatesNodes : {F G S M N : Type 0} → Meaning F M → Meaning G N → (S → List M → List N → Type 0) → Rules F G S → Type 0
RelatesNodes {F} {G} {S} {M} before after related rules =
    (state : S) (form : F) (text : List ℕ) (place : Place) (parts : Forest F) (new next : Forest G) (rest : List M)
    → related (rules.down state form text place parts) (folded before parts) (folded after new)
    → related (rules.along state form text place parts) rest (folded after next)
    → related state (before form text place (folded before parts) ∷ rest) (folded after (rules.pass state form text place parts new next))

-- old and new meanings of each forest are related, under each state
abbrev pub RelatesMeanings : {F G S M N : Type 0} → Meaning F M → Meaning G N → (S → List M → List N → Type 0) → Rules F G S → Type 0
RelatesMeanings {F} {G} {S} before after related rules =
    (state : S) (f : Forest F) → related state (folded before f) (folded after (rewritten_under rules state f))
