-- Passes that make each node anew.
use Rattle.std.specs.Prelude.{◌≡◌, ℕ, List, ◌∷◌}
use Rattle.vd_bytes.specs.declared.places.Place.{Place}
use Rattle.vd_forest.specs.Forest.{Forest, nothing, more}
use Rattle.vd_rewriting.specs.Folding.{Meaning, folded}

-- A pass: what a node and the trees after it become. It is given the node's form, text and place, its parts as they were and as
-- they are rewritten, and the trees after the node, rewritten.
abbrev pub Pass : Type 0 → Type 0 → Type 0
Pass F G = F → List ℕ → Place → Forest F → Forest G → Forest G → Forest G

-- the forest, each node of which the pass has made anew
abbrev pub rewritten : {F G : Type 0} → Pass F G → Forest F → Forest G
rewritten pass nothing = nothing
rewritten pass (more form text place parts next) = pass form text place parts (rewritten pass parts) (rewritten pass next)

-- the pass that leaves each node as it is
abbrev pub same_pass : {F : Type 0} → Pass F F
same_pass form text place parts new next = more form text place new next

-- ---- the law of meanings

-- At each node the pass makes trees that mean what the node meant and the trees after it mean, wherever the new parts mean what the
-- parts meant.
abbrev pub KeepsNodes : {F G M : Type 0} → Meaning F M → Meaning G M → Pass F G → Type 0
KeepsNodes {F} {G} before after pass =
    (form : F) (text : List ℕ) (place : Place) (parts : Forest F) (new next : Forest G)
    → folded after new ≡ folded before parts
    → folded after (pass form text place parts new next) ≡ before form text place (folded before parts) ∷ folded after next

-- each forest means what it meant
abbrev pub KeepsMeanings : {F G M : Type 0} → Meaning F M → Meaning G M → Pass F G → Type 0
KeepsMeanings {F} before after pass = (f : Forest F) → folded after (rewritten pass f) ≡ folded before f
