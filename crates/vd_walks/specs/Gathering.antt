-- All answers of the nodes of a forest, in the order of its text.
use Rattle.std.specs.Prelude.{List, [], ◌∷◌, ◌++◌, Option, Some, None}
use Rattle.vd_forest.specs.Forest.{Forest, nothing, more}
use Rattle.vd_walks.specs.Finding.{Finder}

-- the answer in front, where there is one
abbrev pub with_answer : {A : Type 0} → Option A → List A → List A
with_answer None answers = answers
with_answer (Some a) answers = a ∷ answers

-- The answers of a forest whose first tree has the state: a node's own, then those of its parts, then those of the trees after it.
abbrev pub all_found : {F S A : Type 0} → Finder F S A → S → Forest F → List A
all_found finder state nothing = []
all_found finder state (more form text place parts next) =
    with_answer (finder.answer state form text place parts)
    (all_found finder (finder.down state form text place parts) parts
    ++ all_found finder (finder.along state form text place parts) next)
