-- Forests of other forms. Trees that carry more at a node than others do, as those of names that are resolved, stand on these
-- others by such a change.
use Rattle.vd_forest.specs.Forest.{Forest, nothing, more}
use Rattle.vd_rewriting.specs.Folding.{Meaning}
use Rattle.vd_rewriting.specs.Rewriting.{Pass}

-- the forest with another form at each node
abbrev pub with_forms : {F G : Type 0} → (F → G) → Forest F → Forest G
with_forms change nothing = nothing
with_forms change (more form text place parts next) =
    more (change form) text place (with_forms change parts) (with_forms change next)

-- the pass that changes forms
abbrev pub forms_pass : {F G : Type 0} → (F → G) → Pass F G
forms_pass change form text place parts new next = more (change form) text place new next

-- a meaning of the one forms as one of the others
abbrev pub meaning_of_forms : {F G M : Type 0} → (F → G) → Meaning G M → Meaning F M
meaning_of_forms change meaning form text place parts = meaning (change form) text place parts
