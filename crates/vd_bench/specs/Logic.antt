-- A small logic: a pass without states, a pass with them, and a meaning.
use Rattle.std.specs.Prelude.{ℕ, ◌+◌, Bool, true, false, not, [], ◌∷◌, min, if◌then◌else◌}
use Rattle.vd_forest.specs.Forest.{Forest, nothing, more}
use Rattle.vd_rewriting.specs.Folding.{Meaning}
use Rattle.vd_rewriting.specs.Inheriting.{Rules}
use Rattle.vd_rewriting.specs.Rewriting.{Pass}
use Rattle.vd_bench.specs.declared.logic.Form.{Form}
use Rattle.vd_bench.specs.declared.logic.Form.TheVariants.{Not, And, Or, Name}

-- ---- a negation of a negation is what that negates

-- what the first tree negates, where it is a negation
abbrev pub negated : Forest Form → Forest Form
negated nothing = nothing
negated (more Not text place parts next) = parts
negated (more form text place parts next) = nothing

-- the first tree of a forest before the trees after it, or another where there is none
abbrev pub first_or : Forest Form → Forest Form → Forest Form → Forest Form
first_or nothing other next = other
first_or (more form text place parts rest) other next = more form text place parts next

abbrev pub without_pairs : Pass Form Form
without_pairs Not text place parts new next = first_or (negated new) (more Not text place new next) next
without_pairs form text place parts new next = more form text place new next

-- ---- negations stand at names alone: the state says whether a tree is negated from outside

abbrev pub flipped : Bool → Form → Bool
flipped negated Not = not negated
flipped negated form = negated

abbrev pub settled : Bool → Pass Form Form
settled negated Not text place parts new next = first_or new (more Not text place new next) next
settled negated And text place parts new next = more (if negated then Or else And) text place new next
settled negated Or text place parts new next = more (if negated then And else Or) text place new next
settled true Name text place parts new next = more Not [] place (more Name text place new nothing) next
settled false Name text place parts new next = more Name text place new next

abbrev pub settling : Rules Form Form Bool
settling = record { down = λ negated form text place parts. flipped negated form; along = λ negated form text place parts. negated; pass = settled }

-- ---- how many nodes stand above one another, down by first parts

abbrev pub depth : Meaning Form ℕ
depth form text place [] = 1
depth form text place (below ∷ others) = min (below + 1) 4294967295
