-- Places where an expression is only evaluated, as an operand or the value of an assignment. What stands there may be written in another way that has
-- the same value. (IEEE 1076, expressions; assignments; aggregates; function calls.)
use Rattle.std.specs.Prelude.{ℕ, zero, suc, Bool, true, false, List, [], ◌∷◌, map}
use Rattle.vd_resolved.specs.declared.node.Resolved.{Resolved}
use Rattle.vd_meaning.specs.Tables.{Table, Role, FunctionRole, role_of, followed}
use Rattle.vd_meaning.specs.Operators.{Operation, Edge}
use Rattle.vd_meaning.specs.Names.{number_or}
use Rattle.vd_meaning.specs.Facets.{Meaning, no_meaning}
use Rattle.vd_meaning.specs.Brackets.{operation_called}
use Rattle.vd_meaning.specs.Kinds

-- what is seen of a part at such a place: its value, how static it is and what it reads, and how it is associated
abbrev pub as_value : Meaning → Meaning
as_value m =
    record no_meaning {
      is_present = m.is_present;
      value = m.value;
      known = m.known;
      reads = m.reads;
      association = m.association;
      choices = m.choices;
      is_open = m.is_open;
      chosen = m.chosen;
      targets = m.targets;
    }

-- parts of which the one of this number is seen so
abbrev pub seen_at : ℕ → List Meaning → List Meaning
seen_at k [] = []
seen_at zero (m ∷ ms) = as_value m ∷ ms
seen_at (suc k) (m ∷ ms) = m ∷ seen_at k ms

-- a function that looks at a signal, and not at a value
abbrev pub looks_at_signal : Operation → Bool
looks_at_signal (Edge rising) = true
looks_at_signal _ = false

-- behind the name of a function all arguments are only evaluated
abbrev pub seen_arguments : Role → Bool → List Meaning → List Meaning
seen_arguments FunctionRole false ms = map as_value ms
seen_arguments _ _ ms = ms

-- The parts of a node as it sees them: operands, elements in brackets and of generic maps, initial values and defaults, waveforms and values of
-- assignments with and without conditions, values that are returned, arguments of functions. All other parts it sees whole.
abbrev pub seen : Kinds.Kind → Table → Resolved → List Meaning → List Meaning
seen Kinds.Operator t n ms = map as_value ms
seen Kinds.Brackets t n ms = map as_value ms
seen Kinds.QualificationPiece t n ms = map as_value ms
seen Kinds.GenericActuals t n ms = map as_value ms
seen Kinds.ArgumentsPiece t n ms =
    seen_arguments (role_of t n.declaration) (looks_at_signal (operation_called t (followed t (number_or n.declaration)))) ms
seen Kinds.NewConstants t n ms = seen_at 2 ms
seen Kinds.NewVariables t n ms = seen_at 2 ms
seen Kinds.NewSignals t n ms = seen_at 2 ms
seen Kinds.NewPorts t n ms = seen_at 4 ms
seen Kinds.NewGenerics t n ms = seen_at 4 ms
seen Kinds.Delayed t n ms = seen_at 0 ms
seen Kinds.Conditional t n ms = seen_at 0 (seen_at 2 ms)
seen Kinds.Guarded t n ms = seen_at 0 ms
seen Kinds.AssignSignal t n ms = seen_at 2 ms
seen Kinds.AssignConcurrently t n ms = seen_at 2 ms
seen Kinds.AssignVariable t n ms = seen_at 1 ms
seen Kinds.SelectedAlternative t n ms = seen_at 0 ms
seen Kinds.Giving t n ms = seen_at 0 ms
seen _ t n ms = ms

-- The parts of a node that is only evaluated itself. Of an association then no more counts of the expression in it.
abbrev pub seen_within : Kinds.Kind → Table → Resolved → List Meaning → List Meaning
seen_within Kinds.Associated t n ms = seen_at 1 ms
seen_within Kinds.AssociatedOthers t n ms = seen_at 0 ms
seen_within k t n ms = seen k t n ms
