-- Expressions in postfix form: each node stands behind its parts, and a stack holds the values so far. (IEEE 1076, expressions.)
use Rattle.std.specs.Prelude.{ℕ, ◌-◌, List, [], ◌∷◌, ◌++◌, length, take, drop, slice_index_or}
use Rattle.vd_forest.specs.Forest.{Forest, nothing, more, tree_count}
use Rattle.vd_first_trees.specs.declared.form.Form.{Form}
use Rattle.vd_values.specs.declared.logic.Logic.{Logic}
use Rattle.vd_values.specs.declared.logic.Logic.TheVariants.{X}
use Rattle.vd_first_elaboration.specs.Expressions.{node_value}
use Rattle.vd_first_processes.specs.declared.expressions.Operation.{Operation}

-- a node: its form, the number of the object that its own text names, and how many parts it has
abbrev pub operation_of : (List ℕ → ℕ) → Form → List ℕ → Forest Form → Operation
operation_of numbers f t parts = record { form = f; object = numbers t; parts = tree_count parts }

-- the postfix form of some expressions, where the objects of names have these numbers
abbrev pub operations : (List ℕ → ℕ) → Forest Form → List Operation
operations numbers nothing = []
operations numbers (more f t p parts next) = operations numbers parts ++ operation_of numbers f t parts ∷ operations numbers next

-- how many values stay on a stack of so many, where an operation takes some
abbrev pub left_below : List Logic → Operation → ℕ
left_below stack o = length stack - o.parts

-- an operation takes the values of its parts, the last ones, and puts its own in their place
abbrev pub after_operation : (ℕ → Logic) → List Logic → Operation → List Logic
after_operation objects stack o =
    take (left_below stack o) stack ++ node_value o.form (objects o.object) (drop (left_below stack o) stack) ∷ []

-- the stack after some operations, where objects have these values
abbrev pub after_operations : (ℕ → Logic) → List Logic → List Operation → List Logic
after_operations objects stack [] = stack
after_operations objects stack (o ∷ os) = after_operations objects (after_operation objects stack o) os

-- the value of the first of the expressions that these operations stand for
abbrev pub value_of : (ℕ → Logic) → List Operation → Logic
value_of objects os = slice_index_or (after_operations objects [] os) 0 X
