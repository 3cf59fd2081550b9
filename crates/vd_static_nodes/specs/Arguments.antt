-- The arguments of a call, by what is known of the elements of a list in brackets. (IEEE 1076, function calls; association lists.)
use Rattle.std.specs.Prelude.{◌∷◌, Bool, List, None, Option, Some, [], if◌then◌else◌, suc, zero, ℕ}
use Rattle.std.specs.List.{find, list_any}
use Rattle.vd_composites.specs.Composites.{Value}
use Rattle.vd_meaning.specs.Brackets.{is_positional, or_else}
use Rattle.vd_meaning.specs.Tables.{same_type}
use Rattle.vd_static_values.specs.Senses.{association_of}
use Rattle.vd_static_values.specs.declared.nodes.Node.{Node}
use Rattle.vd_values.specs.declared.scalar.Scalar.{Scalar}

abbrev pub is_parameter : ℕ → Option ℕ → Bool
is_parameter p named = same_type named (Some p)

-- the element that names a parameter
abbrev pub element_naming : ℕ → List Node → Option Node
element_naming p xs = find (λ x. list_any (is_parameter p) x.sense.choices.items) xs

-- the element at a position, where it and all in front of it name nothing
abbrev pub element_at : ℕ → List Node → Option Node
element_at n [] = None
element_at zero (x ∷ xs) = if is_positional (association_of x.sense.association) then Some x else None
element_at (suc n) (x ∷ xs) = if is_positional (association_of x.sense.association) then element_at n xs else None

abbrev pub argument_for : ℕ → ℕ → List Node → Option Node
argument_for k p xs = or_else (element_naming p xs) (element_at k xs)

abbrev pub value_in : Option Node → Option (Value Scalar)
value_in None = None
value_in (Some x) = x.sense.value

-- the values in the order of the parameters, of which the next one has this number
abbrev pub values_for : ℕ → List ℕ → List Node → List (Option (Value Scalar))
values_for k [] xs = []
values_for k (p ∷ ps) xs = value_in (argument_for k p xs) ∷ values_for (suc k) ps xs
