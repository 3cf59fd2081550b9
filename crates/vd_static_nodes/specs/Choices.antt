-- Choices, by what is known of their nodes. (IEEE 1076, aggregates; static expressions.)
use Rattle.std.specs.Prelude.{List, None, Option, Some, map, ℕ}
use Rattle.vd_environments.specs.Environments.{Static, all_static, always}
use Rattle.vd_value_rules.specs.Indicated.{static_of}
use Rattle.vd_static_values.specs.declared.nodes.Node.{Node}

-- a choice without a type makes nothing less static
abbrev pub known_with : Option ℕ → Static → Static
known_with None known = always
known_with (Some mark) known = known

abbrev pub known_among : List Node → Static
known_among xs = all_static (map (λ x. known_with x.sense.mark (static_of x.sense.known)) xs)

-- what each of them names
abbrev pub named_among : List Node → List (Option ℕ)
named_among xs = map (λ x. x.sense.declaration) xs
