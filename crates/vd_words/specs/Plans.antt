-- A command over the words themselves.
use Rattle.std.specs.Prelude.{ℕ, List, [], Option, map, option_map, unwrap_or}
use Rattle.std.specs.Borrow.{Bor}
use Rattle.vd_words.specs.declared.plan.Plan.{Plan}
use Rattle.vd_words.specs.Commands.{Meaning}

-- the values of an argument, where it has some
abbrev pub given_values : Option (Bor (List (Bor (List ℕ)))) → List (List ℕ)
given_values values = unwrap_or (option_map (λ s. map (λ value. value.now) s.now) values) []

-- with its FILEs
abbrev pub meaning_of_plan : List (List ℕ) → Plan → Meaning
meaning_of_plan files p = record { mode = p.mode; top = p.top.now; cycles = p.cycles; units = p.units; tool_type = p.tool_type.now; files = files }
