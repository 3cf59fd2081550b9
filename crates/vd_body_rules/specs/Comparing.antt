-- What is left to compare of two forests.
use Rattle.std.specs.Prelude.{Bool, List, false, true, ℕ, ◌&&◌, ◌*◌, ◌+◌}
use Rattle.vd_body_rules.specs.declared.same.Both.{Both}
use Rattle.vd_body_rules.specs.declared.same.Compared.{Compared}
use Rattle.vd_body_rules.specs.declared.same.Compared.TheVariants.{Different, Further, Nothing}
use Rattle.vd_forest.specs.Forest.{size}
use Rattle.vd_value_rules.specs.Bodies.{say_same}

abbrev pub is_left_same : List (ℕ × ℕ) → Compared → Bool
is_left_same ps Nothing = true
is_left_same ps Different = false
is_left_same ps (Further parts next) = say_same ps parts.one parts.other && say_same ps next.one next.other

-- the steps that are left
abbrev pub work : Both → ℕ
work b = 2 * size b.one + 1

abbrev pub work_left : Compared → ℕ
work_left Nothing = 0
work_left Different = 0
work_left (Further parts next) = work parts + work next
