-- What is known of the shape of an expression, in memory.
use Rattle.std.specs.Prelude.{◌≡◌}
use Rattle.vd_known_lengths.specs.declared.shapes.Shape.{Shape}
use Rattle.vd_value_rules.specs.Choices.{is_array, taken_by, taken_by_elements}
use Rattle.vd_value_rules.specs.Lengths.{Shaped}

pub record IsShape (x : Shape) (s : Shaped) : Type 0 where
  pub array : is_array s.indicated.subtype ≡ x.is_array
  pub length : s.length ≡ x.length
  pub taken : taken_by s.indicated ≡ x.taken
  pub elements : taken_by_elements s.indicated ≡ x.taken_by_elements
