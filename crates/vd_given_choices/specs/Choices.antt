-- Choices, with what is known of them when the text is analysed.
use Rattle.std.specs.Prelude.{◌≡◌, ◌∷◌, List, Ok, [], false, true}
use Rattle.vd_composites.specs.Composites.{Value}
use Rattle.vd_composites.specs.Stops.{◌>>=◌}
use Rattle.vd_composites.specs.declared.ranges.Bounds.{Bounds}
use Rattle.vd_environments.specs.Got.{Got}
use Rattle.vd_given_choices.specs.declared.choices.Choice.{Choice}
use Rattle.vd_static_values.specs.Entries.{IsFound}
use Rattle.vd_meaning.specs.Names.{position_in}
use Rattle.vd_value_rules.specs.Choices.{Given}
use Rattle.vd_values.specs.declared.scalar.Scalar.{Scalar}

-- the range from a scalar value to itself
abbrev pub range_to_itself : Value Scalar → Got Bounds
range_to_itself v = position_in v >>= λ i. Ok (record { left = i; right = i; down = false })

pub record IsChoice (x : Choice) (g : Given) : Type 0 where
  pub place : g.place ≡ x.place
  pub static : g.is_static ≡ x.is_static
  pub mark : g.mark ≡ x.mark
  pub range : x.is_static ≡ true → IsFound x.range g.range
  pub value : x.is_static ≡ true → IsFound x.value g.value

abbrev pub AreChoices : List Choice → List Given → Type 0
AreChoices [] [] = Unit {0}
AreChoices (x ∷ xs) (g ∷ gs) = IsChoice x g × AreChoices xs gs
AreChoices _ _ = ⊥
