-- Lengths of what is written.
use Rattle.std.specs.Prelude.{◌≡◌, ◌&&◌, Bool, List, None, Option, Some, if◌then◌else◌, ◌+◌, ℕ}
use Rattle.vd_bound_rules.specs.declared.written.TypeLength.{TypeLength}
use Rattle.vd_bound_rules.specs.declared.written.Written.{Written as WrittenLength}
use Rattle.vd_bound_rules.specs.declared.written.Written.TheVariants as code
use Rattle.vd_composites.specs.declared.ranges.Bounds.{Bounds}
use Rattle.vd_environments.specs.Environments.{Indicated}
use Rattle.vd_environments.specs.Got.{Got}
use Rattle.vd_value_rules.specs.Bounds.{NotAsked, WithLength, Written, sum_of_lengths}
use Rattle.vd_value_rules.specs.Choices.{are_all_got, is_array, those_got}
use Rattle.vd_value_rules.specs.Lengths.{static_length}
use Rattle.vd_value_rules.specs.Standings.{is_bounded_indicated}

abbrev pub read_written : WrittenLength → Written
read_written (code.WithLength length) = WithLength length
read_written code.NotAsked = NotAsked

-- how many values some choices stand for, where all are known
abbrev pub length_got : List (Got Bounds) → Option ℕ
length_got gs = if are_all_got gs then Some (sum_of_lengths (those_got gs)) else None

abbrev pub one_more : Bool → ℕ → ℕ
one_more is_one n = if is_one then n + 1 else n

-- whether a subtype is of arrays with bounds, and its length where that is known
pub record IsTypeLength (x : TypeLength) (i : Indicated) : Type 0 where
  pub bounded : (is_array i.subtype && is_bounded_indicated i) ≡ x.is_bounded
  pub length : static_length i ≡ x.length
