-- What is made from what evaluations give is what the rules define.
use Rattle.std.proofs.Common.{◌≡◌, Err, List, Ok, refl, ℕ}
use Rattle.vd_composites.specs.Stops.{◌>>=◌}
use Rattle.vd_composites.specs.Subtypes.{constrained}
use Rattle.vd_composites.specs.declared.ranges.Bounds.{Bounds}
use Rattle.vd_composites.specs.declared.scalars.ScalarType.{ScalarType}
use Rattle.vd_environments.specs.Environments.{Env, Indicated, Static}
use Rattle.vd_environments.specs.Got.{Got, got}
use Rattle.vd_value_rules.specs.Found.{found, range_found}
use Rattle.vd_value_rules.specs.Made.{narrowed_by, ranging}
use Rattle.vd_meaning.specs.Declarations.{constrained_array}
use Rattle.vd_meaning.specs.Facets.{Meaning}
use Rattle.vd_value_rules.specs.Knowledge.{array_or_later, constrained_by, early_range, or_later}

narrowed_found : (g : Got Bounds) (known : Static) (i : Indicated)
    → or_later (g >>= λ b. got (constrained i.subtype b)) known i ≡ narrowed_by (found g) known i
narrowed_found (Ok b) known i = refl
narrowed_found (Err halt) known i = refl

pub constrained_by_found : (m : Meaning) (e : Env) (i : Indicated) → constrained_by m e i ≡ narrowed_by (found (early_range m e)) (m.known e) i
constrained_by_found m e i = narrowed_found (early_range m e) (m.known e) i

pub ranging_found : (of_type : Got ScalarType) (range : Got Bounds) (literals : List (List ℕ)) (known : Static) (element : Indicated)
    → array_or_later (of_type >>= λ t. range >>= λ b. Ok (constrained_array t b literals known element)) known element
    ≡ array_or_later (ranging (range_found of_type range) literals known element) known element
ranging_found (Ok t) (Ok b) literals known element = refl
ranging_found (Ok t) (Err halt) literals known element = refl
ranging_found (Err halt) range literals known element = refl
