-- Constraints of subtype indications, as they are known when the text is analysed.
use Rattle.std.specs.Prelude.{◌≡◌, None, Option, Some, false, true}
use Rattle.vd_environments.specs.Environments.{Env}
use Rattle.vd_value_rules.specs.Indicated.{static_of}
use Rattle.vd_value_rules.specs.Found.{found}
use Rattle.vd_known_indications.specs.declared.indications.Constraint.{Constraint}
use Rattle.vd_meaning.specs.Facets.{Meaning}
use Rattle.vd_value_rules.specs.Knowledge.{early_range}

-- its range, where that is locally static and doesn't stop
pub record IsConstraint (e : Env) (x : Constraint) (m : Meaning) : Type 0 where
  pub present : m.is_present ≡ true
  pub known : static_of x.known ≡ m.known e
  pub range : x.range ≡ found (early_range m e)

abbrev pub IsConstraintIn : Env → Option Constraint → Meaning → Type 0
IsConstraintIn e None m = m.is_present ≡ false
IsConstraintIn e (Some x) m = IsConstraint e x m
