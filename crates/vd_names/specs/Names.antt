-- Names in the text that is written: those that are used, and those with a number behind them.
use Rattle.std.specs.Prelude.{◌≡◌, ◌≤◌, ◌<◌, ℕ, Bool, true, false, List, ◌∷◌, ◌++◌}
use Rattle.std.specs.Fmt.{decimal}
use Rattle.indexmap.specs.IndexSet.{contains}
use Rattle.vd_region_tables.specs.declared.keys.Name.{Name}
use Rattle.vd_region_tables.specs.Tables.{same_name}
use Rattle.vd_names.specs.declared.fresh.Fresh.{Fresh}
use Rattle.vd_names.specs.declared.used.Used.{Used}

abbrev pub is_used : Used → Name → Bool
is_used used key = contains same_name used.names key

-- a name, an underscore (95) and a number
abbrev pub numbered : List ℕ → ℕ → List ℕ
numbered wanted number = wanted ++ 95 ∷ decimal number

-- with this number behind it a name is used
pub record IsUsedAt (used : Used) (wanted : List ℕ) (number : ℕ) : Type 0 where
  pub name : Name
  pub is : name.bytes.items ≡ numbered wanted number
  pub used_already : is_used used name ≡ true

-- with each number from a first one up to another it is
pub record AreUsed (used : Used) (wanted : List ℕ) (first end : ℕ) : Type 0 where
  pub each : (k : ℕ) → first ≤ k → k < end → IsUsedAt used wanted k

-- the name with the least number behind it, from a first one on, that isn't used
pub record IsFresh (used : Used) (wanted : List ℕ) (first : ℕ) (made : Fresh) : Type 0 where
  pub from : first ≤ made.number
  pub is : made.name.bytes.items ≡ numbered wanted made.number
  pub free : is_used used made.name ≡ false
  pub least : AreUsed used wanted first made.number
