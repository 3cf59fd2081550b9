-- What is locally static, and what is where it doesn't stop.
use Rattle.std.proofs.Common.{◌≡◌, ◌&&◌, ◌∙◌, Bool, None, Option, Some, ap, false, is_some, not, refl, sym, true}
use Rattle.vd_environments.specs.Environments.{Static}
use Rattle.vd_environments.specs.Got.{Got, is_got}
use Rattle.vd_value_rules.specs.Indicated.{static_of}
use Rattle.vd_value_rules.specs.declared.statics.StaticSort.{StaticSort}
use Rattle.vd_meaning.specs.Names.{unless_stopped}
use Rattle.vd_static_values.specs.Entries.{IsFound}

not_both : (b : Bool) → not b ≡ true → b ≡ true → ⊥
not_both true unlike like = cc
not_both false unlike like = cc

-- what isn't locally static
pub not_local : (k : StaticSort) (s : Static) → static_of k ≡ s → not k.is_local ≡ true → s.is_local ≡ true → ⊥
not_local k s same unlike like = not_both k.is_local unlike (ap (λ (t : Static). t.is_local) same ∙ like)

local_by : {A : Type 0} (local : Bool) (v : Option A) (g : Got A) → (local ≡ true → IsFound v g) → (local && is_some v) ≡ (local && is_got g)
local_by false v g found = refl
local_by true None g found = sym (found refl)
local_by true (Some x) g found = sym (ap is_got (found refl))

-- how static something is unless it stops
pub unless_found : {A : Type 0} (v : Option A) (g : Got A) (b : Bool) (k made : StaticSort) (s : Static) → (s.is_local ≡ true → IsFound v g) → b ≡ is_some v
    → static_of k ≡ s → made ≡ record { is_local = k.is_local && b; is_global = k.is_global } → static_of made ≡ unless_stopped g s
unless_found v g b k made s found some same is =
    ap static_of is
    ∙ (λ i. record { is_local = (same i).is_local && some i; is_global = (same i).is_global })
    ∙ (λ i. record { is_local = local_by s.is_local v g found i; is_global = s.is_global })
