-- How static an operator is: not locally where it stops.
use Rattle.std.proofs.Common.{◌≡◌, ◌&&◌, Bool, ap, false, not, refl, true, ◌∙◌}
use Rattle.vd_environments.specs.Environments.{Static}
use Rattle.vd_environments.specs.Got.{Got, is_got}
use Rattle.vd_value_rules.specs.Indicated.{static_of}
use Rattle.vd_value_rules.specs.declared.statics.StaticSort.{StaticSort}
use Rattle.vd_meaning.specs.Names.{unless_stopped}

late : {A : Type 0} (local : Bool) (g : Got A) → not local ≡ true → local ≡ (local && is_got g)
late true g is = absurd (cc)
late false g is = refl

-- what isn't locally static
pub unless_late : {A : Type 0} (k : StaticSort) (s : Static) (g : Got A) → static_of k ≡ s → not k.is_local ≡ true → static_of k ≡ unless_stopped g s
unless_late k s g same is = (λ i. record { is_local = late k.is_local g is i; is_global = k.is_global }) ∙ ap (unless_stopped g) same
