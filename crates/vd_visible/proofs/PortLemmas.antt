-- Ports that are looked up first.
use Rattle.std.proofs.Common.{◌≡◌, ℕ, Bool, true, false, List, ◌∷◌, Option, Some, None, refl}
use Rattle.std.specs.Bool.{if◌then◌else◌}
use Rattle.std.specs.Option.{option_or}
use Rattle.vd_regions.specs.Scopes.{Scopes, declaration_at}
use Rattle.vd_visible.specs.Sights.{is_port, oldest_port}

either : {T : Type 0} (b : Bool) (x : T) (older found : Option T)
    → option_or (option_or older (if b then Some x else None)) found ≡ option_or older (if b then Some x else found)
either b x (Some y) found = refl
either true x None found = refl
either false x None found = refl

-- one declaration is looked at
pub port_step : (s : Scopes) (k : ℕ) (older : List ℕ) (found : Option ℕ)
    → option_or (oldest_port s (k ∷ older)) found ≡ option_or (oldest_port s older) (if is_port (declaration_at s k).class then Some k else found)
port_step s k older found = either (is_port (declaration_at s k).class) k (oldest_port s older) found
