-- Lists that are there where no evaluation stops.
use Rattle.std.specs.Prelude.{List, None, Ok, Option, Some, Vec, false, ◌≡◌}
use Rattle.std.specs.Global.{Global}
use Rattle.vd_environments.specs.Got.{Got, is_got}

abbrev pub IsListFound : {A : Type 0} → Option (Vec A Global) → Got (List A) → Type 0
IsListFound None g = is_got g ≡ false
IsListFound (Some xs) g = g ≡ Ok xs.items
