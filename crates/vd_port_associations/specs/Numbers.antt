-- Sets of declarations, in memory.
use Rattle.std.specs.Prelude.{◌≡◌, List, is_some, nat_eq, ℕ}
use Rattle.std.specs.HashMap.{get}
use Rattle.vd_port_associations.specs.declared.numbers.NumberSet.{NumberSet}
use Rattle.vd_value_rules.specs.Designs.{is_listed}

-- those of a list, however often each stands there
abbrev pub Holds : NumberSet → List ℕ → Type 0
Holds set ns = (n : ℕ) → is_some (get nat_eq set.table n) ≡ is_listed n ns
