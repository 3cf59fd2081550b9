-- Values by names, as a map has them, whose keys are read as texts; and modes as a list of elements has them, of which the first counts.
use Rattle.std.specs.Prelude.{List, None, Option, Some, [], bytes_eq, if◌then◌else◌, ℕ, ◌∷◌}
use Rattle.std.specs.Map.{lookup}
use Rattle.vd_port_lists.specs.declared.entries.ListedElement.{ListedElement}
use Rattle.vd_port_lists.specs.declared.modes.PortMode.{PortMode}

abbrev pub value_named : {K X : Type 0} → List (K × X) → (K → List ℕ) → List ℕ → Option X
value_named entries read name = lookup (λ key. bytes_eq name (read key)) entries

abbrev pub first_named : List ListedElement → List ℕ → Option PortMode
first_named [] name = None
first_named (x ∷ xs) name = if bytes_eq x.name name then Some x.mode else first_named xs name
