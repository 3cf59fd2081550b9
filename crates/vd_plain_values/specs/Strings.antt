-- Literals in quotation marks. (IEEE 1076, string literals.)
use Rattle.std.specs.Prelude.{◌≡◌, ℕ, List, [], map, Option, Some, None, Result, Ok, Err, Vec}
use Rattle.std.specs.Global.{Global}
use Rattle.vd_values.specs.declared.scalar.Scalar.{Scalar}
use Rattle.vd_values.specs.declared.scalar.StopKind.{StopKind}
use Rattle.vd_forest.specs.Forest.{Forest}
use Rattle.vd_composites.specs.Stops.{OrStop, ◌>>=◌}
use Rattle.vd_composites.specs.Parts.{misshapen}
use Rattle.vd_composites.specs.Composites.{Value, items_of}
use Rattle.vd_composites.specs.Concatenations.{positional}
use Rattle.vd_subtypes.specs.Positional.{positional_by}
use Rattle.vd_environments.specs.Got.{Got, got, all_got, senseless, stop}
use Rattle.vd_environments.specs.Environments.{Env}
use Rattle.vd_meaning.specs.Literals.{character, literals_at, position_from, string}
use Rattle.vd_meaning.specs.Names.{number_or}
use Rattle.vd_meaning.specs.Operators.{marked}
use Rattle.vd_plain_values.specs.declared.environment.SubtypeForm.{SubtypeForm}
use Rattle.vd_plain_values.specs.declared.environment.ArrayHead.{ArrayHead}
use Rattle.vd_plain_values.specs.Plain.{texts_in, subtype_in, array_in, element_literals_in}

abbrev pub texts_of : Option (Forest SubtypeForm) → List (List ℕ)
texts_of None = []
texts_of (Some f) = texts_in f

abbrev pub place_found : Option ℕ → Got ℕ
place_found None = senseless
place_found (Some n) = Ok n

-- the places of characters among literals
abbrev pub places_in : List (List ℕ) → List ℕ → Got (List ℕ)
places_in ls cs = all_got (map (λ c. position_from 0 ls (character c)) cs)

abbrev pub ArePlaces : Result (Vec ℕ Global) StopKind → Got (List ℕ) → Type 0
ArePlaces (Ok ns) g = g ≡ Ok ns.items
ArePlaces (Err k) g = g ≡ stop k

abbrev pub array_by : Option ArrayHead → List ℕ → OrStop (Value Scalar)
array_by None ns = misshapen
array_by (Some a) ns = positional_by a.index a.element (items_of (literals_at ns))

abbrev pub array_in_places : Forest SubtypeForm → List ℕ → OrStop (Value Scalar)
array_in_places f ns = array_by (array_in (subtype_in f)) ns

abbrev pub string_in : Forest SubtypeForm → List ℕ → Got (Value Scalar)
string_in f text = places_in (element_literals_in f) text >>= λ ns. got (positional (subtype_in f) (items_of (literals_at ns)))

-- a literal of a type
abbrev pub string_of : Option ℕ → Env → List ℕ → Got (Value Scalar)
string_of mark e text = marked mark e >>= λ s. string s (e.denotes (number_or mark)).make text
