-- Literals in quotation marks.
use Rattle.std.proofs.Common.{Err, List, Ok, Option, ap, false, refl, subst, sym, ℕ, ◌∙◌, ◌≡◌}
use Rattle.vd_composites.specs.Composites.{Value, items_of}
use Rattle.vd_composites.specs.Concatenations.{positional}
use Rattle.vd_composites.specs.Stops.{OrStop, ◌>>=◌}
use Rattle.vd_composites.specs.Subtypes.{Subtype}
use Rattle.vd_environments.specs.Environments.{Make, element_make, literals_of}
use Rattle.vd_environments.specs.Got.{Got, got, is_got}
use Rattle.vd_meaning.specs.Literals.{literals_at, string}
use Rattle.vd_plain_values.proofs.StringLemmas.{positional_same}
use Rattle.vd_plain_values.specs.Plain.{array_in}
use Rattle.vd_plain_values.specs.Strings.{array_by, places_in}
use Rattle.vd_plain_values.specs.declared.environment.ArrayHead.{ArrayHead}
use Rattle.vd_static_values.specs.Entries.{IsFound}
use Rattle.vd_values.specs.declared.scalar.Scalar.{Scalar}

pub string_is : (s : Subtype) (make : Make) (text ns : List ℕ) (array : Option ArrayHead) (r : OrStop (Value Scalar)) (x : Option (Value Scalar))
    → places_in (literals_of (element_make make)) text ≡ Ok ns → array_in s ≡ array → r ≡ array_by array ns → IsFound x (got r) → IsFound x (string s make text)
string_is s make text ns array r x places head is there =
    subst (λ g. IsFound x g)
    (sym (ap (λ g. g >>= λ ms. got (positional s (items_of (literals_at ms)))) places ∙ ap got (positional_same s ns ∙ ap (λ a. array_by a ns) head ∙ sym is))) there

stopped : (g : Got (List ℕ)) (f : List ℕ → Got (Value Scalar)) → is_got g ≡ false → is_got (g >>= f) ≡ false
stopped (Ok ns) f stops = absurd cc
stopped (Err halt) f stops = refl

pub string_stops : (s : Subtype) (make : Make) (text : List ℕ) → is_got (places_in (literals_of (element_make make)) text) ≡ false → is_got (string s make text) ≡ false
string_stops s make text stops = stopped (places_in (literals_of (element_make make)) text) (λ ns. got (positional s (items_of (literals_at ns)))) stops
