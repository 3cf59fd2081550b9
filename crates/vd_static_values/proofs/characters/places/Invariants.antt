use Rattle.std.proofs.Common.{List, Ok, drop, ℕ, ◌++◌, ◌≡◌}
use Rattle.vd_composites.specs.Stops.{◌>>=◌}
use Rattle.vd_plain_values.specs.Strings.{places_in}
use Rattle.vd_static_values.specs.Characters.{HasCharacters}
use Rattle.vd_static_values.proofs.characters.places.Given as goal

abbrev pub invariant-loop-code : goal.invariant-loop-code
invariant-loop-code l =
    (ls : List (List ℕ)) → HasCharacters l.table ls → (places_in ls (drop l.code-index l.text) >>= λ ns. Ok (l.made.items ++ ns)) ≡ places_in ls l.text
