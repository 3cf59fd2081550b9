use Rattle.std.proofs.Common.{◌≡◌, ◌++◌, drop}
use Rattle.std.specs.Prelude.{Ok}
use Rattle.vd_composites.specs.Stops.{◌>>=◌}
use Rattle.vd_plain_values.specs.Strings.{places_in, texts_of}
use Rattle.vd_plain_values.proofs.strings.places.Given as goal

abbrev pub invariant-loop-code : goal.invariant-loop-code
invariant-loop-code l = (places_in (texts_of l.literals) (drop l.code-index l.text) >>= λ ns. Ok (l.made.items ++ ns)) ≡ places_in (texts_of l.literals) l.text
