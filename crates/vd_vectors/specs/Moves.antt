-- What lists are after many places of a shift. For the contracts of the calls inside; the shifts themselves are defined place by place.
use Rattle.std.specs.Prelude.{ℕ, ◌-◌, List, ◌++◌, length, take, drop, min}
use lib.ListN.{replicate}
use Rattle.vd_values.specs.declared.logic.Logic.{Logic}

abbrev pub filled_left : Logic → ℕ → List Logic → List Logic
filled_left new n xs = drop (min n (length xs)) xs ++ replicate (min n (length xs)) new

abbrev pub filled_right : Logic → ℕ → List Logic → List Logic
filled_right new n xs = replicate (min n (length xs)) new ++ take (length xs - min n (length xs)) xs

abbrev pub rotated : ℕ → List Logic → List Logic
rotated n xs = drop n xs ++ take n xs
