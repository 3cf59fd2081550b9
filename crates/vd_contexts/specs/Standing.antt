-- What a tree is to the node above it, in memory.
use Rattle.std.specs.Prelude.{List, map}
use Rattle.vd_contexts.specs.declared.standings.Standing.{Standing}
use Rattle.vd_contexts.specs.declared.standings.Standing.TheVariants as code
use Rattle.vd_value_rules.specs.Designs.{Design}
use Rattle.vd_value_rules.specs.Standings.{generics_of}
use Rattle.vd_value_rules.specs.Standings as standings

abbrev pub standing_of : Design → Standing → standings.Standing
standing_of d (code.Evaluated bounded) = standings.Evaluated bounded
standing_of d (code.Copied bounded) = standings.Copied bounded
standing_of d (code.Passed bounded) = standings.Passed bounded
standing_of d (code.MappedTo unit) = standings.MappedTo (generics_of d unit)
standing_of d code.Associated = standings.Associated
standing_of d code.Formal = standings.Formal
standing_of d (code.Assigned to_signal) = standings.Assigned to_signal

abbrev pub standings_in : Design → List Standing → List standings.Standing
standings_in d xs = map (standing_of d) xs
