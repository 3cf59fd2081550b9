use Rattle.std.proofs.Common.{◌≡◌, drop}
use Rattle.vd_environments.specs.Environments.{both}
use Rattle.vd_value_rules.specs.Indicated.{static_of}
use Rattle.vd_static_parts.proofs.KnownLemmas.{known_parts}
use Rattle.vd_static_parts.proofs.parts.known_of.Given as goal

abbrev pub invariant-loop-part : goal.invariant-loop-part
invariant-loop-part l = both (static_of l.known) (known_parts (drop l.part-index l.parts)) ≡ known_parts l.parts
