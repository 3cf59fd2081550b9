use Rattle.std.proofs.Common.{◌≡◌, drop}
use Rattle.vd_values.specs.declared.logic.Logic.TheVariants.{Z}
use Rattle.vd_values.specs.Resolution.{folded}
use Rattle.vd_values.proofs.resolution.resolve.Given as goal

-- with the sources that are left folded in, the value is what all of them fold to
abbrev pub invariant-loop-source : goal.invariant-loop-source
invariant-loop-source l = folded l.value (drop l.source-index l.sources) ≡ folded Z l.sources
