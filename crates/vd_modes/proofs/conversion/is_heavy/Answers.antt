use Rattle.std.proofs.Common.{◌≡◌, ◌<◌, ◌↔◌, ℕ, IsTrue, nat_lt, arith, lt-ltb}
use Rattle.std.proofs.lemmas.Bool.{ltb-true}
use Rattle.vd_weighing.specs.Limits.{at_most}
use Rattle.vd_weighing.specs.Weights.{weight_of}
use Rattle.vd_weighing.proofs.LimitLemmas.{at_most_is_min}
use Rattle.vd_modes.proofs.conversion.is_heavy.Goals as goal

-- a weight is above the limit exactly where it is so when it is cut off at the greatest number of 64 bits
above_both : (weight cut : ℕ) → cut ≡ at_most weight → IsTrue (nat_lt 4000000 cut) ↔ (4000000 < weight)
above_both weight cut is = (
  λ above. omega (arith, at_most_is_min weight, ltb-true 4000000 cut above),
  λ above. lt-ltb 4000000 cut (omega (arith, at_most_is_min weight)),
)

pub returns : goal.returns
returns c =
    let tree = c.args.accepted.now in
    above_both (weight_of tree.declarations tree.units) c.in_ok-weight.weight c.in_ok-weight.ensures
