use Rattle.std.proofs.Common.{◌≡◌, drop}
use Rattle.vd_call_rules.specs.Chains.{reach_in, stands_for}
use Rattle.vd_call_rules.proofs.chains.stands_for.Given as goal

abbrev pub invariant-loop-copied : goal.invariant-loop-copied
invariant-loop-copied l =
    stands_for (drop l.copied-index l.generics) (reach_in l.declarations l.rows.items) l.generic
    ≡ stands_for l.generics (reach_in l.declarations l.rows.items) l.generic
