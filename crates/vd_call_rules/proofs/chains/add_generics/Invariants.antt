use Rattle.std.proofs.Common.{◌≡◌, drop}
use Rattle.vd_call_rules.specs.Chains.{reach_in, with_generics}
use Rattle.vd_call_rules.proofs.chains.add_generics.Given as goal

abbrev pub invariant-loop-copied : goal.invariant-loop-copied
invariant-loop-copied l =
    with_generics l.declarations (drop l.copied-index l.generics) (reach_in l.declarations l.rows.items)
    ≡ with_generics l.declarations l.generics (reach_in l.declarations l.initial.rows.items)
