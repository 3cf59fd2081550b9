use Rattle.std.proofs.Common.{◌≡◌, drop}
use Rattle.vd_call_rules.specs.Chains.{reach_in, with_copies}
use Rattle.vd_call_rules.proofs.chains.add_copies.Given as goal

abbrev pub invariant-loop-copied : goal.invariant-loop-copied
invariant-loop-copied l =
    with_copies l.generics (drop l.copied-index l.copies) (reach_in l.declarations l.rows.items)
    ≡ with_copies l.generics l.copies (reach_in l.declarations l.initial.rows.items)
