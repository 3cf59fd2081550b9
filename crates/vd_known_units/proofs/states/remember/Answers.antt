use Rattle.std.proofs.Common.{◌∷◌}
use Rattle.vd_known_units.proofs.StateLemmas.{state_changed_so}
use Rattle.vd_known_units.proofs.states.remember.Goals as goal

pub returns : goal.returns
returns c = record {
  knows = λ d k ks knows.
      state_changed_so d c.args.design.now c.remember.new.self (k ∷ ks) (k ∷ k ∷ ks) c.remember.result c.remember.ensures.same (c.remember.ensures.known d.table k ks) knows;
}
