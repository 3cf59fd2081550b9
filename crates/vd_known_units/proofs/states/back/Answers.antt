use Rattle.std.proofs.Common.{◌∷◌}
use Rattle.vd_known_units.proofs.StateLemmas.{state_changed}
use Rattle.vd_known_units.proofs.states.back.Goals as goal

pub returns : goal.returns
returns c = record {
  knows = λ d inner k ks knows.
      state_changed d c.args.design.now c.back.new.self (inner ∷ k ∷ ks) (k ∷ ks) c.back.ensures.same (c.back.ensures.known d.table inner k ks) knows;
}
