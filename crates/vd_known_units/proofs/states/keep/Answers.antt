use Rattle.std.proofs.Common.{◌∷◌}
use Rattle.vd_known_units.proofs.StateLemmas.{state_changed}
use Rattle.vd_known_units.proofs.states.keep.Goals as goal

pub returns : goal.returns
returns c = record {
  knows = λ d inner k ks knows.
      state_changed d c.args.design.now c.keep.new.self (inner ∷ k ∷ ks) (inner ∷ ks) c.keep.ensures.same (c.keep.ensures.known d.table inner k ks) knows;
}
