use Rattle.std.proofs.Common.{◌∷◌}
use Rattle.std.proofs.lemmas.Result.{on_ok_weaker}
use Rattle.vd_value_rules.specs.Knowledge.{at_mark}
use Rattle.vd_value_rules.specs.Standings.{known_inside, returning}
use Rattle.vd_known_units.proofs.StateLemmas.{state_changed}
use Rattle.vd_known_units.proofs.insides.returning_known.Goals as goal

pub returns : goal.returns
returns c = record {
  knows = λ d k ks knows.
      let inner = known_inside k in
      let x = c.args.design.now in
      let first = state_changed d x c.enter_inside.new.self (k ∷ ks) (inner ∷ ks) c.in_ok-enter_inside.ensures.same
      (λ _. c.in_ok-enter_inside.ensures.known d.table k ks knows.known) knows in
      on_ok_weaker c.set_result.result
      (λ known. state_changed d (record x { table = c.enter_inside.new.self }) c.set_result.new.self (inner ∷ ks) (returning c.args.mark inner ∷ ks)
      c.set_result.ensures.same (λ _. known) first)
      (c.set_result.ensures.known d.table (at_mark c.args.mark inner.env) inner ks first.known (c.marked-of.ensures d inner ks first).own);
}
