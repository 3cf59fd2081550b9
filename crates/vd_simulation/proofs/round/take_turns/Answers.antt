use Rattle.std.proofs.Common.{◌≡◌, ◌+◌, ◌<◌, length, take, set, get_or, map, sym, ap, ◌∙◌, subst, arith, ◌++◌}
use Rattle.vd_simulation.specs.Turns.{view_of}
use Rattle.vd_simulation.specs.Rounds.{paused, turn_in, HasEnded}
use Rattle.vd_simulation.proofs.RoundSteps.{prefixed, left, goes_on, stops, all_done, stopped_round, whole_round}
use Rattle.vd_simulation.proofs.round.take_turns.Goals as goal

pub loop-i-preserved : goal.loop-i-preserved
loop-i-preserved g c =
    let pa = paused g.P.Process.state in
    let act = turn_in c.args.first g.P.Process.step (view_of c.args.seen.now) in
    let i = c.loop-i.i in
    let ws = c.loop-i.processes in
    let w = get_or ws i c.index-processes-i.result in
    let at = ap (get_or ws i) c.index-processes-i.is in
    let w' = c.take_turn.new.waiting in
    let after = map pa (take (i + 1) (set ws i w')) in
    let in' : i < length ws = omega arith in
    let turn = c.in_ok-kind.ensures.turn in
    let ended = subst (λ k. HasEnded k (pa w') (act (pa w)).ending) c.in_default.is turn.ended in
    record {
      signals = c.take_turn.ensures.signals ∙ c.loop-i.invariant.signals;
      round = c.loop-i.invariant.round
          ∙ goes_on pa act i ws c.loop-i.net.drivers c.loop-i.reports.items w w' in' at ended
          ∙ ap (λ ds. prefixed (c.loop-i.reports.items ++ (act (pa w)).reports) after (left pa act (i + 1) (set ws i w') ds)) (sym turn.assigned)
          ∙ ap (λ rs. prefixed rs after (left pa act (i + 1) (set ws i w') c.take_turn.new.net.drivers)) (sym turn.reported);
    }

pub returns-in-Some-clause-round : goal.returns-in-Some-clause-round
returns-in-Some-clause-round g c =
    let pa = paused g.P.Process.state in
    let act = turn_in c.args.first g.P.Process.step (view_of c.args.seen.now) in
    let i = c.loop-i.i in
    let ws = c.loop-i.processes in
    let w = get_or ws i c.index-processes-i.result in
    let at = ap (get_or ws i) c.index-processes-i.is in
    let w' = c.take_turn.new.waiting in
    let in' : i < length ws = omega arith in
    let turn = c.in_ok-kind.ensures.turn in
    let ended = subst (λ k. HasEnded k (pa w') (act (pa w)).ending) c.in-Some.is turn.ended in
    stopped_round _ _ _ _ _ _ _ _ turn.assigned turn.reported
    (c.loop-i.invariant.round ∙ stops pa act i c.in-Some.kind ws c.loop-i.net.drivers c.loop-i.reports.items w w' in' at ended)

pub returns-clause-round : goal.returns-clause-round
returns-clause-round g c =
    let pa = paused g.P.Process.state in
    let act = turn_in c.args.first g.P.Process.step (view_of c.args.seen.now) in
    let ws = c.loop-i.processes in
    let n : c.loop-i.i ≡ length ws = omega arith in
    whole_round _ _ _ _
    (c.loop-i.invariant.round
    ∙ ap (λ k. prefixed c.loop-i.reports.items (map pa (take k ws)) (left pa act k ws c.loop-i.net.drivers)) n
    ∙ all_done pa act ws c.loop-i.net.drivers c.loop-i.reports.items)
