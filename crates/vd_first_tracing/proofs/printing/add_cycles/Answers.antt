use Rattle.std.proofs.Common.{◌≡◌, ◌+◌, ◌-◌, suc, subst, arith}
use Rattle.vd_first_tracing.specs.Printing.{HasPrinted, HasCycled}
use Rattle.vd_first_tracing.proofs.PrintLemmas.{ends_all, finishes}
use Rattle.vd_first_tracing.proofs.printing.add_cycles.Goals as goal

pub returns-in-Ok-Some : goal.returns-in-Ok-Some
returns-in-Ok-Some c = λ e within same begun.
    let l = c.loop-number in
    let left = c.args.cycles - (l.number + 1) in
    let fits : c.args.cycles - l.number ≡ suc left = omega arith in
    let p = subst (λ n. HasPrinted e c.args.cycles l.run l.transcript.text.items (l.number + 1) n l.transcript.values.items) fits (l.invariant.printed e same begun) in
    let cycled = subst (λ o. HasCycled e c.args.cycles o c.add_cycle.new.run c.add_cycle.new.transcript (l.number + 1 + 1) left) c.in-Ok-Some.field-0-is (c.in-Ok-Some.ensures.cycle e c.args.cycles left same p) in
    finishes e c.args.cycles c.add_cycle.new.transcript.text.items c.in-Ok-Some.stopped c.finished.result within cycled c.finished.ensures

pub loop-number-preserved : goal.loop-number-preserved
loop-number-preserved c =
    let l = c.loop-number in
    record {
      going = c.in-Ok-None.ensures.going c.in-Ok-None.field-0-is;
      delta = omega (arith, c.in-Ok-None.ensures.delta, l.invariant.delta);
      printed = λ e same begun.
          let left = c.args.cycles - (l.number + 1) in
          let fits : c.args.cycles - l.number ≡ suc left = omega arith in
          let p = subst (λ n. HasPrinted e c.args.cycles l.run l.transcript.text.items (l.number + 1) n l.transcript.values.items) fits (l.invariant.printed e same begun) in
          subst (λ o. HasCycled e c.args.cycles o c.add_cycle.new.run c.add_cycle.new.transcript (l.number + 1 + 1) left) c.in-Ok-None.field-0-is (c.in-Ok-None.ensures.cycle e c.args.cycles left same p);
    }

pub returns-in-Ok : goal.returns-in-Ok
returns-in-Ok c = λ e within same begun.
    let l = c.loop-number in
    let none : c.args.cycles - l.number ≡ 0 = omega arith in
    let p = subst (λ n. HasPrinted e c.args.cycles l.run l.transcript.text.items (l.number + 1) n l.transcript.values.items) none (l.invariant.printed e same begun) in
    let all = ends_all e c.args.cycles l.run l.transcript.text.items (l.number + 1) l.transcript.values.items p c.add_end.new.text.items (rw (← c.next_time.ensures) c.in-Ok.ensures) in
    finishes e c.args.cycles c.add_end.new.text.items _ c.finished-in-Ok.result within all c.finished-in-Ok.ensures
