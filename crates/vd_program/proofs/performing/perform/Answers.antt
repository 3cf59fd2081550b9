use Rattle.std.proofs.Common.{◌≡◌, ◌⊎◌, ◌∙◌, subst, inl, inr}
use Rattle.vd_words.specs.Words.{texts_of}
use Rattle.vd_program.specs.Endings.{GotAll, GotFronts, BeginsInOrder}
use Rattle.vd_program.proofs.EndingLemmas.{got_fronts_before, untouched_before, in_order_before}
use Rattle.vd_program.proofs.ReadyLemmas.{due_is, writes_same, due_or_fault, completed_as, faulted_as, counts_kept}
use Rattle.vd_program.proofs.performing.perform.Goals as goal

pub returns-in-Ok-clause-completed : goal.returns-in-Ok-clause-completed
returns-in-Ok-clause-completed g c = λ three four five.
    let due = c.in-Ok.due in
    let w = c.write_due.ensures in
    let same = due_is due c.status.result c.design.result.now c.map.result.now c.console.result.now c.status.ensures c.design.ensures c.map.ensures c.console.ensures in
    completed_as g.T.Tray.read_faults (g.M.Task.says c.args.task.now) (g.T.Tray.files c.args.tray.now) (texts_of c.args.names.now) c.args.tray.now c.ready_for.new.tray c.write_due.new.tray due c.in-Ok.ensures.ready w.read_counts
    g.T.Tray.written c.ready_for.ensures.only_reads.same_channels c.write_due.result
    (λ ne. ((w.all ne).0 ∙ c.status.ensures, subst (GotAll g.T.Tray.written c.ready_for.new.tray c.write_due.new.tray) same (w.all ne).1)) three four

pub returns-in-Ok-clause-read_fault : goal.returns-in-Ok-clause-read_fault
returns-in-Ok-clause-read_fault g c =
    let due = c.in-Ok.due in
    let w = c.write_due.ensures in
    let same = due_is due c.status.result c.design.result.now c.map.result.now c.console.result.now c.status.ensures c.design.ensures c.map.ensures c.console.ensures in
    faulted_as g.T.Tray.read_faults (g.M.Task.says c.args.task.now) (g.T.Tray.files c.args.tray.now) (texts_of c.args.names.now) c.args.tray.now c.ready_for.new.tray c.write_due.new.tray due c.in-Ok.ensures.ready w.read_counts
    g.T.Tray.written c.ready_for.ensures.only_reads.same_channels c.write_due.result
    (λ ne. ((w.all ne).0 ∙ c.status.ensures, subst (GotAll g.T.Tray.written c.ready_for.new.tray c.write_due.new.tray) same (w.all ne).1))

pub returns-in-Ok-clause-fronts : goal.returns-in-Ok-clause-fronts
returns-in-Ok-clause-fronts g c = λ four.
    let written = g.T.Tray.written in
    let is_begun = g.T.Tray.is_begun in
    let old = c.args.tray.now in
    let mid = c.ready_for.new.tray in
    let new = c.write_due.new.tray in
    let due = c.in-Ok.due in
    let reads = c.ready_for.ensures.only_reads in
    let w = c.write_due.ensures in
    let same = due_is due c.status.result c.design.result.now c.map.result.now c.console.result.now c.status.ensures c.design.ensures c.map.ensures c.console.ensures in (
      due,
      due_or_fault g.T.Tray.read_faults (g.M.Task.says c.args.task.now) (g.T.Tray.files old) (texts_of c.args.names.now) old mid new due c.in-Ok.ensures.ready w.read_counts,
      got_fronts_before written old mid new reads.same_channels due (subst (GotFronts written mid new) same (w.fronts four)),
      in_order_before is_begun old mid new reads.same_begun written reads.same_channels due (subst (BeginsInOrder written is_begun mid new) same (w.in_order four)),
      λ none. untouched_before is_begun old mid new reads.same_begun (w.untouched (λ yes. none (writes_same c.writes_files.result (g.M.Task.writes c.args.task.now) c.status.result due.status c.writes_files.ensures c.status.ensures yes))),
    )

pub returns-in-Ok-clause-no_read_fault : goal.returns-in-Ok-clause-no_read_fault
returns-in-Ok-clause-no_read_fault g c =
    let w = c.write_due.ensures in
    let either = elim w.either as (λ _. (c.write_due.result ≡ c.in-Ok.due.status) ⊎ (c.write_due.result ≡ 4)) [ inl e ↦ inl (e ∙ c.status.ensures) | inr f ↦ inr f ] in
    counts_kept g.T.Tray.read_faults (g.M.Task.says c.args.task.now) (g.T.Tray.files c.args.tray.now) (texts_of c.args.names.now) c.args.tray.now c.ready_for.new.tray c.write_due.new.tray c.in-Ok.due c.in-Ok.ensures.ready w.read_counts
    c.write_due.result either
