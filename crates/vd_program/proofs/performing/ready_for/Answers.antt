use Rattle.std.proofs.Common.{◌≡◌, ◌<◌, Err, length, refl, ap, ◌∙◌, arith}
use Rattle.std.proofs.lemmas.List.{length-map}
use Rattle.std.proofs.lemmas.Result.{IfOk-weaker}
use Rattle.vd_bytes.specs.declared.answers.Limit.TheVariants as limits
use Rattle.vd_words.specs.Words.{texts_of}
use Rattle.vd_program.specs.declared.reading.FilesEnd.TheVariants.{TooLong, ReadFault}
use Rattle.vd_program.specs.Dues.{console_alone}
use Rattle.vd_program.specs.Outcomes.{IsReady}
use Rattle.vd_program.proofs.FilesLemmas.{outcome_of_long, lines_as_many, line_at}
use Rattle.vd_program.proofs.ReadyLemmas.{own_six}
use Rattle.vd_program.proofs.performing.ready_for.Goals as goal

pub returns-in-Err-TooLong-clause-ready : goal.returns-in-Err-TooLong-clause-ready
returns-in-Err-TooLong-clause-ready g c =
    let is : c.read_files.result ≡ Err TooLong = c.in-Err-TooLong.is ∙ ap Err c.in-Err-TooLong.field-0-is in
    let long = c.read_files.ensures.too_long is in
    let names = texts_of c.args.names.now in
    IfOk-weaker c.limit-in-Err-TooLong.result _ _
    (λ due e. IsReady.formed (c.read_files.ensures.no_fault (λ i f. cc)) (own_six limits.Input due e)
    (outcome_of_long (g.M.Task.says c.args.task.now) names due 8388608 refl (rw length-map long.0) (rw length-map long.1) e (g.T.Tray.files c.args.tray.now) long.2))
    c.limit-in-Err-TooLong.ensures

pub swap_remove-requires : goal.swap_remove-requires
swap_remove-requires g c =
    let is : c.read_files.result ≡ Err (ReadFault c.in-Err-ReadFault.i) = c.in-Err-ReadFault.is ∙ ap Err c.in-Err-ReadFault.field-0-is in
    let f = c.read_files.ensures.fault c.in-Err-ReadFault.i is in
    let inside : c.in-Err-ReadFault.i < length c.args.names.now = rw length-map at f.inside in
    omega (arith, c.in_ok-faults.faults.ok.0, lines_as_many c.in_ok-faults.faults.items c.args.names.now c.in_ok-faults.ensures, inside)

pub returns-in-Err-ReadFault-clause-ready : goal.returns-in-Err-ReadFault-clause-ready
returns-in-Err-ReadFault-clause-ready g c =
    let i = c.in-Err-ReadFault.i in
    let is : c.read_files.result ≡ Err (ReadFault i) = c.in-Err-ReadFault.is ∙ ap Err c.in-Err-ReadFault.field-0-is in
    let f = c.read_files.ensures.fault i is in
    let inside : i < length c.args.names.now = rw length-map at f.inside in
    let line = line_at c.in_ok-faults.faults.items c.args.names.now c.in_ok-faults.ensures i inside c.swap_remove.result c.swap_remove.ensures.value in
    IsReady.faulted i f (c.console_alone.ensures ∙ ap (console_alone 3) line)
