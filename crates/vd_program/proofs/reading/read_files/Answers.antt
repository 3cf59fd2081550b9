use Rattle.std.proofs.Common.{◌≡◌, ◌<◌, length, take, string_bytes, Err, refl, sym, ap, ◌∙◌, subst, arith}
use Rattle.std.proofs.lemmas.List.{take-map, length-map}
use Rattle.vd_bytes.specs.Trays.{Rose}
use Rattle.vd_bytes.specs.declared.reading.ReadEnd.TheVariants.{TooLong, ReadFault}
use Rattle.vd_words.specs.Words.{texts_of}
use Rattle.vd_program.specs.Outcomes.{IsReadFault}
use Rattle.vd_program.proofs.FilesLemmas.{named, too_long_by, before_fault}
use Rattle.vd_program.proofs.reading.read_files.Goals as goal

pub returns-in-Err-TooLong-clause-too_long : goal.returns-in-Err-TooLong-clause-too_long
returns-in-Err-TooLong-clause-too_long g c = λ _.
    let names = c.args.names.now in
    let i = c.loop-i.i in
    let inside : i < length names = c.loop-i-test.true in
    let is : c.read_all.result ≡ Err TooLong = c.in-Err-TooLong.is ∙ ap Err c.in-Err-TooLong.field-0-is in (
      omega arith,
      omega arith,
      too_long_by (g.T.Tray.files c.args.tray.now) (g.T.Tray.files c.loop-i.tray) c.loop-i.invariant.only_reads.same_files (texts_of names) i (rw length-map inside) (texts_of (take i names)) (sym (take-map string_bytes i names))
          c.as_str.result.now (named names i c.index-names-i.result inside c.index-names-i.is c.as_str.result.now c.as_str.ensures.value)
          c.loop-i.contents.items c.loop-i.invariant.contents c.loop-i.left c.loop-i.invariant.left (c.read_all.ensures.too_long is),
    )

pub returns-in-Err-ReadFault-clause-fault : goal.returns-in-Err-ReadFault-clause-fault
returns-in-Err-ReadFault-clause-fault g c = λ j e.
    let names = c.args.names.now in
    let i = c.loop-i.i in
    let inside : i < length names = c.loop-i-test.true in
    let is : c.read_all.result ≡ Err ReadFault = c.in-Err-ReadFault.is ∙ ap Err c.in-Err-ReadFault.field-0-is in
    let told = g.T.Tray.files c.args.tray.now in
    let faults = g.T.Tray.read_faults in
    let same : i ≡ j = cc in
    let rose : Rose (faults c.args.tray.now c.as_str.result.now) (faults c.read_all.new.tray c.as_str.result.now) =
    subst (λ n. Rose n (faults c.read_all.new.tray c.as_str.result.now)) (c.loop-i.invariant.no_fault c.as_str.result.now) (c.read_all.ensures.fault is) in
    subst (IsReadFault faults c.args.tray.now c.read_all.new.tray told (texts_of names)) same
    (record {
      few = rw length-map (omega arith);
      inside = rw length-map inside;
      rose = subst (λ t. Rose (faults c.args.tray.now t) (faults c.read_all.new.tray t)) (named names i c.index-names-i.result inside c.index-names-i.is c.as_str.result.now c.as_str.ensures.value) rose;
      before = before_fault told (texts_of names) i (texts_of (take i names)) (sym (take-map string_bytes i names)) c.loop-i.contents.items c.loop-i.invariant.contents c.loop-i.left c.loop-i.invariant.left;
    })

pub returns-in-Err-ReadFault-clause-no_fault : goal.returns-in-Err-ReadFault-clause-no_fault
returns-in-Err-ReadFault-clause-no_fault g c = λ none. absurd (none c.loop-i.i refl)
