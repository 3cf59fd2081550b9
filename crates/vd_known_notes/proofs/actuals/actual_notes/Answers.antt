use Rattle.vd_known_notes.proofs.actuals.actual_notes.Goals as goal

pub actual_note-requires : goal.actual_note-requires
actual_note-requires c =
    let r = c.requires.ready in
    record { ready = record { design = r.design; now = r.now; round = r.round; knows = c.loop-element.invariant.knows r.design _ r.knows } }

pub loop-element-preserved : goal.loop-element-preserved
loop-element-preserved c = record { knows = λ d ks knows. c.in_ok-note.ensures.knows d ks (c.loop-element.invariant.knows d ks knows) }
