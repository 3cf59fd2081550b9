use Rattle.vd_known_notes.proofs.selecting.selecting_note.Goals as goal

pub noted-requires : goal.noted-requires
noted-requires c =
    let r = c.requires.ready in
    record { ready = record { design = r.design; now = r.now; round = r.round; knows = c.in_ok-shape.ensures.knows r.design _ r.knows } }
