use Rattle.vd_known_notes.proofs.choices.choice_notes.Goals as goal

pub choice_note-requires : goal.choice_note-requires
choice_note-requires c =
    let r = c.requires.ready in
    record { ready = record { design = r.design; now = r.now; round = r.round; knows = c.loop-choice.invariant.knows r.design _ r.knows } }

pub loop-choice-preserved : goal.loop-choice-preserved
loop-choice-preserved c = record { knows = λ d ks knows. c.in_ok-note.ensures.knows d ks (c.loop-choice.invariant.knows d ks knows) }
