use Rattle.std.proofs.Common.{[], ◌∷◌, subst}
use Rattle.std.specs.Result.{OnOk}
use Rattle.vd_known_designs.proofs.MarkLemmas.{marks_more}
use Rattle.vd_known_designs.specs.Marks.{indicated_by, marks_known}
use Rattle.vd_known_designs.proofs.KnownLemmas.{known_grown}
use Rattle.vd_known_designs.specs.Known.{AreKnown}
use Rattle.vd_value_rules.specs.Knowledge.{TwoIndicated}
use Rattle.vd_known_designs.proofs.marks.set_mark.Goals as goal

pub returns-clause-known : goal.returns-clause-known
returns-clause-known c = λ t ms known.
    let i = indicated_by c.args.mark.1 in
    let two : TwoIndicated = record { own = i; choosing = i } in
    let made = c.in_ok-subtype.ensures in
    subst (λ k. OnOk c.set_type.result (AreKnown t c.set_type.new.self (k ∷ []))) (marks_more c.args.mark.0 i ms)
    (c.set_type.ensures.known t two (marks_known ms) []
    (known_grown t c.args.table.now c.add_subtype.new.subtypes (marks_known ms ∷ []) made.extends known) made.indicates made.indicates)
