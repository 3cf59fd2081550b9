use Rattle.std.proofs.Common.{None, Some, ap, slice_get, subst, sym, ◌≡◌, ◌∙◌}
use Rattle.std.proofs.lemmas.Option.{slice_get-get_or, slice_get_past}
use Rattle.vd_known_lengths.proofs.MeasuredLemmas.{nth_here, nth_missing}
use Rattle.vd_known_lengths.specs.Extents.{IsMeasured}
use Rattle.vd_known_lengths.proofs.names.part.Goals as goal

pub returns-in-Some-clause-is : goal.returns-in-Some-clause-is
returns-in-Some-clause-is c = λ ss are.
    let at = c.in-Some.ensures.lookup in
    let g : slice_get c.args.parts.now c.args.number ≡ Some c.in-Some.part.now = slice_get-get_or c.args.parts.now c.args.number c.in-Some.part.now at.3.0 ∙ ap Some (sym at.1) in
    nth_here c.args.subtypes.now c.args.number c.args.parts.now ss c.in-Some.part.now are g

pub returns-in-None-clause-is : goal.returns-in-None-clause-is
returns-in-None-clause-is c = λ ss are.
    let at = c.in-None.ensures.lookup in
    let g : slice_get c.args.parts.now c.args.number ≡ None = slice_get_past c.args.parts.now c.args.number at.3 in
    subst (λ s. IsMeasured c.args.subtypes.now c.no_measure.result s) (sym (nth_missing c.args.subtypes.now c.args.number c.args.parts.now ss are g)) c.no_measure.ensures.is
