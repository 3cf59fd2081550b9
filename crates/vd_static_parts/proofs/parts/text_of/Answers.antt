use Rattle.std.proofs.Common.{ap, length, refl, sym}
use Rattle.std.proofs.lemmas.Option.{slice_get_past, slice_get_read}
use Rattle.vd_meaning.specs.Facets.{Meaning}
use Rattle.vd_static_parts.proofs.PartLemmas.{nth_here, nth_missing}
use Rattle.vd_static_parts.proofs.parts.text_of.Goals as goal

pub returns-in-Some : goal.returns-in-Some
returns-in-Some c = λ subtypes e ms are.
    let parts = c.args.parts.now in
    let n = c.args.number in
    let x = c.in-Some.part.now in
    let there = slice_get_read parts (length parts) n x refl c.in-Some.ensures.lookup.3.0 c.in-Some.ensures.lookup.1 in
    sym (nth_here subtypes e n parts ms x are there).sense.text

pub returns-in-None : goal.returns-in-None
returns-in-None c = λ subtypes e ms are.
    let parts = c.args.parts.now in
    let n = c.args.number in
    ap (λ (m : Meaning). m.text) (sym (nth_missing subtypes e n parts ms are (slice_get_past parts n c.in-None.ensures.lookup.3)))
