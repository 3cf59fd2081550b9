use Rattle.std.proofs.Common.{length, refl}
use Rattle.std.proofs.lemmas.Option.{slice_get_past, slice_get_read}
use Rattle.vd_meaning.specs.Facets.{nth, value_of}
use Rattle.vd_static_nodes.proofs.RangeLemmas.{no_position, part_value}
use Rattle.vd_static_nodes.proofs.ranges.position_of.Goals as goal

pub returns-in-Some : goal.returns-in-Some
returns-in-Some c = λ subtypes e ms are local.
    let parts = c.args.parts.now in
    let n = c.args.number in
    let x = c.in-Some.part.now in
    let there = slice_get_read parts (length parts) n x refl c.in-Some.ensures.lookup.3.0 c.in-Some.ensures.lookup.1 in
    c.position_in.ensures (value_of (nth n ms) e) (part_value subtypes e n parts ms are x local there)

pub returns-in-None : goal.returns-in-None
returns-in-None c = λ subtypes e ms are local.
    no_position subtypes e c.args.number c.args.parts.now ms are (slice_get_past c.args.parts.now c.args.number c.in-None.ensures.lookup.3)
