use Rattle.std.proofs.Common.{arith, ◌≡◌, ◌<◌, ◌≤◌, ◌+◌, length, true, sym, ap, ◌∙◌, to_z, of_z, w64}
use Rattle.std.proofs.lemmas.Int.{to_z-of_z}
use Rattle.vd_composites.specs.Ranges.{length_of, is_within, place_of}
use Rattle.vd_composites.proofs.RangeLemmas.{place_below}
use Rattle.vd_composites.proofs.ValueLemmas.{is_array, all_elements, elements_wanted}
use Rattle.vd_composites.proofs.ReplacedLemmas.{element_replaced}
use Rattle.vd_composites.proofs.replacing.with_element_nodes.Goals as goal

pub items_replaced-requires-clause-there : goal.items_replaced-requires-clause-there
items_replaced-requires-clause-there c =
    let a = is_array c.args.nodes.now c.in-Some.bounds c.requires.value (sym c.bounds_at.ensures ∙ c.in-Some.is) in
    let same : to_z w64 (of_z w64 c.args.index) ≡ c.args.index = to_z-of_z w64 c.args.index c.ranges.index in
    let inside : is_within c.in-Some.bounds c.args.index ≡ true = ap (is_within c.in-Some.bounds) (sym same) ∙ sym c.contains.ensures ∙ c.if-not-contains.false in
    let below : place_of c.in-Some.bounds c.args.index < length_of c.in-Some.bounds = place_below c.in-Some.bounds c.args.index inside in
    let place : c.place-place.result ≡ place_of c.in-Some.bounds c.args.index = c.place-place.ensures ∙ ap (place_of c.in-Some.bounds) same in
    elements_wanted c.args.nodes.now c.in-Some.bounds c.place-place.result 1 a (omega arith)

pub returns-in-Ok : goal.returns-in-Ok
returns-in-Ok c =
    let a = is_array c.args.nodes.now c.in-Some.bounds c.requires.value (sym c.bounds_at.ensures ∙ c.in-Some.is) in
    let same : to_z w64 (of_z w64 c.args.index) ≡ c.args.index = to_z-of_z w64 c.args.index c.ranges.index in
    let inside : is_within c.in-Some.bounds c.args.index ≡ true = ap (is_within c.in-Some.bounds) (sym same) ∙ sym c.contains.ensures ∙ c.if-not-contains.false in
    element_replaced c.args.nodes.now c.in-Some.bounds c.args.index c.place-place.result c.args.new.now c.in-Ok.made.items a inside (c.place-place.ensures ∙ ap (place_of c.in-Some.bounds) same) c.requires.element c.in-Ok.ensures

pub items_replaced-requires-clause-all : goal.items_replaced-requires-clause-all
items_replaced-requires-clause-all c =
    let a = is_array c.args.nodes.now c.in-Some.bounds c.requires.value (sym c.bounds_at.ensures ∙ c.in-Some.is) in
    all_elements c.args.nodes.now c.in-Some.bounds c.length-many.result a c.length-many.ensures

pub overflow_cast-many : goal.overflow_cast-many
overflow_cast-many c =
    let a = is_array c.args.nodes.now c.in-Some.bounds c.requires.value (sym c.bounds_at.ensures ∙ c.in-Some.is) in
    let long : length_of c.in-Some.bounds + 2 ≤ length c.args.nodes.now = a.long in
    let many : c.length-many.result ≡ length_of c.in-Some.bounds = c.length-many.ensures in
    omega arith
