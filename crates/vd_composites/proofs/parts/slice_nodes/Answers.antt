use Rattle.std.proofs.Common.{arith, rules, to_z, of_z, w64, SFits, [], ◌∷◌, take, drop, ◌-◌, ◌≡◌, ◌≤◌, ◌+◌, length, true, sym, ◌∙◌, subst}
use Rattle.std.proofs.lemmas.Int.{to_z-of_z}
use Rattle.vd_composites.specs.declared.nodes.Node.TheVariants.{Array as ArrayNode, Right}
use Rattle.vd_composites.specs.Answers.{HasItems}
use Rattle.vd_composites.specs.Ranges.{length_of}
use Rattle.vd_composites.specs.Parts.{is_slice}
use Rattle.vd_composites.specs.Nodes.{slice_start}
use Rattle.vd_composites.proofs.ValueLemmas.{is_array, all_elements, elements_wanted}
use Rattle.vd_composites.proofs.SliceLemmas.{start_fits, slice_made}
use Rattle.vd_composites.proofs.parts.slice_nodes.Goals as goal

pub items_behind-requires-clause-there : goal.items_behind-requires-clause-there
items_behind-requires-clause-there c =
    let a = is_array c.args.nodes.now c.in-Some.bounds c.requires (sym c.bounds_at.ensures ∙ c.in-Some.is) in
    let is : is_slice c.in-Some.bounds c.args.range ≡ true = sym c.takes_slice.ensures ∙ c.if-not-takes_slice.false in
    let fit : slice_start c.in-Some.bounds c.args.range + length_of c.args.range ≤ length_of c.in-Some.bounds = start_fits c.in-Some.bounds c.args.range is in
    let start : c.start_of-place.result ≡ slice_start c.in-Some.bounds c.args.range = c.start_of-place.ensures in
    let items : c.length-items.result ≡ length_of c.args.range = c.length-items.ensures in
    elements_wanted c.args.nodes.now c.in-Some.bounds c.start_of-place.result c.length-items.result a (omega arith)

pub returns-in-Ok : goal.returns-in-Ok
returns-in-Ok c =
    let a = is_array c.args.nodes.now c.in-Some.bounds c.requires (sym c.bounds_at.ensures ∙ c.in-Some.is) in
    let is : is_slice c.in-Some.bounds c.args.range ≡ true = sym c.takes_slice.ensures ∙ c.if-not-takes_slice.false in
    let left_fits : SFits w64 c.args.range.left = search rules in
    let right_fits : SFits w64 c.args.range.right = search rules in
    let tail = take (length c.args.nodes.now - 2) (drop 2 c.args.nodes.now) in
    let items = subst (λ r. HasItems (ArrayNode c.args.range.left c.args.range.down ∷ Right r ∷ []) tail c.start_of-place.result c.length-items.result c.in-Ok.made.items) (to_z-of_z w64 c.args.range.right right_fits)
    (subst (λ l. HasItems (ArrayNode l c.args.range.down ∷ Right (to_z w64 (of_z w64 c.args.range.right)) ∷ []) tail c.start_of-place.result c.length-items.result c.in-Ok.made.items) (to_z-of_z w64 c.args.range.left left_fits) c.in-Ok.ensures) in
    slice_made c.args.nodes.now c.in-Some.bounds c.args.range c.start_of-place.result c.length-items.result c.in-Ok.made.items a is c.start_of-place.ensures c.length-items.ensures items

pub overflow_cast-items : goal.overflow_cast-items
overflow_cast-items c =
    let a = is_array c.args.nodes.now c.in-Some.bounds c.requires (sym c.bounds_at.ensures ∙ c.in-Some.is) in
    let is : is_slice c.in-Some.bounds c.args.range ≡ true = sym c.takes_slice.ensures ∙ c.if-not-takes_slice.false in
    let fit : slice_start c.in-Some.bounds c.args.range + length_of c.args.range ≤ length_of c.in-Some.bounds = start_fits c.in-Some.bounds c.args.range is in
    let long : length_of c.in-Some.bounds + 2 ≤ length c.args.nodes.now = a.long in
    let items : c.length-items.result ≡ length_of c.args.range = c.length-items.ensures in
    omega arith

pub items_behind-requires-clause-all : goal.items_behind-requires-clause-all
items_behind-requires-clause-all c =
    let a = is_array c.args.nodes.now c.in-Some.bounds c.requires (sym c.bounds_at.ensures ∙ c.in-Some.is) in
    all_elements c.args.nodes.now c.in-Some.bounds c.length-many.result a c.length-many.ensures

pub overflow_cast-many : goal.overflow_cast-many
overflow_cast-many c =
    let a = is_array c.args.nodes.now c.in-Some.bounds c.requires (sym c.bounds_at.ensures ∙ c.in-Some.is) in
    let long : length_of c.in-Some.bounds + 2 ≤ length c.args.nodes.now = a.long in
    let many : c.length-many.result ≡ length_of c.in-Some.bounds = c.length-many.ensures in
    omega arith
