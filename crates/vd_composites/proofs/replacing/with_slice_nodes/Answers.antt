use Rattle.std.proofs.Common.{arith, ◌≡◌, ◌≤◌, ◌+◌, length, true, sym, ◌∙◌}
use Rattle.vd_composites.specs.Ranges.{length_of}
use Rattle.vd_composites.specs.Parts.{is_slice}
use Rattle.vd_composites.specs.Nodes.{slice_start}
use Rattle.vd_composites.proofs.ValueLemmas.{is_array, all_elements, elements_wanted}
use Rattle.vd_composites.proofs.SliceLemmas.{start_fits}
use Rattle.vd_composites.proofs.ReplacedLemmas.{slice_of_other_length, slice_replaced, elements_as_many}
use Rattle.vd_composites.proofs.replacing.with_slice_nodes.Goals as goal

pub returns-then-length-items : goal.returns-then-length-items
returns-then-length-items c =
    let a = is_array c.args.nodes.now c.in-Some.bounds c.requires.value (sym c.bounds_at.ensures ∙ c.in-Some.is) in
    let n = is_array c.args.new.now c.in-Some-bounds_at.others c.requires.slice (sym c.bounds_at-2.ensures ∙ c.in-Some-bounds_at.is) in
    let is : is_slice c.in-Some.bounds c.args.range ≡ true = sym c.takes_slice.ensures ∙ c.if-not-takes_slice.false in
    let items : c.length-items.result ≡ length_of c.args.range = c.length-items.ensures in
    let others : c.length.result ≡ length_of c.in-Some-bounds_at.others = c.length.ensures in
    slice_of_other_length c.args.nodes.now c.args.new.now c.in-Some.bounds c.args.range c.in-Some-bounds_at.others a n is (λ (e : length_of c.in-Some-bounds_at.others ≡ length_of c.args.range).
    let f : c.length.result ≡ c.length-items.result = others ∙ e ∙ sym items in absurd (omega arith))

pub overflow_cast-place : goal.overflow_cast-place
overflow_cast-place c =
    let a = is_array c.args.nodes.now c.in-Some.bounds c.requires.value (sym c.bounds_at.ensures ∙ c.in-Some.is) in
    let n = is_array c.args.new.now c.in-Some-bounds_at.others c.requires.slice (sym c.bounds_at-2.ensures ∙ c.in-Some-bounds_at.is) in
    let is : is_slice c.in-Some.bounds c.args.range ≡ true = sym c.takes_slice.ensures ∙ c.if-not-takes_slice.false in
    let items : c.length-items.result ≡ length_of c.args.range = c.length-items.ensures in
    let others : c.length.result ≡ length_of c.in-Some-bounds_at.others = c.length.ensures in
    let start : c.start_of-place.result ≡ slice_start c.in-Some.bounds c.args.range = c.start_of-place.ensures in
    let fit : slice_start c.in-Some.bounds c.args.range + length_of c.args.range ≤ length_of c.in-Some.bounds = start_fits c.in-Some.bounds c.args.range is in
    let long : length_of c.in-Some.bounds + 2 ≤ length c.args.nodes.now = a.long in
    omega arith

pub overflow_cast-items : goal.overflow_cast-items
overflow_cast-items c =
    let a = is_array c.args.nodes.now c.in-Some.bounds c.requires.value (sym c.bounds_at.ensures ∙ c.in-Some.is) in
    let n = is_array c.args.new.now c.in-Some-bounds_at.others c.requires.slice (sym c.bounds_at-2.ensures ∙ c.in-Some-bounds_at.is) in
    let is : is_slice c.in-Some.bounds c.args.range ≡ true = sym c.takes_slice.ensures ∙ c.if-not-takes_slice.false in
    let items : c.length-items.result ≡ length_of c.args.range = c.length-items.ensures in
    let others : c.length.result ≡ length_of c.in-Some-bounds_at.others = c.length.ensures in
    let start : c.start_of-place.result ≡ slice_start c.in-Some.bounds c.args.range = c.start_of-place.ensures in
    let fit : slice_start c.in-Some.bounds c.args.range + length_of c.args.range ≤ length_of c.in-Some.bounds = start_fits c.in-Some.bounds c.args.range is in
    let long : length_of c.in-Some.bounds + 2 ≤ length c.args.nodes.now = a.long in
    omega arith

pub items_replaced-requires-clause-there : goal.items_replaced-requires-clause-there
items_replaced-requires-clause-there c =
    let a = is_array c.args.nodes.now c.in-Some.bounds c.requires.value (sym c.bounds_at.ensures ∙ c.in-Some.is) in
    let n = is_array c.args.new.now c.in-Some-bounds_at.others c.requires.slice (sym c.bounds_at-2.ensures ∙ c.in-Some-bounds_at.is) in
    let is : is_slice c.in-Some.bounds c.args.range ≡ true = sym c.takes_slice.ensures ∙ c.if-not-takes_slice.false in
    let items : c.length-items.result ≡ length_of c.args.range = c.length-items.ensures in
    let others : c.length.result ≡ length_of c.in-Some-bounds_at.others = c.length.ensures in
    let start : c.start_of-place.result ≡ slice_start c.in-Some.bounds c.args.range = c.start_of-place.ensures in
    let fit : slice_start c.in-Some.bounds c.args.range + length_of c.args.range ≤ length_of c.in-Some.bounds = start_fits c.in-Some.bounds c.args.range is in
    elements_wanted c.args.nodes.now c.in-Some.bounds c.start_of-place.result c.length-items.result a (omega arith)

pub items_replaced-requires-clause-as_many : goal.items_replaced-requires-clause-as_many
items_replaced-requires-clause-as_many c =
    let a = is_array c.args.nodes.now c.in-Some.bounds c.requires.value (sym c.bounds_at.ensures ∙ c.in-Some.is) in
    let n = is_array c.args.new.now c.in-Some-bounds_at.others c.requires.slice (sym c.bounds_at-2.ensures ∙ c.in-Some-bounds_at.is) in
    let is : is_slice c.in-Some.bounds c.args.range ≡ true = sym c.takes_slice.ensures ∙ c.if-not-takes_slice.false in
    let items : c.length-items.result ≡ length_of c.args.range = c.length-items.ensures in
    let others : c.length.result ≡ length_of c.in-Some-bounds_at.others = c.length.ensures in
    elements_as_many c.args.new.now c.in-Some-bounds_at.others c.length-items.result n (omega arith)

pub returns-in-Ok : goal.returns-in-Ok
returns-in-Ok c =
    let a = is_array c.args.nodes.now c.in-Some.bounds c.requires.value (sym c.bounds_at.ensures ∙ c.in-Some.is) in
    let n = is_array c.args.new.now c.in-Some-bounds_at.others c.requires.slice (sym c.bounds_at-2.ensures ∙ c.in-Some-bounds_at.is) in
    let is : is_slice c.in-Some.bounds c.args.range ≡ true = sym c.takes_slice.ensures ∙ c.if-not-takes_slice.false in
    let items : c.length-items.result ≡ length_of c.args.range = c.length-items.ensures in
    let others : c.length.result ≡ length_of c.in-Some-bounds_at.others = c.length.ensures in
    let same : length_of c.in-Some-bounds_at.others ≡ length_of c.args.range = omega arith in
    slice_replaced c.args.nodes.now c.in-Some.bounds c.args.range c.in-Some-bounds_at.others c.start_of-place.result c.length-items.result c.args.new.now c.in-Ok.made.items a n is same c.start_of-place.ensures items c.in-Ok.ensures

pub items_replaced-requires-clause-all : goal.items_replaced-requires-clause-all
items_replaced-requires-clause-all c =
    let a = is_array c.args.nodes.now c.in-Some.bounds c.requires.value (sym c.bounds_at.ensures ∙ c.in-Some.is) in
    all_elements c.args.nodes.now c.in-Some.bounds c.length-many.result a c.length-many.ensures

pub overflow_cast-many : goal.overflow_cast-many
overflow_cast-many c =
    let a = is_array c.args.nodes.now c.in-Some.bounds c.requires.value (sym c.bounds_at.ensures ∙ c.in-Some.is) in
    let long : length_of c.in-Some.bounds + 2 ≤ length c.args.nodes.now = a.long in
    let many : c.length-many.result ≡ length_of c.in-Some.bounds = c.length-many.ensures in
    omega arith
