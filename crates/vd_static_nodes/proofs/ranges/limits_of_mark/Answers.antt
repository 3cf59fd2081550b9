use Rattle.std.proofs.Common.{◌≡◌, ◌≤◌, ap, arith, false, length, refl, true, ◌∙◌}
use Rattle.std.proofs.lemmas.Option.{slice_get_past, slice_get_read}
use Rattle.vd_environments.specs.Environments.{Static, both, own_bounds}
use Rattle.vd_meaning.specs.Facets.{from, nth}
use Rattle.vd_meaning.specs.Meanings.{limits_of_mark}
use Rattle.vd_meaning.specs.Names.{name_bounds}
use Rattle.vd_static_names.proofs.StopLemmas.{left_true, right_true}
use Rattle.vd_static_parts.proofs.PartLemmas.{nth_here}
use Rattle.vd_static_nodes.proofs.RangeLemmas.{known_missing}
use Rattle.vd_static_nodes.proofs.ranges.limits_of_mark.Goals as goal

pub returns-in_default-clause-node : goal.returns-in_default-clause-node
returns-in_default-clause-node c = λ e ms seen are.
    let store = c.args.ground.now.subtypes.now in
    let parts = c.args.parts.now in
    let below : length parts ≤ 1 = omega arith in
    let missing = known_missing store e parts ms are (slice_get_past parts 1 below) in
    c.ranging.ensures.node store e (from 1 ms) (limits_of_mark (nth 0 ms) (nth 1 ms)) (λ f. both (name_bounds (nth 0 ms).name f) ((nth 1 ms).known f))
    (c.never.ensures ∙ missing)
    (λ local. let never_local : false ≡ true = ap (λ (s : Static). s.is_local) missing ∙ local in absurd (cc))

pub returns-clause-node : goal.returns-clause-node
returns-clause-node c = λ e ms seen are.
    let store = c.args.ground.now.subtypes.now in
    let parts = c.args.parts.now in
    let x = c.mark-item.result in
    let y = c.limits-item.result in
    let mark = nth_here store e 0 parts ms x are (slice_get_read parts (length parts) 0 x refl (omega arith) c.mark-item.is) in
    let limits = nth_here store e 1 parts ms y are (slice_get_read parts (length parts) 1 y refl (omega arith) c.limits-item.is) in
    let own = own_bounds ((nth 0 ms).name.make e) in
    let slices = (nth 0 ms).name.local_slices e in
    let bounds = name_bounds (nth 0 ms).name e in
    let late = ((nth 1 ms).known e).is_local in
    c.ranging-2.ensures.node store e (from 1 ms) (limits_of_mark (nth 0 ms) (nth 1 ms)) (λ f. both (name_bounds (nth 0 ms).name f) ((nth 1 ms).known f))
    (c.both-known.ensures ∙ (λ i. both (c.name_bounds.ensures e (nth 0 ms).name mark.sense.name i) (limits.sense.known i)))
    (λ local.
    c.within-range.ensures e (nth 0 ms) (nth 1 ms) mark.sense.name (right_true own.is_local slices (left_true bounds.is_local late local)) limits.sense.range
    (right_true bounds.is_local late local))
