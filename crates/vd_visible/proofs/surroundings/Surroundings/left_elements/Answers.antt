use Rattle.std.proofs.Common.{sym, ◌∙◌, ap}
use Rattle.std.specs.List.{filter}
use Rattle.vd_visible.specs.Sights.{sight_from}
use Rattle.vd_visible.specs.Lists.{is_left}
use Rattle.vd_visible.proofs.FilterLemmas.{one_more_found, one_less_left}
use Rattle.vd_visible.proofs.surroundings.Surroundings.left_elements.Goals as goal
use Rattle.vd_visible.proofs.surroundings.Surroundings.left_elements.Goals.{then-is_left+in_ok-push, else-is_left}

pub loop-field-preserved : goal.loop-field-preserved
loop-field-preserved c =
    let p = is_left (sight_from c.args.self.now) c.args.elements.now in
    let xs = c.behind-fields.result.now in
    elim c.if-is_left.branch [
      | then-is_left+in_ok-push w ↦
          one_more_found p xs c.loop-field.left.items c.if-is_left.left.items (filter p xs) c.loop-field.field-index c.field-item.result c.loop-field-test.true c.field-item.is (sym c.is_left.ensures ∙ w.if-is_left.true)
          (ap (λ v. v.items) w.left-is ∙ w.in_ok-push.ensures.items) c.loop-field.invariant
      | else-is_left w ↦
          one_less_left p xs c.loop-field.left.items c.if-is_left.left.items (filter p xs) c.loop-field.field-index c.field-item.result c.loop-field-test.true c.field-item.is (sym c.is_left.ensures ∙ w.if-is_left.false)
          (ap (λ v. v.items) w.left-is) c.loop-field.invariant
    ]
