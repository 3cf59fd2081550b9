use Rattle.std.proofs.Common.{◌≡◌, ◌<◌, length, sym, ap, ◌∙◌, subst}
use Rattle.std.specs.Prelude.{IfOk}
use Rattle.vd_vectors.specs.declared.shifts.ShiftOperator.TheVariants.{RotateRight}
use Rattle.vd_vectors.specs.Shifts.{places}
use Rattle.vd_vectors.proofs.ShiftLemmas.{nothing_right, rotation_right, none_of, some_of}
use Rattle.vd_vectors.proofs.shifts.rotate_right.Goals as goal

pub returns-then-is_empty : goal.returns-then-is_empty
returns-then-is_empty c =
    c.new.ensures.items ∙ sym (nothing_right c.args.count) ∙ ap (places c.args.count RotateRight) (sym (none_of c.args.values.now (sym c.is_empty.ensures ∙ c.if-is_empty.true)))

pub returns : goal.returns
returns c =
    let some : 0 < length c.args.values.now = some_of c.args.values.now (sym c.is_empty.ensures ∙ c.if-is_empty.false) in
    subst (λ xs. IfOk c.rotate.result (λ made. made.items ≡ xs)) (sym (rotation_right c.args.count c.args.values.now some)) c.rotate.ensures
