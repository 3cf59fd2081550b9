use Rattle.std.specs.Prelude.{pos}
use Rattle.vd_values.specs.declared.scalar.Scalar.TheVariants.{Integer}
use Rattle.std.proofs.Common.{sym, ap, ◌∙◌, get_or, ◌++◌, ◌∷◌, []}
use Rattle.vd_kernel.specs.declared.assignments.Transaction.{Transaction}
use Rattle.vd_kernel.proofs.AssignedLists.{next_drops, next_stays, next_later}
use Rattle.vd_kernel.proofs.projections.after_assignment.Goals as goal
use Rattle.vd_kernel.proofs.projections.after_assignment.Goals.{then-t-new+then-is_other, then-t-new+else-is_other+in_ok-push, else-t-new}

pub loop-t-preserved : goal.loop-t-preserved
loop-t-preserved c =
    let old = c.args.old.now in
    let i = c.loop-t.t-index in
    let t : Transaction = record { time = 0; value = Integer (pos 0) } in
    elim c.if-t-new.branch [
      | then-t-new+then-is_other w ↦
          ap (λ v. v.items) w.after-is ∙ w.clear.ensures.items
          ∙ sym (next_drops c.args.delay c.args.new old c.requires i t c.loop-t-test.true w.if-t-new.true (sym w.if-is_other.ensures))
      | then-t-new+else-is_other+in_ok-push w ↦
          ap (λ v. v.items) w.after-is ∙ w.in_ok-push.ensures.items ∙ ap (λ l. l ++ get_or old i t ∷ []) c.loop-t.invariant
          ∙ sym (next_stays c.args.delay c.args.new old c.requires i t c.loop-t-test.true w.if-t-new.true (sym w.if-is_other.ensures))
      | else-t-new w ↦
          ap (λ v. v.items) w.after-is ∙ c.loop-t.invariant
          ∙ sym (next_later c.args.delay c.args.new old c.requires i t c.loop-t-test.true w.if-t-new.false)
    ]
