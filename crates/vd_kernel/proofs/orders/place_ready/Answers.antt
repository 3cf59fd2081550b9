use Rattle.std.proofs.Common.{◌≡◌, ◌<◌, ◌+◌, true, [], ◌∷◌, ◌++◌, length, set, sym, ap, ◌∙◌, subst, arith}
use Rattle.std.proofs.lemmas.List.{get_or_read}
use Rattle.vd_kernel.specs.Models.{no_signal}
use Rattle.vd_kernel.specs.Orders.{IsPlacing, IsWalked, is_ready}
use Rattle.vd_kernel.proofs.Placings.{placed_within, place_more, walked_placed, walked_unready, walked_set}
use Rattle.vd_kernel.proofs.orders.place_ready.Goals as goal
use Rattle.vd_kernel.proofs.orders.place_ready.Goals.{then-not-placed-i+then-can_be_placed+in_ok-push, else-not-placed-i, else-not-placed-i-via-then-not-placed-i+else-can_be_placed, else-not-placed-i-via-else-not-placed-i}

pub loop-i-preserved : goal.loop-i-preserved
loop-i-preserved c =
    let along = c.args.along in
    let signals = c.args.signals.now in
    let old = c.args.placed.now in
    let placed = c.loop-i.placed in
    let order = c.loop-i.order.items in
    let i = c.loop-i.i in
    let inv = c.loop-i.invariant in
    let within : i < length signals = omega arith in
    let within' : i < length placed = omega (arith, inv.placing.long) in
    elim c.if-not-placed-i.branch [
      | then-not-placed-i+then-can_be_placed+in_ok-push w ↦
          let at = get_or_read signals i w.index-signals-i.result within w.index-signals-i.is no_signal in
          let ready = ap (is_ready along placed) (sym at) ∙ sym w.can_be_placed.ensures ∙ w.if-can_be_placed.true in
          let es : c.if-not-placed-i.order.items ≡ order ++ i ∷ [] = ap (λ v. v.items) w.order-is ∙ w.in_ok-push.ensures.items in
          let g : c.if-not-placed-i.grew ≡ true = w.grew-is in
          record {
            placing =
                subst (λ ps. IsPlacing along signals ps c.if-not-placed-i.order.items) (sym w.placed-is)
                (subst (λ os. IsPlacing along signals (set placed i true) os) (sym es) (place_more along signals placed order i inv.placing within ready));
            walked = subst (λ ps. IsWalked along signals old ps (i + 1)) (sym w.placed-is) (walked_set along signals old placed i inv.walked within');
            quiet = λ e. cc;
          }
      | else-not-placed-i w ↦
          let same : IsPlacing along signals c.if-not-placed-i.placed c.if-not-placed-i.order.items =
          subst (λ ps. IsPlacing along signals ps c.if-not-placed-i.order.items) (sym w.placed-is)
          (subst (λ os. IsPlacing along signals placed os) (sym (ap (λ v. v.items) w.order-is)) inv.placing) in
          let walked : IsWalked along signals old placed (i + 1) =
          elim w.else-not-placed-i.branch [
            | else-not-placed-i-via-then-not-placed-i+else-can_be_placed v ↦
                let at = get_or_read signals i v.index-signals-i.result within v.index-signals-i.is no_signal in
                walked_unready along signals old placed i inv.walked (ap (is_ready along placed) (sym at) ∙ sym v.can_be_placed.ensures ∙ v.if-can_be_placed.false)
            | else-not-placed-i-via-else-not-placed-i v ↦ walked_placed along signals old placed i inv.walked (placed_within placed i v.if-not-placed-i.false)
          ] in
          record {
            placing = same;
            walked = subst (λ ps. IsWalked along signals old ps (i + 1)) (sym w.placed-is) walked;
            quiet = λ e. w.placed-is ∙ inv.quiet (sym w.grew-is ∙ e);
          }
    ]
