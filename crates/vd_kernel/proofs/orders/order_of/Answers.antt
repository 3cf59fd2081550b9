use Rattle.std.proofs.Common.{◌≡◌, ◌≤◌, true, length, drop, sym, ◌∙◌, subst, arith}
use Rattle.vd_kernel.specs.Orders.{IsPlacing, IsWalked, is_placed}
use Rattle.vd_kernel.proofs.Placings.{written_back, depths, deeper, at_rest, whole}
use Rattle.vd_kernel.proofs.orders.order_of.Goals as goal

pub place_ready-requires : goal.place_ready-requires
place_ready-requires c =
    subst (λ ps. IsPlacing c.args.along c.args.signals.now ps c.loop-pass.order.items) (sym c.deref_mut.ensures.value) c.loop-pass.invariant.placing

pub loop-pass-preserved : goal.loop-pass-preserved
loop-pass-preserved c =
    let walked = subst (λ ps. IsWalked c.args.along c.args.signals.now ps c.place_ready.new.placed (length c.args.signals.now)) c.deref_mut.ensures.value c.in_ok-place_ready.ensures.walked in
    let inv = c.loop-pass.invariant in
    let new = c.place_ready.new.placed in
    let long : length new ≡ c.loop-pass.placed.len = omega (arith, c.in_ok-place_ready.ensures.kept.long, inv.placing.long, c.loop-pass.placed.ok.0) in
    let back = written_back c.loop-pass.placed.len new (drop (length new) c.loop-pass.placed.items) long in
    record {
      placing = subst (λ ps. IsPlacing c.args.along c.args.signals.now ps c.place_ready.new.order.items) (sym back) c.in_ok-place_ready.ensures.kept;
      deep = λ depth d i l lt.
          subst (λ ps. is_placed ps i ≡ true) (sym back)
          (deeper c.args.along c.args.signals.now depth d c.loop-pass.placed.items c.place_ready.new.placed inv.placing.long walked c.loop-pass._pass (inv.deep depth d) i l lt);
    }

pub returns-then-not-branch : goal.returns-then-not-branch
returns-then-not-branch c =
    let along = c.args.along in
    let signals = c.args.signals.now in
    let new = c.place_ready.new.placed in
    let rest : new ≡ c.loop-pass.placed.items = c.in_ok-place_ready.ensures.quiet c.if-not-branch.true ∙ c.deref_mut.ensures.value in
    let walked = subst (λ ps. IsWalked along signals ps new (length signals)) (c.deref_mut.ensures.value ∙ sym rest) c.in_ok-place_ready.ensures.walked in
    let d = depths along signals c.requires in
    whole along signals new c.place_ready.new.order.items c.in_ok-place_ready.ensures.kept
    (λ i l. at_rest along signals d.0 d.1 new c.in_ok-place_ready.ensures.kept.long walked (length signals) i l (d.1.within i l))

pub returns : goal.returns
returns c =
    let d = depths c.args.along c.args.signals.now c.requires in
    let long : length c.args.signals.now ≤ c.loop-pass._pass = omega arith in
    whole c.args.along c.args.signals.now c.loop-pass.placed.items c.loop-pass.order.items c.loop-pass.invariant.placing
    (λ i l. let w = d.1.within i l in c.loop-pass.invariant.deep d.0 d.1 i l (omega arith))
