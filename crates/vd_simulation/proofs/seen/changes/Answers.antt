use Rattle.std.proofs.Common.{◌≡◌, ◌+◌, ◌≤◌, [], ◌∷◌, ◌++◌, length, None, sym, ap, ap₂, ◌∙◌, ⊎_elim, arith}
use Rattle.std.specs.Prelude.{slice_index_or}
use Rattle.std.proofs.Math.Seq.{get_or-append_seam}
use Rattle.std.proofs.lemmas.Bool.{cases_lt}
use Rattle.std.proofs.lemmas.List.{get_or_past, get_or_default, get_or_append_left, length_push}
use Rattle.vd_values.specs.declared.scalar.Scalar.TheVariants.{Literal}
use Rattle.vd_kernel.specs.Cycles.{before_change}
use Rattle.vd_kernel.specs.SignalValues.{value_at}
use Rattle.vd_simulation.proofs.seen.changes.Goals as goal

pub loop-i-preserved : goal.loop-i-preserved
loop-i-preserved c =
    let before = c.loop-i.before.items in
    let old = c.args.old.now in
    let new = c.args.new.now in
    let i = c.loop-i.i in
    let x = c.before_new.result in
    let inv = c.loop-i.invariant in
    let pushed = c.in_ok-push.ensures.items in
    let here : x ≡ before_change (value_at old i) (value_at new i) (value_at old i) (value_at new i) =
    c.before_new.ensures
    ∙ ap₂ (λ v w. before_change v w v w) (get_or_default old i _ (Literal 0) (omega (arith, c.requires))) (get_or_default new i _ (Literal 0) (omega arith)) in
    record {
      long = ap length pushed ∙ length_push before x ∙ ap (λ n. n + 1) inv.long;
      known = λ j h.
          ap (λ xs. slice_index_or xs j None) pushed
          ∙ ⊎_elim
          (λ lt. get_or_append_left before (x ∷ []) None j (omega (arith, inv.long)) ∙ inv.known j lt)
          (λ le.
          let e : j ≡ length before = omega (arith, inv.long) in
          let e' : i ≡ j = omega (arith, inv.long) in
          ap (λ k. slice_index_or (before ++ x ∷ []) k None) e ∙ get_or-append_seam before x [] None ∙ here
          ∙ ap (λ k. before_change (value_at old k) (value_at new k) (value_at old k) (value_at new k)) e')
          (cases_lt j i);
    }

pub returns : goal.returns
returns c = λ i.
    let before = c.loop-i.before.items in
    let old = c.args.old.now in
    let new = c.args.new.now in
    ⊎_elim
    (λ lt. c.loop-i.invariant.known i (omega (arith, c.loop-i.invariant.long)))
    (λ le.
    let past_new : length new ≤ i = omega (arith, c.loop-i.invariant.long) in
    let past_old : length old ≤ i = omega (arith, c.loop-i.invariant.long, c.requires) in
    get_or_past before i None le
    ∙ sym (ap₂ (λ x y. before_change x y x y) (get_or_past old i (Literal 0) past_old) (get_or_past new i (Literal 0) past_new)))
    (cases_lt i (length before))
