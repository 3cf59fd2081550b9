use Rattle.std.proofs.Common.{◌≡◌, ◌<◌, ◌≢◌, ℕ, length, set, sym, ◌∙◌, subst, ⊎_elim, arith, get_or-set_same, get_or-set_other}
use Rattle.std.proofs.lemmas.Bool.{cases_eq}
use Rattle.std.proofs.lemmas.List.{get_or_default}
use Rattle.vd_values.specs.declared.scalar.Scalar.TheVariants.{Literal}
use Rattle.vd_kernel.specs.Histories.{history_after, history_at, no_history}
use Rattle.vd_kernel.specs.SignalValues.{value_at}
use Rattle.vd_kernel.proofs.HistoryLemmas.{same_after}
use Rattle.vd_kernel.proofs.histories.note_changes.Goals as goal

pub loop-i-preserved : goal.loop-i-preserved
loop-i-preserved c =
    let old = c.args.old.now in
    let new = c.args.new.now in
    let first = c.args.histories.now in
    let hs = c.loop-i.histories in
    let i = c.loop-i.i in
    let x = c.noted-history.result in
    let inv = c.loop-i.invariant in
    let within : i < length hs = omega arith in
    let here : x ≡ history_after (value_at old i) (value_at new i) (history_at first i) =
    c.noted-history.ensures
    ∙ same_after _ (value_at old i) _ (value_at new i) _ (history_at first i) (get_or_default old i _ (Literal 0) (omega (arith, c.requires.old_long)))
    (get_or_default new i _ (Literal 0) (omega (arith, c.requires.new_long))) (get_or_default hs i _ no_history within ∙ inv.same i (omega arith)) in
    let P : ℕ → Type 0 = λ j. history_at (set hs i x) j ≡ history_after (value_at old j) (value_at new j) (history_at first j) in
    record {
      told = λ j h.
          ⊎_elim
          (λ e. subst P (sym e) (get_or-set_same hs i x no_history within ∙ here))
          (λ ne. get_or-set_other hs i j x no_history ne ∙ inv.told j (omega arith))
          (cases_eq j i);
      same = λ j h.
          let ne : j ≢ i = omega arith in
          get_or-set_other hs i j x no_history ne ∙ inv.same j (omega arith);
    }
