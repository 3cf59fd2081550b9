use Rattle.std.proofs.Common.{◌≡◌, ℕ, List, [], ◌∷◌, ◌++◌, get_or, w64, SFits, sym, ap, ◌∙◌, rules, arith}
use Rattle.std.specs.Prelude.{ℤ, pos, Ok, Err}
use Rattle.std.proofs.lemmas.Int.{to_z-of_z}
use Rattle.std.proofs.lemmas.Grind.{common_steps}
use Rattle.vd_vectors.specs.Logics.{logic_at}
use Rattle.vd_vectors.proofs.ListLemmas.{split_at, one_literal, no_literal}
use Rattle.vd_vectors.proofs.logics.literals_at.Goals as goal

pub returns-in-Err : goal.returns-in-Err
returns-in-Err c =
    let ps : List ℤ = c.args.positions.now in
    let i : ℕ = c.loop-position.position-index in
    let p : ℤ = get_or ps i (pos 0) in
    let fits : SFits w64 p = search rules in
    let e : logic_at c.args.of p ≡ Err c.in-Err.kind = ap (logic_at c.args.of) (sym (to_z-of_z w64 p fits)) ∙ sym c.literal_at.ensures ∙ c.in-Err.is in
    sym c.loop-position.invariant ∙ no_literal c.args.of c.loop-position.values.items i ps p c.in-Err.kind (split_at ps i (pos 0) c.loop-position-test.true) e

pub loop-position-preserved : goal.loop-position-preserved
loop-position-preserved c =
    let ps : List ℤ = c.args.positions.now in
    let i : ℕ = c.loop-position.position-index in
    let p : ℤ = get_or ps i (pos 0) in
    let fits : SFits w64 p = search rules in
    let e : logic_at c.args.of p ≡ Ok c.in-Ok-literal_at.value = ap (logic_at c.args.of) (sym (to_z-of_z w64 p fits)) ∙ sym c.literal_at.ensures ∙ c.in-Ok-literal_at.is in
    let step = one_literal c.args.of c.loop-position.values.items i ps p c.in-Ok-literal_at.value (split_at ps i (pos 0) c.loop-position-test.true) e in
    let pushed : c.push.new.self.items ≡ c.loop-position.values.items ++ c.in-Ok-literal_at.value ∷ [] = grind (arith, common_steps) in
    rw pushed (sym step ∙ c.loop-position.invariant)
