use Rattle.std.proofs.Common.{◌≡◌, ◌<◌, suc, [], ◌∷◌, ◌++◌, length, take, drop, is_some, sym, ap, ◌∙◌, arith}
use Rattle.std.proofs.Math.Seq.{drop-cons}
use Rattle.std.proofs.lemmas.List.{take-append-drop, take_more}
use Rattle.vd_kernel.specs.Traces.{with_two}
use Rattle.vd_first_runs.proofs.ShapeLemmas.{two_found, two_passed}
use Rattle.vd_first_runs.proofs.shapes.has_two_sources.Goals as goal

pub returns-then-has_two : goal.returns-then-has_two
returns-then-has_two c =
    let ss = c.args.scalars.now in
    let i = c.loop-scalar.scalar-index in
    let s = c.scalar-item.result in
    let within : i < length ss = omega arith in
    let parted : ss ≡ take i ss ++ s ∷ drop (suc i) ss =
    sym (take-append-drop i ss) ∙ ap (λ xs. take i ss ++ xs) (drop-cons ss i s within ∙ ap (λ x. x ∷ drop (suc i) ss) (sym c.scalar-item.is)) in
    sym (ap (λ xs. is_some (with_two 0 xs)) parted ∙ two_found 0 (take i ss) s (drop (suc i) ss) c.loop-scalar.invariant (sym c.has_two.ensures ∙ c.if-has_two.true))

pub loop-scalar-preserved : goal.loop-scalar-preserved
loop-scalar-preserved c =
    let ss = c.args.scalars.now in
    let i = c.loop-scalar.scalar-index in
    let s = c.scalar-item.result in
    let within : i < length ss = omega arith in
    ap (with_two 0) (take_more ss i s within ∙ ap (λ x. take i ss ++ x ∷ []) (sym c.scalar-item.is))
    ∙ two_passed 0 (take i ss) s c.loop-scalar.invariant (sym c.has_two.ensures ∙ c.if-has_two.false)
