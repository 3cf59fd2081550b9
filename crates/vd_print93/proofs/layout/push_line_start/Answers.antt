use Rattle.std.proofs.Common.{◌≡◌, ◌+◌, ◌*◌, ◌++◌, ◌∷◌, [], ap, ◌∙◌, append_assoc, replicate, arith}
use Rattle.std.proofs.lemmas.List.{replicate-append-replicate}
use Rattle.vd_print93.proofs.layout.push_line_start.Goals as goal

pub loop-step-preserved : goal.loop-step-preserved
loop-step-preserved c =
    let start = c.args.out.now.items ++ 10 ∷ [] in
    let n = 2 * c.loop-step._step in
    let more : n + 2 ≡ 2 * (c.loop-step._step + 1) = omega arith in
    c.in_ok-extend_from_slice.ensures.items
    ∙ ap (λ x. x ++ replicate 2 32) c.loop-step.invariant
    ∙ append_assoc start (replicate n 32) (replicate 2 32)
    ∙ ap (λ x. start ++ x) (replicate-append-replicate n 2 32 ∙ ap (λ m. replicate m 32) more)
