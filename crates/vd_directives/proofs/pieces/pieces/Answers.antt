use Rattle.std.proofs.Common.{◌≡◌, ◌+◌, ◌-◌, length, suc, ap, sym, ◌∙◌, subst, arith}
use Rattle.vd_directives.specs.Pieces.{IsFirst, pieces_of, pieces_within, first_of, ends, breaks, piece}
use Rattle.vd_directives.proofs.PieceLemmas.{found_before, found_step, found_end, found_more}
use Rattle.vd_directives.proofs.pieces.pieces.Goals as goal

pub returns-in-Nothing : goal.returns-in-Nothing
returns-in-Nothing c =
    let k = length c.args.text.now - (c.loop-taken.taken + 1) in
    let less : suc k ≡ length c.args.text.now - c.loop-taken.taken = omega arith in
    let e : first_of c.behind_spacing-here.result.now ≡ ends = subst (λ f. IsFirst f (first_of c.behind_spacing-here.result.now)) c.in-Nothing.is c.in_ok-first_piece.ensures in
    found_end k c.loop-taken.found.items (pieces_of c.args.text.now)
    (found_step (length c.args.text.now - c.loop-taken.taken) k c.loop-taken.rest.now c.loop-taken.found.items ends (pieces_of c.args.text.now) less
    (ap first_of (sym c.behind_spacing-here.ensures) ∙ e) c.loop-taken.invariant)

pub returns-in-Nonsense : goal.returns-in-Nonsense
returns-in-Nonsense c =
    let k = length c.args.text.now - (c.loop-taken.taken + 1) in
    let less : suc k ≡ length c.args.text.now - c.loop-taken.taken = omega arith in
    let e : first_of c.behind_spacing-here.result.now ≡ breaks = subst (λ f. IsFirst f (first_of c.behind_spacing-here.result.now)) c.in-Nonsense.is c.in_ok-first_piece.ensures in
    sym (found_step (length c.args.text.now - c.loop-taken.taken) k c.loop-taken.rest.now c.loop-taken.found.items breaks (pieces_of c.args.text.now) less
    (ap first_of (sym c.behind_spacing-here.ensures) ∙ e) c.loop-taken.invariant)

pub loop-taken-preserved : goal.loop-taken-preserved
loop-taken-preserved c =
    let k = length c.args.text.now - (c.loop-taken.taken + 1) in
    let less : suc k ≡ length c.args.text.now - c.loop-taken.taken = omega arith in
    let p = c.in-Next.piece in
    let e : first_of c.behind_spacing-here.result.now ≡ piece p c.in-Next.after.now =
    subst (λ f. IsFirst f (first_of c.behind_spacing-here.result.now)) c.in-Next.is c.in_ok-first_piece.ensures in
    let more = found_more k c.loop-taken.found.items p c.in-Next.after.now (pieces_of c.args.text.now)
    (found_step (length c.args.text.now - c.loop-taken.taken) k c.loop-taken.rest.now c.loop-taken.found.items (piece p c.in-Next.after.now) (pieces_of c.args.text.now) less
    (ap first_of (sym c.behind_spacing-here.ensures) ∙ e) c.loop-taken.invariant) in
    subst (λ ps. pieces_of c.args.text.now ≡ found_before ps (pieces_within k c.in-Next.after.now)) (sym c.in_ok-push-in-Next.ensures.items) more
