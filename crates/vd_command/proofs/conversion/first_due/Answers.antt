use Rattle.std.proofs.Common.{◌≡◌, ◌<◌, ◌≤◌, List, [], ◌∷◌, length, get_or, ap, ◌∙◌, subst, arith}
use Rattle.vd_command.specs.Outcomes.{IsNotFirst}
use Rattle.vd_command.proofs.conversion.first_due.Goals as goal

-- a list of one item
one_item : {A : Type 0} (xs : List A) (x : A) → 1 ≤ length xs → length xs < 2 → x ≡ get_or xs 0 x → x ∷ [] ≡ xs
one_item [] x some few is = absurd (omega (arith, some))
one_item (y ∷ []) x some few is = ap (λ item. item ∷ []) is
one_item (y ∷ z ∷ zs) x some few is = absurd (omega (arith, few))

pub returns-in-len1-clause-other : goal.returns-in-len1-clause-other
returns-in-len1-clause-other c =
    let alone : c.content-item.result ∷ [] ≡ c.args.contents.now = one_item c.args.contents.now c.content-item.result (omega arith) (omega arith) c.content-item.is in
    let same : c.as_slice.result.now ≡ c.content-item.result = cc in
    λ none. subst IsNotFirst (ap (λ item. item ∷ []) same ∙ alone) (c.file_due.ensures.other none)
