-- How far a file has been read.
use Rattle.std.proofs.Common.{◌≡◌, ℕ, ◌+◌, ◌≤◌, List, [], ◌++◌, length, take, drop, Option, None, Some, option_map, IfSome, refl, sym, ◌∙◌, ap, subst, arith, append_assoc, length-append, length-take}
use Rattle.std.proofs.Math.Seq.{take-append_seam}
use Rattle.std.proofs.lemmas.List.{append-nil, take-append-drop}
use Rattle.std.proofs.lemmas.Option.{MatchOption-at_some}
use Rattle.vd_bytes.specs.Trays.{TakesFront}

-- the bytes that were read, and then what is left, are the content
pub record IsReadUpTo (content bytes : List ℕ) (rest : Option (List ℕ)) : Type 0 where
  pub left : List ℕ
  pub told : rest ≡ Some left
  pub whole : content ≡ bytes ++ left

-- at first nothing was read
pub IsReadUpTo-start : (rest : Option (List ℕ)) (bytes : List ℕ) → bytes ≡ [] → IfSome rest (λ content. IsReadUpTo content bytes rest)
IsReadUpTo-start None bytes none = tt
IsReadUpTo-start (Some content) bytes none = record { left = content; told = refl; whole = ap (λ b. b ++ content) (sym none) }

-- what stands first in the buffer was first in what was left
front : (n : ℕ) (left old new : List ℕ) → TakesFront n left old new → take n new ≡ take n left
front n left old new t =
    let size : length (take n left) ≡ n = simp length-take (omega (arith, t.within)) in
    let P : ℕ → Type 0 = λ m. take m (take n left ++ drop n old) ≡ take n left in
    ap (take n) t.buffer ∙ subst P size (take-append_seam (take n left) (drop n old))

module _ (content bytes : List ℕ) (rest : Option (List ℕ)) (n : ℕ) (old new : List ℕ) (so_far : IsReadUpTo content bytes rest) where
  taken_from : IfSome rest (λ left. TakesFront n left old new) → TakesFront n so_far.left old new
  taken_from taken = MatchOption-at_some _ (λ left. TakesFront n left old new) so_far.left so_far.told taken

  -- a read goes on from there
  pub IsReadUpTo-more : (rest' : Option (List ℕ)) → IfSome rest (λ left. TakesFront n left old new) → rest' ≡ option_map (drop n) rest → IsReadUpTo content (bytes ++ take n new) rest'
  IsReadUpTo-more rest' taken after =
      let left : List ℕ = so_far.left in
      let same : take n new ≡ take n left = front n left old new (taken_from taken) in
      record {
        left = drop n left;
        told = after ∙ ap (option_map (drop n)) so_far.told;
        whole = so_far.whole ∙ ap (λ x. bytes ++ x) (sym (take-append-drop n left)) ∙ sym (append_assoc bytes (take n left) (drop n left)) ∙ ap (λ x. (bytes ++ x) ++ drop n left) (sym same);
      }

  -- the content has at least what a read gave behind what was read before
  pub IsReadUpTo-long : IfSome rest (λ left. TakesFront n left old new) → length bytes + n ≤ length content
  IsReadUpTo-long taken =
      let t = taken_from taken in
      rw (so_far.whole, length-append) (omega (arith, t.within))

-- a part of a buffer is no longer than asked for
pub length-more : (bytes piece : List ℕ) (n : ℕ) → length (bytes ++ take n piece) ≤ length bytes + n
length-more bytes piece n = simp (length-append, length-take) (omega arith)

-- where nothing is left, all was read
pub IsReadUpTo-end : (content bytes : List ℕ) (rest : Option (List ℕ)) → IsReadUpTo content bytes rest → IfSome rest (λ left. left ≡ []) → bytes ≡ content
IsReadUpTo-end content bytes rest so_far ended =
    let none : so_far.left ≡ [] = MatchOption-at_some _ (λ left. left ≡ []) so_far.left so_far.told ended in
    sym (so_far.whole ∙ ap (λ x. bytes ++ x) none ∙ append-nil bytes)

-- what is said of what is left, where that is the content of a file that is told
pub IfSome-found : {F : Type 0} (files : Option F) (rest : Option (List ℕ)) (content : F → List ℕ) (P : List ℕ → Type 0) → IfSome files (λ told. rest ≡ Some (content told)) → IfSome rest P → IfSome files (λ told. P (content told))
IfSome-found None rest content P found holds = tt
IfSome-found (Some told) rest content P found holds = MatchOption-at_some _ P (content told) found holds
