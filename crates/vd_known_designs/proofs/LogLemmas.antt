-- Changes that are noted in a log and taken back. No name has a dash, so that a caller can name each in `#[tactic(auto, using(..))]`.
use Rattle.std.proofs.Common.{◌≡◌, ◌≤◌, List, [], ◌∷◌, ◌++◌, ap, arith, drop, length, refl, subst, sym, ℕ, ◌∙◌}
use Rattle.std.proofs.lemmas.List.{drop-append-le, length-append}
use Rattle.vd_known_designs.specs.Contents.{AreRestorable, Content, IsLonger, IsRestorable, Lengths, content_of, lengths_of, undo, undone}
use Rattle.vd_known_designs.specs.Known.{GoesBack}
use Rattle.vd_known_designs.specs.declared.contents.Contents.{Contents}
use Rattle.vd_known_designs.specs.declared.contents.Replaced.{Replaced}
use Rattle.vd_known_designs.specs.declared.contents.Replaced.TheVariants as replaced

pub undone_both : (rs ss : List Replaced) (c : Content) → undone (rs ++ ss) c ≡ undone rs (undone ss c)
undone_both [] ss c = refl
undone_both (r ∷ rs) ss c = ap (undo r) (undone_both rs ss c)

-- with one change more, whatever was before it is still found
pub had_before : (log log' : List Replaced) (r : Replaced) (c c' : Content) → log' ≡ log ++ r ∷ [] → undo r c' ≡ c → (n : ℕ) → n ≤ length log
    → undone (drop n log') c' ≡ undone (drop n log) c
had_before log log' r c c' noted undoes n within =
    ap (λ rs. undone (drop n rs) c') noted
    ∙ ap (λ rs. undone rs c') (drop-append-le n log (r ∷ []) within)
    ∙ undone_both (drop n log) (r ∷ []) c'
    ∙ ap (undone (drop n log)) undoes

-- ---- what can be taken back

restorable_longer : (l l' : Lengths) (r : Replaced) → IsLonger l l' → IsRestorable l r → IsRestorable l' r
restorable_longer l l' (replaced.Denoted n entry choosing) longer is =
    (omega (arith, is.0, longer.entries), omega (arith, is.1, longer.choosing))
restorable_longer l l' (replaced.Package n text) longer is = omega (arith, is, longer.packages)
restorable_longer l l' (replaced.Function n text) longer is = omega (arith, is, longer.functions)
restorable_longer l l' (replaced.Surroundings is_inside result) longer is = tt

pub all_restorable_longer : (l l' : Lengths) (rs : List Replaced) → IsLonger l l' → AreRestorable l rs → AreRestorable l' rs
all_restorable_longer l l' [] longer are = tt
all_restorable_longer l l' (r ∷ rs) longer are = (restorable_longer l l' r longer are.0, all_restorable_longer l l' rs longer are.1)

pub restorable_pushed : (l : Lengths) (rs : List Replaced) (r : Replaced) → AreRestorable l rs → IsRestorable l r → AreRestorable l (rs ++ r ∷ [])
restorable_pushed l [] r are is = (is, tt)
restorable_pushed l (s ∷ rs) r are is = (are.0, restorable_pushed l rs r are.1 is)

pub restorable_popped : (l : Lengths) (rs : List Replaced) (r : Replaced) → AreRestorable l (rs ++ r ∷ []) → AreRestorable l rs
restorable_popped l [] r are = tt
restorable_popped l (s ∷ rs) r are = (are.0, restorable_popped l rs r are.1)

pub restorable_last : (l : Lengths) (rs : List Replaced) (r : Replaced) → AreRestorable l (rs ++ r ∷ []) → IsRestorable l r
restorable_last l [] r are = are.0
restorable_last l (s ∷ rs) r are = restorable_last l rs r are.1

-- ---- one change is taken back

pub goes_back_more : (x y z : Contents) (log left left' : List Replaced) (r : Replaced) → left ≡ left' ++ r ∷ []
    → (IsRestorable (lengths_of y) r → content_of z ≡ undo r (content_of y)) → lengths_of z ≡ lengths_of y → GoesBack x y log left
    → GoesBack x z log left'
goes_back_more x y z log left left' r popped undoes lengths gone =
    let are : AreRestorable (lengths_of y) (left' ++ r ∷ []) = subst (AreRestorable (lengths_of y)) popped gone.restorable in
    let back = undoes (restorable_last (lengths_of y) left' r are) in
    record {
      had = λ n within.
          let before : n ≤ length left = omega (arith, ap length popped, length-append left' (r ∷ [])) in
          sym (had_before left' left r (content_of z) (content_of y) popped (sym back) n within) ∙ gone.had n before;
      restorable = subst (λ l. AreRestorable l left') (sym lengths) (restorable_popped (lengths_of y) left' r are);
    }
