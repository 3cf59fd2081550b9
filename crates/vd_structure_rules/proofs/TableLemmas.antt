-- Tables that are filled from the last of a list to the first. No name has a dash, so that a caller can name each in
-- `#[tactic(auto, using(..))]`.
use Rattle.std.proofs.Common.{◌≡◌, ℕ, zero, suc, ◌+◌, ◌<◌, ◌==◌, Bool, true, false, cond, ◌||◌, List, [], ◌∷◌, ◌++◌, length, get_or, set, drop, Option, Some, None, is_some, refl, sym, ap, ◌∙◌, arith, add-one, drop-cons}
use Rattle.std.proofs.lemmas.Bool.Decides.{nat_tests}
use Rattle.vd_structure_rules.specs.declared.loops.LabelledLoop.{LabelledLoop}
use Rattle.vd_structure_rules.specs.Functions.{is_among}
use Rattle.vd_structure_rules.specs.Loops.{loop_of}

-- nothing more stands in a table with room for one more number
pub room_for_more : {A : Type 0} (table : List (Option A)) (k : ℕ) → get_or (table ++ None ∷ []) k None ≡ get_or table k None
room_for_more [] zero = refl
room_for_more [] (suc k) = refl
room_for_more (e ∷ table) zero = refl
room_for_more (e ∷ table) (suc k) = room_for_more table k

other_number : (m n : ℕ) → (m ≡ n → ⊥) → (m == n) ≡ false
other_number m n other = grind (arith, nat_tests)

same_successors : (m n : ℕ) → (m == n) ≡ (suc m == suc n)
same_successors m n = grind (arith, nat_tests)

-- what stands in a table after a change
pub after_setting : {A : Type 0} (table : List (Option A)) (n : ℕ) (e : Option A) (k : ℕ) → n < length table
    → get_or (set table n e) k None ≡ cond (k == n) e (get_or table k None)
after_setting [] n e k inside = absurd (omega arith)
after_setting (d ∷ table) zero e zero inside = refl
after_setting (d ∷ table) zero e (suc k) inside = ap (λ b. cond b e (get_or table k None)) (sym (other_number (suc k) 0 (omega arith)))
after_setting (d ∷ table) (suc n) e zero inside = ap (λ b. cond b e d) (sym (other_number 0 (suc n) (omega arith)))
after_setting (d ∷ table) (suc n) e (suc k) inside =
    after_setting table n e k (omega arith) ∙ ap (λ b. cond b e (get_or table k None)) (same_successors k n)

-- ---- functions that have bodies

-- one more of the list, from the one behind it
pub body_put : (bodies : List ℕ) (left k : ℕ) (found old : Option ℕ) → left < length bodies
    → found ≡ cond (k == get_or bodies left 0) (Some (get_or bodies left 0)) old → is_some old ≡ is_among (drop (left + 1) bodies) k
    → is_some found ≡ is_among (drop left bodies) k
body_put bodies left k found old inside put before =
    ap is_some put ∙ by_which (k == get_or bodies left 0) ∙ ap (λ b. k == get_or bodies left 0 || b) before ∙ sym (ap (λ bs. is_among bs k) (one_more bodies left inside))
  where
    by_which : (b : Bool) → is_some (cond b (Some (get_or bodies left 0)) old) ≡ (b || is_some old)
    by_which true = refl
    by_which false = refl

    one_more : (bs : List ℕ) (n : ℕ) → n < length bs → drop n bs ≡ get_or bs n 0 ∷ drop (n + 1) bs
    one_more bs n within = rw (add-one, drop-cons bs n 0)

-- ---- loops with labels

pub loop_put : (loops : List LabelledLoop) (left k : ℕ) (l : LabelledLoop) (found old : Option LabelledLoop) → left < length loops
    → l ≡ get_or loops left l
    → found ≡ cond (k == l.label) (Some l) old → old ≡ loop_of (drop (left + 1) loops) k
    → found ≡ loop_of (drop left loops) k
loop_put loops left k l found old inside is put before =
    put ∙ ap (λ o. cond (k == l.label) (Some l) o) before ∙ sym (ap (λ ls. loop_of ls k) (one_more loops left inside ∙ ap (λ x. x ∷ drop (left + 1) loops) (sym is)))
  where
    one_more : (ls : List LabelledLoop) (n : ℕ) → n < length ls → drop n ls ≡ get_or ls n l ∷ drop (n + 1) ls
    one_more ls n within = rw (add-one, drop-cons ls n l)
