-- What stands in a region, among some entries and one more.
use Rattle.std.proofs.Common.{◌≡◌, ◌<◌, ◌+◌, ◌==◌, ◌++◌, ℕ, suc, true, false, Bool, List, [], ◌∷◌, length, take, get_or, cond, refl, sym, ap, ◌∙◌, arith, append-nil, true≢false}
use Rattle.std.proofs.Math.Seq.{take-suc}
use Rattle.std.proofs.lemmas.List.{length-take-le}
use Rattle.std.specs.Bool.{if◌then◌else◌}
use Rattle.std.proofs.lemmas.Bool.Decides.{nat_tests}
use Rattle.vd_regions.specs.Scopes.{Scopes, nothing_entered, entered_at}
use Rattle.vd_name_rows.specs.Counts.{AreMembers}
use Rattle.vd_regions.specs.declared.entries.Entered.{Entered}
use Rattle.vd_name_rows.specs.Members.{numbers_in}

abbrev pub front : Bool → ℕ → List ℕ → List ℕ
front b k ks = if b then k ∷ ks else ks

front_append : (b : Bool) (k : ℕ) (ks ls : List ℕ) → front b k (ks ++ ls) ≡ front b k ks ++ ls
front_append true k ks ls = refl
front_append false k ks ls = refl

pub one_more_in : (region k : ℕ) (xs : List Entered) (e : Entered)
    → numbers_in region k (xs ++ e ∷ []) ≡ numbers_in region k xs ++ front (e.region == region) (k + length xs) []
one_more_in region k [] e = let same : k ≡ k + 0 = omega arith in ap (λ n. front (e.region == region) n []) same
one_more_in region k (x ∷ xs) e =
    let same : suc k + length xs ≡ k + length (x ∷ xs) = omega arith in
    ap (front (x.region == region) k) (one_more_in region (suc k) xs e)
    ∙ front_append (x.region == region) k (numbers_in region (suc k) xs) (front (e.region == region) (suc k + length xs) [])
    ∙ ap (λ n. front (x.region == region) k (numbers_in region (suc k) xs) ++ front (e.region == region) n []) same

-- among the first ones and the next one
pub next_member : (region : ℕ) (es : List Entered) (n : ℕ) → n < length es
    → numbers_in region 0 (take (suc n) es) ≡ numbers_in region 0 (take n es) ++ front ((get_or es n nothing_entered).region == region) n []
next_member region es n within =
    let taken = length-take-le n es (omega (arith, within)) in
    let long : 0 + length (take n es) ≡ n = omega (arith, taken) in
    ap (numbers_in region 0) (take-suc es n nothing_entered within)
    ∙ one_more_in region 0 (take n es) (get_or es n nothing_entered)
    ∙ ap (λ m. numbers_in region 0 (take n es) ++ front ((get_or es n nothing_entered).region == region) m []) long

same_either_way : (m n : ℕ) → (m == n) ≡ (n == m)
same_either_way m n = grind (arith, nat_tests)

same_number : (m n : ℕ) → (m == n) ≡ true → m ≡ n
same_number m n same = grind (same, arith, nat_tests)

-- the lists by regions with one more
pub next_members : (s : Scopes) (n own id : ℕ) (old new : List (List ℕ)) → own ≡ (entered_at s n).region → id ≡ n → n < length s.entered → AreMembers s n old
    → ((r : ℕ) → get_or new r [] ≡ cond (r == own) (get_or old own [] ++ id ∷ []) (get_or old r []))
    → AreMembers s (n + 1) new
next_members s n own id old new own_is id_is within before put region =
    let one : suc n ≡ n + 1 = omega arith in
    put region
    ∙ ap (λ k. cond (region == own) (get_or old own [] ++ k ∷ []) (get_or old region [])) id_is
    ∙ by_which (region == own) ((entered_at s n).region == region) (same_either_way region own ∙ ap (λ r. r == region) own_is) (same_number region own)
    ∙ sym (next_member region s.entered n within)
    ∙ ap (λ m. numbers_in region 0 (take m s.entered)) one
  where
    by_which : (b c : Bool) → b ≡ c → (b ≡ true → region ≡ own)
        → cond b (get_or old own [] ++ n ∷ []) (get_or old region []) ≡ numbers_in region 0 (take n s.entered) ++ front c n []
    by_which true true _ same = ap (λ r. get_or old r [] ++ n ∷ []) (sym (same refl)) ∙ ap (λ ks. ks ++ n ∷ []) (before region)
    by_which true false wrong same = absurd (true≢false wrong)
    by_which false true wrong same = absurd (true≢false (sym wrong))
    by_which false false _ same = before region ∙ sym (append-nil (numbers_in region 0 (take n s.entered)))
