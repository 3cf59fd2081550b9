-- Tables that are filled step by step. No name has a dash, so that a caller can name each in `#[tactic(auto, using(..))]`.
use Rattle.std.proofs.Common.{◌≡◌, ℕ, suc, ◌+◌, ◌-◌, ◌<◌, ◌≤◌, ◌==◌, Bool, true, false, cond, if◌then◌else◌, ◌||◌, List, [], ◌∷◌, ◌++◌, length, take, drop, get_or, map, reverse, Option, Some, None, nat_eq, is_some, ◌⊎◌, inl, inr, min, refl, sym, ap, ◌∙◌, append_assoc, arith, add-one, drop-cons}
use Rattle.std.proofs.lemmas.List.{take_more, drop_all, reverse-append, map-append}
use Rattle.std.proofs.lemmas.Bool.{cases_lt}
use Rattle.std.proofs.lemmas.Bool.Decides.{nat_tests}
use Rattle.std.specs.Map.{lookup}
use Rattle.std.specs.Option.{unwrap_or}
use Rattle.vd_weighing.specs.Weights.{has_entry, has_entry_at, times_for, times_at}
use Rattle.vd_weighing.specs.declared.table.Copied.{Copied}
use Rattle.vd_weighing.specs.Copies.{copied}
use Rattle.vd_weighing.specs.Tables.{found, sum_found, sums_found, with_entry, with_more, copy_for, copies, with_entries, with_sums}

-- ---- numbers that are given from the last one on

with_entries_last : (es xs : List (ℕ × ℕ)) (x : ℕ × ℕ) → with_entries es (xs ++ x ∷ []) ≡ with_entries (with_entry es x.0 x.1) xs
with_entries_last es [] x = refl
with_entries_last es (y ∷ ys) x = ap (λ fs. with_entry fs y.0 y.1) (with_entries_last es ys x)

with_sums_last : (es xs : List (ℕ × ℕ)) (x : ℕ × ℕ) → with_sums es (xs ++ x ∷ []) ≡ with_sums (with_more es x.0 x.1) xs
with_sums_last es [] x = refl
with_sums_last es (y ∷ ys) x = ap (λ fs. with_more fs y.0 y.1) (with_sums_last es ys x)

copied_last : (cs : List Copied) (n : ℕ) (c : Copied) → 0 < n → n ≤ length cs → c ≡ get_or cs (n - 1) c
    → map copied (take n cs) ≡ map copied (take (n - 1) cs) ++ copied c ∷ []
copied_last cs n c some within is =
    let before : n ≡ (n - 1) + 1 = omega arith in
    ap (λ k. map copied (take k cs)) before
    ∙ ap (map copied) (take_more cs (n - 1) c (omega arith) ∙ ap (λ x. take (n - 1) cs ++ x ∷ []) (sym is))
    ∙ map-append copied (take (n - 1) cs) (c ∷ [])

module _ (es fs : List (ℕ × ℕ)) (cs : List Copied) (n : ℕ) (c : Copied) (some : 0 < n) (within : n ≤ length cs) (is : c ≡ get_or cs (n - 1) c) where
  pub entries_put : fs ≡ with_entry es c.id c.number
      → with_entries fs (map copied (take (n - 1) cs)) ≡ with_entries es (map copied (take n cs))
  entries_put put =
      ap (λ gs. with_entries gs (map copied (take (n - 1) cs))) put
      ∙ sym (ap (with_entries es) (copied_last cs n c some within is) ∙ with_entries_last es (map copied (take (n - 1) cs)) (copied c))

  pub sums_put : fs ≡ with_more es c.id c.number
      → with_sums fs (map copied (take (n - 1) cs)) ≡ with_sums es (map copied (take n cs))
  sums_put put =
      ap (λ gs. with_sums gs (map copied (take (n - 1) cs))) put
      ∙ sym (ap (with_sums es) (copied_last cs n c some within is) ∙ with_sums_last es (map copied (take (n - 1) cs)) (copied c))

-- ---- copies

module _ (es : List (ℕ × ℕ)) (olds news : List ℕ) (k old : ℕ) (old_in : k < length olds) (new_in : k < length news) (old_is : old ≡ get_or olds k old) where
  abbrev rest : List (ℕ × ℕ)
  rest = copies (drop (k + 1) olds) (drop (k + 1) news) es

  copies_more : (new : ℕ) → copies (drop k olds) (drop k news) es ≡ copy_for (get_or news k new) (lookup (nat_eq old) es) rest
  copies_more new =
      (λ i. copies (drop-cons olds k old old_in i) (drop-cons news k new new_in i) es)
      ∙ ap (λ o. copy_for (get_or news k new) (lookup (nat_eq o) es) (copies (drop (suc k) olds) (drop (suc k) news) es)) (sym old_is)
      ∙ ap (λ n. copy_for (get_or news k new) (lookup (nat_eq old) es) (copies (drop n olds) (drop n news) es)) (sym (add-one k))

  -- nothing stands for the old number
  pub copies_kept : (made : List (ℕ × ℕ)) → lookup (nat_eq old) es ≡ None → made ++ rest ≡ made ++ copies (drop k olds) (drop k news) es
  copies_kept made none = ap (λ cs. made ++ cs) (sym (copies_more 0 ∙ ap (λ o. copy_for (get_or news k 0) o rest) none))

  -- something does
  pub copies_taken : (made next : List Copied) (c : Copied) → lookup (nat_eq old) es ≡ Some c.number → c.id ≡ get_or news k c.id → next ≡ made ++ c ∷ []
      → map copied next ++ rest ≡ map copied made ++ copies (drop k olds) (drop k news) es
  copies_taken made next c some new_is pushed =
      ap (λ cs. map copied cs ++ rest) pushed
      ∙ ap (λ cs. cs ++ rest) (map-append copied made (c ∷ []))
      ∙ append_assoc (map copied made) (copied c ∷ []) rest
      ∙ ap (λ cs. map copied made ++ cs)
      (sym (copies_more c.id ∙ ap (λ o. copy_for (get_or news k c.id) o rest) some ∙ ap (λ n. (n, c.number) ∷ rest) (sym new_is)))

-- no declarations are left on one side
pub copies_none : (es : List (ℕ × ℕ)) (olds news : List ℕ) (k : ℕ) → min (length olds) (length news) ≤ k → copies (drop k olds) (drop k news) es ≡ []
copies_none es olds news k past = by (cases_lt k (length olds))
  where
    no_olds : drop k olds ≡ [] → copies (drop k olds) (drop k news) es ≡ []
    no_olds none = ap (λ os. copies os (drop k news) es) none

    no_news : (os ns : List ℕ) → ns ≡ [] → copies os ns es ≡ []
    no_news [] ns none = refl
    no_news (o ∷ os) ns none = ap (λ ms. copies (o ∷ os) ms es) none

    by : (k < length olds) ⊎ (length olds ≤ k) → copies (drop k olds) (drop k news) es ≡ []
    by (inl more) = no_news (drop k olds) (drop k news) (drop_all k news (omega arith))
    by (inr none) = no_olds (drop_all k olds none)

-- ---- what stands in a table

-- the order of two numbers that are compared is free
pub turned_test : (m n : ℕ) → (m == n) ≡ nat_eq n m
turned_test m n = grind (arith, nat_tests)

pub times_are_found : (k : Option ℕ) (es : List (ℕ × ℕ)) → times_at k es ≡ unwrap_or (found k es) 1
times_are_found None es = refl
times_are_found (Some k) es = by es
  where
    which : (b : Bool) (n m : ℕ) (o : Option ℕ) → m ≡ unwrap_or o 1 → (if b then n else m) ≡ unwrap_or (cond b (Some n) o) 1
    which true n m o is = refl
    which false n m o is = is

    by : (es : List (ℕ × ℕ)) → times_for k es ≡ unwrap_or (lookup (nat_eq k) es) 1
    by [] = refl
    by (e ∷ es) =
        ap (λ b. if b then e.1 else times_for k es) (turned_test e.0 k)
        ∙ which (nat_eq k e.0) e.1 (times_for k es) (lookup (nat_eq k) es) (by es)

pub entries_are_found : (k : Option ℕ) (es : List (ℕ × ℕ)) → has_entry_at k es ≡ is_some (found k es)
entries_are_found None es = refl
entries_are_found (Some k) es = by es
  where
    which : (b c : Bool) (n : ℕ) (o : Option ℕ) → c ≡ is_some o → (b || c) ≡ is_some (cond b (Some n) o)
    which true c n o is = refl
    which false c n o is = is

    by : (es : List (ℕ × ℕ)) → has_entry k es ≡ is_some (lookup (nat_eq k) es)
    by [] = refl
    by (e ∷ es) =
        ap (λ b. b || has_entry k es) (turned_test e.0 k)
        ∙ which (nat_eq k e.0) (has_entry k es) e.1 (lookup (nat_eq k) es) (by es)

-- ---- instances

pub sums_last : (es : List (ℕ × ℕ)) (ds : List (Option ℕ)) (n : ℕ) (d : Option ℕ) → 0 < n → n ≤ length ds → d ≡ get_or ds (n - 1) d
    → sums_found (reverse (take n ds)) es ≡ sum_found d es + sums_found (reverse (take (n - 1) ds)) es
sums_last es ds n d some within is =
    let before : n ≡ (n - 1) + 1 = omega arith in
    ap (λ k. sums_found (reverse (take k ds)) es) before
    ∙ ap (λ xs. sums_found (reverse xs) es) (take_more ds (n - 1) d (omega arith) ∙ ap (λ x. take (n - 1) ds ++ x ∷ []) (sym is))
    ∙ ap (λ xs. sums_found xs es) (reverse-append (take (n - 1) ds) (d ∷ []))
