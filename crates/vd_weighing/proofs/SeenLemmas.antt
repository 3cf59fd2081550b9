-- Tables stand for what is known: they have what all entries for a number come to, and for views the first entry.
use Rattle.std.proofs.Common.{◌≡◌, ℕ, ◌+◌, ◌==◌, Bool, true, false, cond, if◌then◌else◌, ◌||◌, ◌&&◌, List, [], ◌∷◌, ◌++◌, Option, Some, None, option_map, nat_eq, refl, sym, ap, ◌∙◌, append_assoc, arith}
use Rattle.std.proofs.lemmas.Bool.Decides.{nat_tests}
use Rattle.std.specs.Map.{lookup}
use Rattle.std.specs.Option.{unwrap_or}
use Rattle.vd_weighing.specs.Weights.{sum_for, has_entry, entries_again, all_again, for_each}
use Rattle.vd_weighing.specs.Limits.{at_most}
use Rattle.vd_weighing.specs.Tables.{with_entry, with_more, with_each, copy_for, copies, with_entries, with_sums}
use Rattle.vd_weighing.proofs.LimitLemmas.{at_most_small, at_most_sum}
use Rattle.vd_weighing.proofs.TableLemmas.{turned_test}

abbrev pub look : ℕ → List (ℕ × ℕ) → Option ℕ
look x es = lookup (nat_eq x) es

pub same_number : (m n : ℕ) → nat_eq m n ≡ true → m ≡ n
same_number m n same = grind (arith, nat_tests)

-- what stands for a number after one has been put
pub look_put : (es : List (ℕ × ℕ)) (k n x : ℕ) → look x (with_entry es k n) ≡ cond (nat_eq x k) (Some n) (look x es)
look_put [] k n x = refl
look_put (e ∷ es) k n x = by (look_put es k n x) (nat_eq k e.0) refl
  where
    at_key : (y : ℕ) (o : Option ℕ) (b : Bool) → cond b (Some n) o ≡ cond b (Some n) (cond b (Some y) o)
    at_key y o true = refl
    at_key y o false = refl

    turned : (y : ℕ) (o : Option ℕ) (a b : Bool) → (a ≡ true → b ≡ false) → cond b (Some y) (cond a (Some n) o) ≡ cond a (Some n) (cond b (Some y) o)
    turned y o true b apart = ap (λ c. cond c (Some y) (Some n)) (apart refl)
    turned y o false b apart = refl

    apart_from : nat_eq k e.0 ≡ false → nat_eq x k ≡ true → nat_eq x e.0 ≡ false
    apart_from other same = ap (λ m. nat_eq m e.0) (same_number x k same) ∙ other

    by : look x (with_entry es k n) ≡ cond (nat_eq x k) (Some n) (look x es) → (b : Bool) → nat_eq k e.0 ≡ b
        → look x (with_entry (e ∷ es) k n) ≡ cond (nat_eq x k) (Some n) (look x (e ∷ es))
    by rest true is =
        ap (λ b. look x (if b then (e.0, n) ∷ es else e ∷ with_entry es k n)) is
        ∙ at_key e.1 (look x es) (nat_eq x e.0)
        ∙ ap (λ m. cond (nat_eq x m) (Some n) (look x (e ∷ es))) (sym (same_number k e.0 is))
    by rest false is =
        ap (λ b. look x (if b then (e.0, n) ∷ es else e ∷ with_entry es k n)) is
        ∙ ap (cond (nat_eq x e.0) (Some e.1)) rest
        ∙ turned e.1 (look x es) (nat_eq x k) (nat_eq x e.0) (apart_from is)

-- ---- views: the first entry for a number

pub record AreViews (es fs : List (ℕ × ℕ)) : Type 0 where
  pub each : (x : ℕ) → look x es ≡ option_map at_most (look x fs)

pub views_put : (es fs : List (ℕ × ℕ)) (v n m : ℕ) → AreViews es fs → m ≡ at_most n → AreViews (with_entry es v m) ((v, n) ∷ fs)
views_put es fs v n m are is = record {
  each = λ x.
      look_put es v m x ∙ ap (λ l. cond (nat_eq x v) (Some l) (look x es)) is ∙ ap (cond (nat_eq x v) (Some (at_most n))) (are.each x)
      ∙ which (nat_eq x v) (look x fs);
}
  where
    which : (b : Bool) (o : Option ℕ) → cond b (Some (at_most n)) (option_map at_most o) ≡ option_map at_most (cond b (Some n) o)
    which true o = refl
    which false o = refl

-- the same number may be given in any order
each_turned : (fs : List (ℕ × ℕ)) (v n : ℕ) (vs : List ℕ) (x : ℕ) → look x (for_each vs n ++ ((v, n) ∷ fs)) ≡ look x ((v, n) ∷ (for_each vs n ++ fs))
each_turned fs v n [] x = refl
each_turned fs v n (u ∷ us) x =
    ap (cond (nat_eq x u) (Some n)) (each_turned fs v n us x) ∙ turned (nat_eq x u) (nat_eq x v) (look x (for_each us n ++ fs))
  where
    turned : (a b : Bool) (o : Option ℕ) → cond a (Some n) (cond b (Some n) o) ≡ cond b (Some n) (cond a (Some n) o)
    turned true true o = refl
    turned true false o = refl
    turned false true o = refl
    turned false false o = refl

pub views_each : (es fs : List (ℕ × ℕ)) (vs : List ℕ) (n m : ℕ) → AreViews es fs → m ≡ at_most n → AreViews (with_each es vs m) (for_each vs n ++ fs)
views_each es fs [] n m are is = are
views_each es fs (v ∷ vs) n m are is =
    let rest = views_each (with_entry es v m) ((v, n) ∷ fs) vs n m (views_put es fs v n m are is) is in
    record { each = λ x. rest.each x ∙ ap (option_map at_most) (each_turned fs v n vs x) }

-- what stands for a new number is the first of the old one
abbrev again : Option ℕ → (new x : ℕ) → Option ℕ → Option ℕ
again None new x other = other
again (Some n) new x other = cond (nat_eq x new) (Some n) other

look_again : (fs rest : List (ℕ × ℕ)) (old new x : ℕ) → look x (entries_again old new fs ++ rest) ≡ again (look old fs) new x (look x rest)
look_again [] rest old new x = refl
look_again (e ∷ fs) rest old new x =
    ap (λ b. look x ((if b then (new, e.1) ∷ entries_again old new fs else entries_again old new fs) ++ rest)) (turned_test e.0 old)
    ∙ by (look_again fs rest old new x) (nat_eq old e.0)
  where
    behind : (a : Bool) (o : Option ℕ) (other : Option ℕ) → nat_eq x new ≡ a → cond a (Some e.1) (again o new x other) ≡ cond a (Some e.1) other
    behind true o other is = refl
    behind false None other is = refl
    behind false (Some n) other is = ap (λ b. cond b (Some n) other) is

    by : look x (entries_again old new fs ++ rest) ≡ again (look old fs) new x (look x rest) → (b : Bool)
        → look x ((if b then (new, e.1) ∷ entries_again old new fs else entries_again old new fs) ++ rest)
        ≡ again (cond b (Some e.1) (look old fs)) new x (look x rest)
    by is true =
        ap (cond (nat_eq x new) (Some e.1)) is
        ∙ behind (nat_eq x new) (look old fs) (look x rest) refl
    by is false = is

pub views_copied : (olds news : List ℕ) (es fs des dfs : List (ℕ × ℕ)) → AreViews es fs → AreViews des dfs
    → AreViews (with_entries des (copies olds news es)) (all_again olds news fs ++ dfs)
views_copied [] news es fs des dfs are base = base
views_copied (old ∷ olds) [] es fs des dfs are base = base
views_copied (old ∷ olds) (new ∷ news) es fs des dfs are base =
    let done = views_copied olds news es fs des dfs are base in
    let more = copies olds news es in
    let rest = all_again olds news fs ++ dfs in
    record {
      each = λ x.
          ap (λ o. look x (with_entries des (copy_for new o more))) (are.each old)
          ∙ which (look old fs) x done
          ∙ sym (ap (option_map at_most) (ap (look x) (append_assoc (entries_again old new fs) (all_again olds news fs) dfs) ∙ look_again fs rest old new x));
    }
  where
    which : (o : Option ℕ) (x : ℕ) → AreViews (with_entries des (copies olds news es)) (all_again olds news fs ++ dfs)
        → look x (with_entries des (copy_for new (option_map at_most o) (copies olds news es)))
        ≡ option_map at_most (again o new x (look x (all_again olds news fs ++ dfs)))
    which None x done = done.each x
    which (Some n) x done = (views_put (with_entries des (copies olds news es)) (all_again olds news fs ++ dfs) new n (at_most n) done refl).each x

-- ---- sums: all entries for a number

abbrev pub total_by : Bool → ℕ → Option ℕ
total_by has n = if has then Some (at_most n) else None

abbrev pub total_for : ℕ → List (ℕ × ℕ) → Option ℕ
total_for x fs = total_by (has_entry x fs) (sum_for x fs)

pub record AreSums (es fs : List (ℕ × ℕ)) : Type 0 where
  pub each : (x : ℕ) → look x es ≡ total_for x fs

none_sum : (x : ℕ) (fs : List (ℕ × ℕ)) → has_entry x fs ≡ false → sum_for x fs ≡ 0
none_sum x [] none = refl
none_sum x (e ∷ fs) none = by (none_sum x fs) (e.0 == x) none
  where
    by : (has_entry x fs ≡ false → sum_for x fs ≡ 0) → (b : Bool) → (b || has_entry x fs) ≡ false → (if b then e.1 + sum_for x fs else sum_for x fs) ≡ 0
    by rest true is = cc
    by rest false is = rest is

pub total_or_zero : (x : ℕ) (fs : List (ℕ × ℕ)) → unwrap_or (total_for x fs) 0 ≡ at_most (sum_for x fs)
total_or_zero x fs = by (has_entry x fs) refl
  where
    by : (b : Bool) → has_entry x fs ≡ b → unwrap_or (total_by b (sum_for x fs)) 0 ≡ at_most (sum_for x fs)
    by true is = refl
    by false is = sym (ap at_most (none_sum x fs is) ∙ at_most_small 0 (omega arith))

pub sums_put : (es fs : List (ℕ × ℕ)) (d n m : ℕ) → AreSums es fs → m ≡ at_most n → AreSums (with_more es d m) ((d, n) ∷ fs)
sums_put es fs d n m are is = record {
  each = λ x. look_put es d (at_most (unwrap_or (look d es) 0 + m)) x ∙ by x (nat_eq x d) refl;
}
  where
    added : at_most (unwrap_or (look d es) 0 + m) ≡ at_most (n + sum_for d fs)
    added =
        ap (λ o. at_most (unwrap_or o 0 + m)) (are.each d) ∙ ap (λ s. at_most (s + m)) (total_or_zero d fs)
        ∙ ap (λ s. at_most (at_most (sum_for d fs) + s)) is ∙ at_most_sum (sum_for d fs) n ∙ ap at_most (omega arith)

    at_other : (x : ℕ) → (d == x) ≡ false → total_for x fs ≡ total_for x ((d, n) ∷ fs)
    at_other x other = ap (λ b. total_by (b || has_entry x fs) (if b then n + sum_for x fs else sum_for x fs)) (sym other)

    at_same : (x : ℕ) → (d == x) ≡ true → Some (at_most (n + sum_for x fs)) ≡ total_for x ((d, n) ∷ fs)
    at_same x same = ap (λ b. total_by (b || has_entry x fs) (if b then n + sum_for x fs else sum_for x fs)) (sym same)

    by : (x : ℕ) (b : Bool) → nat_eq x d ≡ b
        → cond (nat_eq x d) (Some (at_most (unwrap_or (look d es) 0 + m))) (look x es) ≡ total_for x ((d, n) ∷ fs)
    by x true same =
        ap (λ b. cond b (Some (at_most (unwrap_or (look d es) 0 + m))) (look x es)) same
        ∙ ap Some (added ∙ ap (λ y. at_most (n + sum_for y fs)) (sym (same_number x d same)))
        ∙ at_same x (turned_test d x ∙ same)
    by x false other =
        ap (λ b. cond b (Some (at_most (unwrap_or (look d es) 0 + m))) (look x es)) other
        ∙ are.each x
        ∙ at_other x (turned_test d x ∙ other)

-- what stands for a new number is what stands for the old one
sum_again : (fs rest : List (ℕ × ℕ)) (old new x : ℕ)
    → sum_for x (entries_again old new fs ++ rest) ≡ (if new == x then sum_for old fs + sum_for x rest else sum_for x rest)
sum_again [] rest old new x = by (new == x)
  where
    by : (a : Bool) → sum_for x rest ≡ (if a then 0 + sum_for x rest else sum_for x rest)
    by true = omega arith
    by false = refl
sum_again (e ∷ fs) rest old new x = out (e.0 == old) ∙ by (e.0 == old) (new == x) (sum_again fs rest old new x)
  where
    out : (c : Bool) → sum_for x ((if c then (new, e.1) ∷ entries_again old new fs else entries_again old new fs) ++ rest)
        ≡ (if c then (if new == x then e.1 + sum_for x (entries_again old new fs ++ rest) else sum_for x (entries_again old new fs ++ rest))
        else sum_for x (entries_again old new fs ++ rest))
    out true = refl
    out false = refl

    by : (c a : Bool)
        → sum_for x (entries_again old new fs ++ rest) ≡ (if a then sum_for old fs + sum_for x rest else sum_for x rest)
        → (if c then (if a then e.1 + sum_for x (entries_again old new fs ++ rest) else sum_for x (entries_again old new fs ++ rest))
        else sum_for x (entries_again old new fs ++ rest))
        ≡ (if a then (if c then e.1 + sum_for old fs else sum_for old fs) + sum_for x rest else sum_for x rest)
    by true true is = ap (λ n. e.1 + n) is ∙ omega arith
    by true false is = is
    by false a is = is

has_again : (fs rest : List (ℕ × ℕ)) (old new x : ℕ)
    → has_entry x (entries_again old new fs ++ rest) ≡ (((new == x) && has_entry old fs) || has_entry x rest)
has_again [] rest old new x = by (new == x)
  where
    by : (a : Bool) → has_entry x rest ≡ ((a && false) || has_entry x rest)
    by true = refl
    by false = refl
has_again (e ∷ fs) rest old new x = out (e.0 == old) ∙ by (e.0 == old) (new == x) (has_again fs rest old new x)
  where
    out : (c : Bool) → has_entry x ((if c then (new, e.1) ∷ entries_again old new fs else entries_again old new fs) ++ rest)
        ≡ (if c then (new == x) || has_entry x (entries_again old new fs ++ rest) else has_entry x (entries_again old new fs ++ rest))
    out true = refl
    out false = refl

    by : (c a : Bool) → has_entry x (entries_again old new fs ++ rest) ≡ ((a && has_entry old fs) || has_entry x rest)
        → (if c then a || has_entry x (entries_again old new fs ++ rest) else has_entry x (entries_again old new fs ++ rest))
        ≡ ((a && (c || has_entry old fs)) || has_entry x rest)
    by true true is = refl
    by true false is = is
    by false a is = is

total_again : (fs rest : List (ℕ × ℕ)) (old new x : ℕ) → total_for x (entries_again old new fs ++ rest)
    ≡ total_by (((new == x) && has_entry old fs) || has_entry x rest) (if new == x then sum_for old fs + sum_for x rest else sum_for x rest)
total_again fs rest old new x =
    ap (λ b. total_by b (sum_for x (entries_again old new fs ++ rest))) (has_again fs rest old new x)
    ∙ ap (total_by (((new == x) && has_entry old fs) || has_entry x rest)) (sum_again fs rest old new x)

-- the old one has an entry
again_some : (fs rest : List (ℕ × ℕ)) (old new x : ℕ) → has_entry old fs ≡ true
    → total_for x (entries_again old new fs ++ rest) ≡ total_for x ((new, sum_for old fs) ∷ rest)
again_some fs rest old new x has =
    total_again fs rest old new x
    ∙ ap (λ h. total_by (((new == x) && h) || has_entry x rest) (if new == x then sum_for old fs + sum_for x rest else sum_for x rest)) has
    ∙ by (new == x)
  where
    by : (a : Bool) → total_by ((a && true) || has_entry x rest) (if a then sum_for old fs + sum_for x rest else sum_for x rest)
        ≡ total_by (a || has_entry x rest) (if a then sum_for old fs + sum_for x rest else sum_for x rest)
    by true = refl
    by false = refl

-- or none
again_none : (fs rest : List (ℕ × ℕ)) (old new x : ℕ) → has_entry old fs ≡ false
    → total_for x (entries_again old new fs ++ rest) ≡ total_for x rest
again_none fs rest old new x none =
    total_again fs rest old new x
    ∙ ap (λ h. total_by (((new == x) && h) || has_entry x rest) (if new == x then sum_for old fs + sum_for x rest else sum_for x rest)) none
    ∙ ap (λ s. total_by (((new == x) && false) || has_entry x rest) (if new == x then s + sum_for x rest else sum_for x rest)) (none_sum old fs none)
    ∙ by (new == x)
  where
    by : (a : Bool) → total_by ((a && false) || has_entry x rest) (if a then 0 + sum_for x rest else sum_for x rest) ≡ total_for x rest
    by true = ap (total_by (has_entry x rest)) (omega arith)
    by false = refl

pub sums_copied : (olds news : List ℕ) (es fs des dfs : List (ℕ × ℕ)) → AreSums es fs → AreSums des dfs
    → AreSums (with_sums des (copies olds news es)) (all_again olds news fs ++ dfs)
sums_copied [] news es fs des dfs are base = base
sums_copied (old ∷ olds) [] es fs des dfs are base = base
sums_copied (old ∷ olds) (new ∷ news) es fs des dfs are base =
    let done = sums_copied olds news es fs des dfs are base in
    let rest = all_again olds news fs ++ dfs in
    record {
      each = λ x.
          ap (λ o. look x (with_sums des (copy_for new o (copies olds news es)))) (are.each old)
          ∙ which (has_entry old fs) refl x done
          ∙ sym (ap (total_for x) (append_assoc (entries_again old new fs) (all_again olds news fs) dfs));
    }
  where
    which : (b : Bool) → has_entry old fs ≡ b → (x : ℕ) → AreSums (with_sums des (copies olds news es)) (all_again olds news fs ++ dfs)
        → look x (with_sums des (copy_for new (total_by b (sum_for old fs)) (copies olds news es)))
        ≡ total_for x (entries_again old new fs ++ (all_again olds news fs ++ dfs))
    which true has x done =
        (sums_put (with_sums des (copies olds news es)) (all_again olds news fs ++ dfs) new (sum_for old fs) (at_most (sum_for old fs)) done refl).each x
        ∙ sym (again_some fs (all_again olds news fs ++ dfs) old new x has)
    which false none x done = done.each x ∙ sym (again_none fs (all_again olds news fs ++ dfs) old new x none)
