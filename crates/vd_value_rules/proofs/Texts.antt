-- Texts cover the arrays of so many elements exactly where each of them is one.
use Rattle.std.proofs.Common.{◌≡◌, ℕ, zero, suc, ℤ, pos, negsuc, Bool, true, false, List, [], ◌∷◌, length, ⊎_elim, refl, ap, ◌∙◌, sym, subst, arith}
use Rattle.std.proofs.lemmas.Int.{ints}
use Rattle.std.specs.Prelude.{◌&&◌, ◌||◌, if◌then◌else◌}
use Rattle.std.specs.List.{list_any, list_all}
use Rattle.std.specs.Ordering.{int_eq}
use Rattle.vd_value_rules.specs.Choices.{rest_behind, same_text, are_texts_covered}
use Rattle.vd_value_rules.specs.Laws.{is_text_over, TextsAreGiven}
use Rattle.vd_value_rules.proofs.Covering.{both_true, one_true}

-- ---- numbers that are equal

same_int : (i j : ℤ) → int_eq i j ≡ true → i ≡ j
same_int (pos m) (pos n) e = grind (arith, ints)
same_int (pos m) (negsuc n) e = absurd cc
same_int (negsuc m) (pos n) e = absurd cc
same_int (negsuc m) (negsuc n) e = grind (arith, ints)

int_is_same : (i : ℤ) → int_eq i i ≡ true
int_is_same (pos n) = grind (arith, ints)
int_is_same (negsuc n) = grind (arith, ints)

-- ---- the rest of those that begin with a value

later_one : (a c : Bool) → c ≡ true → (a || c) ≡ true
later_one true c h = refl
later_one false c h = h

first_one : (a c : Bool) → a ≡ true → (a || c) ≡ true
first_one a c h = ap (λ b. b || c) h

behind_by : (i j : ℤ) (is js : List ℤ) (ts : List (List ℤ)) (b : Bool) → int_eq i j ≡ b
    → (list_any (same_text is) (rest_behind i ts) ≡ true → list_any (same_text (i ∷ is)) ts ≡ true)
    → list_any (same_text is) (if b then js ∷ rest_behind i ts else rest_behind i ts) ≡ true
    → ((int_eq i j && same_text is js) || list_any (same_text (i ∷ is)) ts) ≡ true
behind_by i j is js ts true e go h =
    ⊎_elim (λ here. first_one (int_eq i j && same_text is js) (list_any (same_text (i ∷ is)) ts) (ap (λ b. b && same_text is js) e ∙ here))
    (λ there. later_one (int_eq i j && same_text is js) (list_any (same_text (i ∷ is)) ts) (go there))
    (one_true (same_text is js) (list_any (same_text is) (rest_behind i ts)) h)
behind_by i j is js ts false e go h = later_one (int_eq i j && same_text is js) (list_any (same_text (i ∷ is)) ts) (go h)

behind : (i : ℤ) (is : List ℤ) (ts : List (List ℤ)) → list_any (same_text is) (rest_behind i ts) ≡ true → list_any (same_text (i ∷ is)) ts ≡ true
behind i is [] h = absurd cc
behind i is ([] ∷ ts) h = behind i is ts h
behind i is ((j ∷ js) ∷ ts) h = behind_by i j is js ts (int_eq i j) refl (behind i is ts) h

before_by : (i j : ℤ) (is js : List ℤ) (ts : List (List ℤ)) (b : Bool) → int_eq i j ≡ b
    → (list_any (same_text (i ∷ is)) ts ≡ true → list_any (same_text is) (rest_behind i ts) ≡ true)
    → ((b && same_text is js) || list_any (same_text (i ∷ is)) ts) ≡ true
    → list_any (same_text is) (if b then js ∷ rest_behind i ts else rest_behind i ts) ≡ true
before_by i j is js ts true e go h =
    ⊎_elim (λ here. first_one (same_text is js) (list_any (same_text is) (rest_behind i ts)) here)
    (λ there. later_one (same_text is js) (list_any (same_text is) (rest_behind i ts)) (go there))
    (one_true (same_text is js) (list_any (same_text (i ∷ is)) ts) h)
before_by i j is js ts false e go h = go h

before : (i : ℤ) (is : List ℤ) (ts : List (List ℤ)) → list_any (same_text (i ∷ is)) ts ≡ true → list_any (same_text is) (rest_behind i ts) ≡ true
before i is [] h = absurd cc
before i is ([] ∷ ts) h = before i is ts h
before i is ((j ∷ js) ∷ ts) h = before_by i j is js ts (int_eq i j) refl (before i is ts) h

-- ---- what holds of all values holds of one

of_one : (f : ℤ → Bool) (i : ℤ) (vs : List ℤ) → list_all f vs ≡ true → list_any (int_eq i) vs ≡ true → f i ≡ true
of_one f i [] a h = absurd cc
of_one f i (v ∷ vs) a h =
    let two : (f v ≡ true) × (list_all f vs ≡ true) = both_true (f v) (list_all f vs) a in
    ⊎_elim (λ here. subst (λ k. f k ≡ true) (sym (same_int i v here)) two.0) (λ there. of_one f i vs two.1 there) (one_true (int_eq i v) (list_any (int_eq i) vs) h)

by_any : (n : ℕ) (values : List ℤ) (i : ℤ) (texts : List (List ℤ)) → are_texts_covered (suc n) values texts ≡ true → list_any (int_eq i) values ≡ true
    → are_texts_covered n values (rest_behind i texts) ≡ true
by_any n [] i [] c h = absurd cc
by_any n (v ∷ vs) i [] c h = absurd cc
by_any n values i (t ∷ ts) c h = of_one (λ j. are_texts_covered n values (rest_behind j (t ∷ ts))) i values c h

texts_given : (n : ℕ) (values : List ℤ) (texts : List (List ℤ)) (t : List ℤ) → are_texts_covered n values texts ≡ true → length t ≡ n
    → is_text_over values t ≡ true → list_any (same_text t) texts ≡ true
texts_given zero values texts [] c e o = c
texts_given zero values texts (i ∷ is) c e o = absurd (omega arith)
texts_given (suc n) values texts [] c e o = absurd (omega arith)
texts_given (suc n) values texts (i ∷ is) c e o =
    let two : (list_any (int_eq i) values ≡ true) × (is_text_over values is ≡ true) = both_true (list_any (int_eq i) values) (is_text_over values is) o in
    behind i is texts (texts_given n values (rest_behind i texts) is (by_any n values i texts c two.0) (omega arith) two.1)

-- ---- and back

abbrev one_text : (n : ℕ) (i : ℤ) → List ℤ
one_text zero i = []
one_text (suc n) i = i ∷ one_text n i

one_text_length : (n : ℕ) (i : ℤ) → length (one_text n i) ≡ n
one_text_length zero i = refl
one_text_length (suc n) i = ap suc (one_text_length n i)

one_text_over : (n : ℕ) (i : ℤ) (vs : List ℤ) → is_text_over (i ∷ vs) (one_text n i) ≡ true
one_text_over zero i vs = refl
one_text_over (suc n) i vs =
    ap (λ b. b && is_text_over (i ∷ vs) (one_text n i)) (first_one (int_eq i i) (list_any (int_eq i) vs) (int_is_same i)) ∙ one_text_over n i vs

abbrev Wanted : ℕ → List ℤ → List (List ℤ) → Type 0
Wanted n values texts = (t : List ℤ) → length t ≡ n → is_text_over values t ≡ true → list_any (same_text t) texts ≡ true

with_first : (n : ℕ) (values : List ℤ) (texts : List (List ℤ)) (v : ℤ) → list_any (int_eq v) values ≡ true → Wanted (suc n) values texts → Wanted n values (rest_behind v texts)
with_first n values texts v m f t e o = before v t texts (f (v ∷ t) (ap suc e) (ap (λ b. b && is_text_over values t) m ∙ o))

for_all : (g : ℤ → Bool) (values vs : List ℤ) → ((i : ℤ) → list_any (int_eq i) vs ≡ true → list_any (int_eq i) values ≡ true)
    → ((i : ℤ) → list_any (int_eq i) values ≡ true → g i ≡ true) → list_all g vs ≡ true
for_all g values [] sub f = refl
for_all g values (v ∷ vs) sub f =
    ap (λ b. b && list_all g vs) (f v (sub v (first_one (int_eq v v) (list_any (int_eq v) vs) (int_is_same v))))
    ∙ for_all g values vs (λ i h. sub i (later_one (int_eq i v) (list_any (int_eq i) vs) h)) f

texts_covered : (n : ℕ) (values : List ℤ) (texts : List (List ℤ)) → Wanted n values texts → are_texts_covered n values texts ≡ true
texts_covered zero values texts f = f [] refl refl
texts_covered (suc n) [] [] f = refl
texts_covered (suc n) (v ∷ vs) [] f = absurd (cc (f (one_text (suc n) v) (one_text_length (suc n) v) (one_text_over (suc n) v vs)))
texts_covered (suc n) values (t ∷ ts) f =
    for_all (λ j. are_texts_covered n values (rest_behind j (t ∷ ts))) values values (λ i h. h)
    (λ i m. texts_covered n values (rest_behind i (t ∷ ts)) (with_first n values (t ∷ ts) i m f))

pub texts : TextsAreGiven
texts = record { given = texts_given; covered = texts_covered }
