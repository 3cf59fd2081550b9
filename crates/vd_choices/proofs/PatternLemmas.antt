-- Choices that overlap: what bits and '-' tell of them, and what is known of those that were looked at.
use Rattle.std.proofs.Common.{◌≡◌, ℕ, suc, ◌+◌, ◌<◌, ◌≤◌, ◌==◌, List, [], ◌∷◌, ◌++◌, length, drop, get_or, take, Bor, Bool, true, false, ◌&&◌, ◌||◌, if◌then◌else◌, refl, sym, ap, ap₂, subst, ◌∙◌, arith, ⊎_elim, true≢false, length-take, not, zero}
use mathlib.Core.Bool.{beq}
use lib.Pointwise.{pointwise}
use Rattle.std.specs.Cmp.{booleans_Decides}
use Rattle.std.specs.List.{list_any, list_all}
use Rattle.std.proofs.lemmas.Bool.{cases_lt, cases_Bool, and_parts}
use Rattle.std.proofs.lemmas.List.{get_or-map, length-map, get_or-take}
use Rattle.std.proofs.lemmas.List.Folds.{list_any-append, list_any_more, Any-from_list_any, list_any_at}
use Rattle.std.proofs.Math.Seq.{drop-cons}
use Rattle.vd_values.specs.declared.logic.Logic.{Logic}
use Rattle.vd_values.specs.declared.logic.Logic.TheVariants.{U, X, Zero, One, Z, W, L, H, Dash}
use Rattle.vd_values.specs.LogicTables.{and_of}
use Rattle.vd_values.specs.Matching.{match_of, condition_of}
use Rattle.vd_choices.specs.declared.patterns.Pattern.{Pattern}
use Rattle.vd_choices.specs.Patterns.{match_all, Overlap, patterns_of, OverlapsEarlier, AreOverlapping, IsFirstOverlapping}
use Rattle.std.specs.Prelude.{Vec}
use Rattle.std.specs.Global.{Global}
use Rattle.indexmap.specs.IndexSet.{insert_key}
use Rattle.vd_choices.specs.Bits.{overlap, is_dash, is_bit, has_dash, are_bits, bits_of, overlaps_choice, overlaps_borrowed, keys_of, has_bits, with_bits}

-- ---- what all values pass, or all pairs of values

abbrev nine : List Logic
nine = U ∷ X ∷ Zero ∷ One ∷ Z ∷ W ∷ L ∷ H ∷ Dash ∷ []

module _ (test : Logic → Bool) where
  front : (x : Logic) (xs : List Logic) → list_all test (x ∷ xs) ≡ true → test x ≡ true
  front x xs e = (and_parts (test x) (list_all test xs) e).0

  back : (x : Logic) (xs : List Logic) → list_all test (x ∷ xs) ≡ true → list_all test xs ≡ true
  back x xs e = (and_parts (test x) (list_all test xs) e).1

  from_z : list_all test nine ≡ true → list_all test (Z ∷ W ∷ L ∷ H ∷ Dash ∷ []) ≡ true
  from_z e = back One (Z ∷ W ∷ L ∷ H ∷ Dash ∷ []) (back Zero (One ∷ Z ∷ W ∷ L ∷ H ∷ Dash ∷ []) (back X (Zero ∷ One ∷ Z ∷ W ∷ L ∷ H ∷ Dash ∷ []) (back U (X ∷ Zero ∷ One ∷ Z ∷ W ∷ L ∷ H ∷ Dash ∷ []) e)))

  from_l : list_all test nine ≡ true → list_all test (L ∷ H ∷ Dash ∷ []) ≡ true
  from_l e = back W (L ∷ H ∷ Dash ∷ []) (back Z (W ∷ L ∷ H ∷ Dash ∷ []) (from_z e))

  from_0 : list_all test nine ≡ true → list_all test (Zero ∷ One ∷ Z ∷ W ∷ L ∷ H ∷ Dash ∷ []) ≡ true
  from_0 e = back X (Zero ∷ One ∷ Z ∷ W ∷ L ∷ H ∷ Dash ∷ []) (back U (X ∷ Zero ∷ One ∷ Z ∷ W ∷ L ∷ H ∷ Dash ∷ []) e)

  for_all : list_all test nine ≡ true → (a : Logic) → test a ≡ true
  for_all e U = front U (X ∷ Zero ∷ One ∷ Z ∷ W ∷ L ∷ H ∷ Dash ∷ []) e
  for_all e X = front X (Zero ∷ One ∷ Z ∷ W ∷ L ∷ H ∷ Dash ∷ []) (back U (X ∷ Zero ∷ One ∷ Z ∷ W ∷ L ∷ H ∷ Dash ∷ []) e)
  for_all e Zero = front Zero (One ∷ Z ∷ W ∷ L ∷ H ∷ Dash ∷ []) (from_0 e)
  for_all e One = front One (Z ∷ W ∷ L ∷ H ∷ Dash ∷ []) (back Zero (One ∷ Z ∷ W ∷ L ∷ H ∷ Dash ∷ []) (from_0 e))
  for_all e Z = front Z (W ∷ L ∷ H ∷ Dash ∷ []) (from_z e)
  for_all e W = front W (L ∷ H ∷ Dash ∷ []) (back Z (W ∷ L ∷ H ∷ Dash ∷ []) (from_z e))
  for_all e L = front L (H ∷ Dash ∷ []) (from_l e)
  for_all e H = front H (Dash ∷ []) (back L (H ∷ Dash ∷ []) (from_l e))
  for_all e Dash = front Dash [] (back H (Dash ∷ []) (back L (H ∷ Dash ∷ []) (from_l e)))

for_pairs : (test : Logic → Logic → Bool) → list_all (λ a. list_all (test a) nine) nine ≡ true → (a b : Logic) → test a b ≡ true
for_pairs test e a b = for_all (test a) (for_all (λ a. list_all (test a) nine) e a) b

one_bool : (a b : Bool) → beq a b ≡ true → a ≡ b
one_bool a b e = (booleans_Decides a b).0 e

and_condition : (a b : Logic) → condition_of (and_of a b) ≡ (condition_of a && condition_of b)
and_condition a b = one_bool _ _ (for_pairs (λ a b. beq (condition_of (and_of a b)) (condition_of a && condition_of b)) refl a b)

abbrev is_strong : Logic → Bool
is_strong H = false
is_strong _ = true

and_strong : (a b : Logic) → is_strong (and_of a b) ≡ true
and_strong a b = for_pairs (λ a b. is_strong (and_of a b)) refl a b

one_of : (a : Logic) → condition_of a ≡ true → is_strong a ≡ true → a ≡ One
one_of One e s = refl
one_of H e s = absurd (true≢false (sym s))
one_of U e s = absurd (true≢false (sym e))
one_of X e s = absurd (true≢false (sym e))
one_of Zero e s = absurd (true≢false (sym e))
one_of Z e s = absurd (true≢false (sym e))
one_of W e s = absurd (true≢false (sym e))
one_of L e s = absurd (true≢false (sym e))
one_of Dash e s = absurd (true≢false (sym e))

-- ---- matches of arrays by pairs

-- the conditions of the matches in pairs
abbrev pairs : List Logic → List Logic → Bool
pairs [] ys = true
pairs (x ∷ xs) [] = true
pairs (x ∷ xs) (y ∷ ys) = condition_of (match_of x y) && pairs xs ys

and_assoc : (a b c : Bool) → ((a && b) && c) ≡ (a && (b && c))
and_assoc true b c = refl
and_assoc false b c = refl

and_true : (a : Bool) → (a && true) ≡ a
and_true true = refl
and_true false = refl

all_matched : (a : Logic) (xs ys : List Logic) → condition_of (match_all a xs ys) ≡ (condition_of a && pairs xs ys)
all_matched a [] ys = sym (and_true (condition_of a))
all_matched a (x ∷ xs) [] = sym (and_true (condition_of a))
all_matched a (x ∷ xs) (y ∷ ys) =
    all_matched (and_of a (match_of x y)) xs ys
    ∙ ap (λ b. b && pairs xs ys) (and_condition a (match_of x y))
    ∙ and_assoc (condition_of a) (condition_of (match_of x y)) (pairs xs ys)

all_strong : (a : Logic) (xs ys : List Logic) → is_strong a ≡ true → is_strong (match_all a xs ys) ≡ true
all_strong a [] ys s = s
all_strong a (x ∷ xs) [] s = s
all_strong a (x ∷ xs) (y ∷ ys) s = all_strong (and_of a (match_of x y)) xs ys (and_strong a (match_of x y))

same_number : (m n : ℕ) → (m == n) ≡ true → m ≡ n
same_number m n e = grind arith

pub number_same : (m n : ℕ) → m ≡ n → (m == n) ≡ true
number_same m n e = grind arith

pub overlapping : (xs ys : List Logic) → overlap xs ys ≡ true → Overlap xs ys
overlapping xs ys e =
    let p = and_parts (length xs == length ys) (condition_of (match_all One xs ys)) e in
    (same_number _ _ p.0, one_of _ p.1 (all_strong One xs ys refl))

pub overlap_holds : (xs ys : List Logic) → Overlap xs ys → overlap xs ys ≡ true
overlap_holds xs ys o = ap₂ (λ a b. a && b) (number_same _ _ o.0) (ap condition_of o.1)

-- ---- arrays without '-'

or_parts : (a b : Bool) → (a || b) ≡ true → a ≡ false → b ≡ true
or_parts true b e f = absurd (true≢false f)
or_parts false b e f = e

plain_pair : (a b : Logic) → is_dash a ≡ false → is_dash b ≡ false → condition_of (match_of a b) ≡ ((is_bit b && is_bit a) && beq (condition_of b) (condition_of a))
plain_pair a b left right =
    one_bool _ _ (or_parts (is_dash b) _
    (or_parts (is_dash a) _
    (for_pairs (λ a b. is_dash a || (is_dash b || beq (condition_of (match_of a b)) ((is_bit b && is_bit a) && beq (condition_of b) (condition_of a)))) refl a b)
    left) right)

-- what the first elements and the rests of two arrays give
arranged : (a b c d e f : Bool) → (((a && b) && c) && ((d && e) && f)) ≡ (((a && d) && (b && e)) && (c && f))
arranged false b c d e f = refl
arranged true false c false e f = refl
arranged true false c true e f = refl
arranged true true false false e f = refl
arranged true true false true false f = refl
arranged true true false true true f = refl
arranged true true true false e f = refl
arranged true true true true false f = refl
arranged true true true true true f = refl

or_false : (a b : Bool) → (a || b) ≡ false → (a ≡ false) × (b ≡ false)
or_false true b e = absurd (true≢false e)
or_false false b e = (refl, e)

and_false : (a : Bool) → (a && false) ≡ false
and_false true = refl
and_false false = refl

and_swap : (a b c : Bool) → (a && (b && c)) ≡ (b && (a && c))
and_swap true b c = refl
and_swap false b c = sym (and_false b)

differ : (m n : ℕ) → (m ≡ n → ⊥) → (m == n) ≡ false
differ m n other = ⊎_elim (λ (yes : (m == n) ≡ true). absurd (other (same_number m n yes))) (λ (none : (m == n) ≡ false). none) (cases_Bool (m == n))

suc_same : (m n : ℕ) → (suc m == suc n) ≡ (m == n)
suc_same m n =
    ⊎_elim (λ (yes : (m == n) ≡ true). number_same (suc m) (suc n) (ap suc (same_number m n yes)) ∙ sym yes)
    (λ (none : (m == n) ≡ false). differ (suc m) (suc n) (λ e. true≢false (sym (number_same m n (omega (arith, e))) ∙ none)) ∙ sym none)
    (cases_Bool (m == n))

-- whether an array stands for these bits
abbrev pub has_these : List Bool → List Logic → Bool
has_these bits xs = are_bits xs && pointwise beq bits (bits_of xs)

plain_pairs : (xs ys : List Logic) → has_dash xs ≡ false → has_dash ys ≡ false → ((length xs == length ys) && pairs xs ys) ≡ ((are_bits ys && are_bits xs) && pointwise beq (bits_of ys) (bits_of xs))
plain_pairs [] [] left right = refl
plain_pairs [] (y ∷ ys) left right = ap (λ b. b && true) (differ 0 (suc (length ys)) (λ e. omega (arith, e))) ∙ sym (and_false (are_bits (y ∷ ys) && true))
plain_pairs (x ∷ xs) [] left right = ap (λ b. b && true) (differ (suc (length xs)) 0 (λ e. omega (arith, e))) ∙ sym (and_false (are_bits (x ∷ xs)))
plain_pairs (x ∷ xs) (y ∷ ys) left right =
    let p = or_false (is_dash x) (has_dash xs) left in
    let q = or_false (is_dash y) (has_dash ys) right in
    ap (λ b. b && (condition_of (match_of x y) && pairs xs ys)) (suc_same (length xs) (length ys))
    ∙ and_swap (length xs == length ys) (condition_of (match_of x y)) (pairs xs ys)
    ∙ ap₂ (λ a b. a && b) (plain_pair x y p.0 q.0) (plain_pairs xs ys p.1 q.1)
    ∙ arranged (is_bit y) (is_bit x) (beq (condition_of y) (condition_of x)) (are_bits ys) (are_bits xs) (pointwise beq (bits_of ys) (bits_of xs))

plain_overlap : (xs ys : List Logic) → has_dash xs ≡ false → has_dash ys ≡ false → overlap xs ys ≡ (are_bits ys && has_these (bits_of ys) xs)
plain_overlap xs ys left right =
    ap (λ b. (length xs == length ys) && b) (all_matched One xs ys)
    ∙ plain_pairs xs ys left right
    ∙ and_assoc (are_bits ys) (are_bits xs) (pointwise beq (bits_of ys) (bits_of xs))

bit_no_dash : (a : Logic) → is_dash a ≡ true → is_bit a ≡ false
bit_no_dash a e = one_bool _ _ (or_parts (not (is_dash a)) _ (for_all (λ a. not (is_dash a) || beq (is_bit a) false) refl a) (ap not e))

bits_no_dash : (xs : List Logic) → has_dash xs ≡ true → are_bits xs ≡ false
bits_no_dash [] e = absurd (true≢false (sym e))
bits_no_dash (x ∷ xs) e =
    ⊎_elim (λ (here : is_dash x ≡ true). ap (λ b. b && are_bits xs) (bit_no_dash x here))
    (λ (there : is_dash x ≡ false). ap (λ b. is_bit x && b) (bits_no_dash xs (or_parts (is_dash x) (has_dash xs) e there)) ∙ and_false (is_bit x))
    (cases_Bool (is_dash x))

-- ---- the choices that were looked at

-- the choices with '-' that an array overlaps, and those that have its bits
abbrev overlaps_dash : List Logic → Pattern → Bool
overlaps_dash q choice = has_dash choice.elements.items && overlap choice.elements.items q

abbrev has_bits_of : List Bool → Pattern → Bool
has_bits_of bits choice = has_these bits choice.elements.items

or_nothing : (a b : Bool) → a ≡ (a || (b && false))
or_nothing true b = refl
or_nothing false b = sym (and_false b)

one_split : (q : List Logic) (c : Pattern) → has_dash q ≡ false → overlap c.elements.items q ≡ (overlaps_dash q c || (are_bits q && has_bits_of (bits_of q) c))
one_split q c plain =
    ⊎_elim
    (λ (dash : has_dash c.elements.items ≡ true).
    or_nothing (overlap c.elements.items q) (are_bits q)
    ∙ ap₂ (λ a b. (a && overlap c.elements.items q) || (are_bits q && (b && pointwise beq (bits_of q) (bits_of c.elements.items)))) (sym dash) (sym (bits_no_dash c.elements.items dash)))
    (λ (none : has_dash c.elements.items ≡ false).
    plain_overlap c.elements.items q none plain
    ∙ ap (λ a. (a && overlap c.elements.items q) || (are_bits q && has_these (bits_of q) c.elements.items)) (sym none))
    (cases_Bool (has_dash c.elements.items))

arranged_or : (a b h c g : Bool) → ((a || (b && h)) || (c || (b && g))) ≡ ((a || c) || (b && (h || g)))
arranged_or true b h c g = refl
arranged_or false false h c g = refl
arranged_or false true true true g = refl
arranged_or false true true false g = refl
arranged_or false true false c g = refl

split_any : (q : List Logic) (cs : List Pattern) → has_dash q ≡ false → overlaps_choice cs q ≡ (list_any (overlaps_dash q) cs || (are_bits q && list_any (has_bits_of (bits_of q)) cs))
split_any q [] plain = sym (and_false (are_bits q))
split_any q (c ∷ cs) plain =
    ap₂ (λ a b. a || b) (one_split q c plain) (split_any q cs plain)
    ∙ arranged_or (overlaps_dash q c) (are_bits q) (has_bits_of (bits_of q) c) (list_any (overlaps_dash q) cs) (list_any (has_bits_of (bits_of q)) cs)

-- the keys are the bits of the first n choices, the borrowed arrays are those of them that have '-', and none of them overlaps an earlier one
pub record IsLooked (keys : List (List Bool)) (dashed : List (Bor (List Logic))) (choices : List Pattern) (n : ℕ) : Type 0 where
  pub seen : (bits : List Bool) → has_bits keys bits ≡ list_any (has_bits_of bits) (take n choices)
  pub dash : (q : List Logic) → overlaps_borrowed dashed q ≡ list_any (overlaps_dash q) (take n choices)
  pub apart : (k : ℕ) → k < n → ¬ OverlapsEarlier (patterns_of choices) k

pub looked_start : (choices : List Pattern) → IsLooked [] [] choices 0
looked_start choices = record { seen = λ bits. refl; dash = λ q. refl; apart = λ k less. absurd (omega arith) }

pub looked_end : (keys : List (List Bool)) (dashed : List (Bor (List Logic))) (choices : List Pattern) (n : ℕ) → IsLooked keys dashed choices n → length choices ≤ n → ¬ AreOverlapping (patterns_of choices)
looked_end keys dashed choices n s all r = s.apart r.0 (omega (arith, r.1.2, length-map choices (λ (c : Pattern). c.elements.items))) r.1

or_swap : (a b : Bool) → (a || b) ≡ (b || a)
or_swap true true = refl
or_swap true false = refl
or_swap false true = refl
or_swap false false = refl

or-none : (b : Bool) → (b || false) ≡ b
or-none true = refl
or-none false = refl

module _ (keys : List (List Bool)) (dashed : List (Bor (List Logic))) (choices : List Pattern) (n : ℕ) (s : IsLooked keys dashed choices n) (q : List Logic) where
  -- what is looked at tells whether an array overlaps an earlier choice
  abbrev told : Bool
  told = (are_bits q && has_bits keys (bits_of q)) || (if has_dash q then overlaps_choice (take n choices) q else overlaps_borrowed dashed q)

  told_by : (b : Bool) → has_dash q ≡ b → overlaps_choice (take n choices) q ≡ ((are_bits q && has_bits keys (bits_of q)) || (if b then overlaps_choice (take n choices) q else overlaps_borrowed dashed q))
  told_by true e = ap (λ b. (b && has_bits keys (bits_of q)) || overlaps_choice (take n choices) q) (sym (bits_no_dash q e))
  told_by false e =
      split_any q (take n choices) e
      ∙ ap₂ (λ a b. a || (are_bits q && b)) (sym (s.dash q)) (sym (s.seen (bits_of q)))
      ∙ or_swap (overlaps_borrowed dashed q) (are_bits q && has_bits keys (bits_of q))

  pub tells : overlaps_choice (take n choices) q ≡ told
  tells = told_by (has_dash q) refl

  module _ (d : Pattern) (inside : n < length choices) (is : q ≡ (get_or choices n d).elements.items) where
    at_n : get_or (patterns_of choices) n [] ≡ q
    at_n = get_or-map (λ (c : Pattern). c.elements.items) choices n d [] inside ∙ sym is

    within : n < length (patterns_of choices)
    within = omega (arith, length-map choices (λ (c : Pattern). c.elements.items))

    -- ---- a choice that overlaps

    earlier : overlaps_choice (take n choices) q ≡ true → OverlapsEarlier (patterns_of choices) n
    earlier e =
        let some = Any-from_list_any (λ (c : Pattern). overlap c.elements.items q) (take n choices) e in
        let less : some.0 < n = omega (arith, some.2, length-take n choices) in
        let at_j : get_or (patterns_of choices) some.0 [] ≡ some.1.elements.items =
        get_or-map (λ (c : Pattern). c.elements.items) choices some.0 some.1 [] (omega arith)
        ∙ ap (λ (c : Pattern). c.elements.items) (sym (get_or-take n choices some.0 some.1 less) ∙ some.3) in
        (some.0, less, within, subst (λ xs. Overlap xs (get_or (patterns_of choices) n [])) (sym at_j) (subst (Overlap some.1.elements.items) (sym at_n) (overlapping some.1.elements.items q some.4)))

    first_here : told ≡ true → IsFirstOverlapping (patterns_of choices) n
    first_here e = (earlier (tells ∙ e), s.apart)

    pub first_by_bits : (are_bits q && has_bits keys (bits_of q)) ≡ true → IsFirstOverlapping (patterns_of choices) n
    first_by_bits e = first_here (ap (λ b. b || (if has_dash q then overlaps_choice (take n choices) q else overlaps_borrowed dashed q)) e)

    pub first_by_look : (are_bits q && has_bits keys (bits_of q)) ≡ false → (if has_dash q then overlaps_choice (take n choices) q else overlaps_borrowed dashed q) ≡ true → IsFirstOverlapping (patterns_of choices) n
    first_by_look new e = first_here (ap₂ (λ a b. a || b) new e)

    -- ---- a choice that overlaps none

    none_here : overlaps_choice (take n choices) q ≡ false → ¬ OverlapsEarlier (patterns_of choices) n
    none_here e o =
        let at_j : get_or (patterns_of choices) o.0 [] ≡ (get_or (take n choices) o.0 d).elements.items =
        get_or-map (λ (c : Pattern). c.elements.items) choices o.0 d [] (omega (arith, o.1))
        ∙ ap (λ (c : Pattern). c.elements.items) (sym (get_or-take n choices o.0 d o.1)) in
        let both : Overlap (get_or (take n choices) o.0 d).elements.items q = subst (Overlap (get_or (take n choices) o.0 d).elements.items) at_n (subst (λ xs. Overlap xs (get_or (patterns_of choices) n [])) at_j o.3) in
        true≢false (sym (list_any_at (λ (c : Pattern). overlap c.elements.items q) (take n choices) o.0 d (omega (arith, o.1, length-take n choices)) (overlap_holds _ _ both)) ∙ e)

    more : (p : Pattern → Bool) → list_any p (take (n + 1) choices) ≡ (list_any p (take n choices) || p (get_or choices n d))
    more p = list_any_more p choices n d inside

    seen_by : (b : Bool) → are_bits q ≡ b → (b && has_bits keys (bits_of q)) ≡ false → (bits : List Bool)
        → has_bits (if b && not (has_bits keys (bits_of q)) then keys ++ bits_of q ∷ [] else keys) bits ≡ (has_bits keys bits || has_these bits q)
    seen_by true e new bits =
        ap (λ c. has_bits (if not c then keys ++ bits_of q ∷ [] else keys) bits) new
        ∙ list_any-append (λ key. pointwise beq bits key) keys (bits_of q ∷ [])
        ∙ ap (λ c. has_bits keys bits || c) (or-none (pointwise beq bits (bits_of q)))
        ∙ ap (λ c. has_bits keys bits || (c && pointwise beq bits (bits_of q))) (sym e)
    seen_by false e new bits = sym (ap (λ c. has_bits keys bits || (c && pointwise beq bits (bits_of q))) e ∙ or-none (has_bits keys bits))

    dash_by : (x : Bor (List Logic)) → x.now ≡ q → (b : Bool) → has_dash q ≡ b → (p : List Logic)
        → overlaps_borrowed (if b then dashed ++ x ∷ [] else dashed) p ≡ (overlaps_borrowed dashed p || (has_dash q && overlap q p))
    dash_by x same true e p =
        list_any-append (λ (a : Bor (List Logic)). overlap a.now p) dashed (x ∷ [])
        ∙ ap (λ c. overlaps_borrowed dashed p || c) (or-none (overlap x.now p) ∙ ap (λ xs. overlap xs p) same)
        ∙ ap (λ c. overlaps_borrowed dashed p || (c && overlap q p)) (sym e)
    dash_by x same false e p = sym (ap (λ c. overlaps_borrowed dashed p || (c && overlap q p)) e ∙ or-none (overlaps_borrowed dashed p))

    pub looked_more : (x : Bor (List Logic)) → x.now ≡ q → (after : List (List Bool)) (arrays : List (Bor (List Logic)))
        → after ≡ with_bits q keys → arrays ≡ (if has_dash q then dashed ++ x ∷ [] else dashed)
        → (are_bits q && has_bits keys (bits_of q)) ≡ false → (if has_dash q then overlaps_choice (take n choices) q else overlaps_borrowed dashed q) ≡ false
        → IsLooked after arrays choices (n + 1)
    looked_more x same after arrays e f new none = record {
      seen = λ bits. ap (λ ks. has_bits ks bits) e ∙ seen_by (are_bits q) refl new bits ∙ ap₂ (λ a b. a || b) (s.seen bits) (ap (has_these bits) is) ∙ sym (more (has_bits_of bits));
      dash = λ p. ap (λ borrowed. overlaps_borrowed borrowed p) f ∙ dash_by x same (has_dash q) refl p
          ∙ ap₂ (λ a b. a || b) (s.dash p) (ap (λ xs. has_dash xs && overlap xs p) is) ∙ sym (more (overlaps_dash p));
      apart = λ k less o. ⊎_elim (λ before. s.apart k before o)
          (λ past. let at : k ≡ n = omega arith in
          none_here (tells ∙ ap₂ (λ a b. a || b) new none) (subst (OverlapsEarlier (patterns_of choices)) at o))
          (cases_lt k n);
    }

-- ---- one step through two arrays

split_here : (xs : List Logic) (i : ℕ) (x : Logic) → i < length xs → x ≡ get_or xs i x → drop i xs ≡ x ∷ drop (i + 1) xs
split_here xs i x below here = let same : suc i ≡ i + 1 = omega arith in drop-cons xs i x below ∙ (λ j. sym here j ∷ drop (same j) xs)

pub one_matched : (a : Logic) (xs ys : List Logic) (i : ℕ) (x y : Logic) → i < length xs → i < length ys → x ≡ get_or xs i x → y ≡ get_or ys i y →
    match_all a (drop i xs) (drop i ys) ≡ match_all (and_of a (match_of x y)) (drop (i + 1) xs) (drop (i + 1) ys)
one_matched a xs ys i x y below under here there = λ j. match_all a (split_here xs i x below here j) (split_here ys i y under there j)

pub drop_all : (xs : List Logic) (i : ℕ) → length xs ≤ i → drop i xs ≡ []
drop_all [] zero h = refl
drop_all [] (suc i) h = refl
drop_all (x ∷ xs) zero h = absurd (omega arith)
drop_all (x ∷ xs) (suc i) h = drop_all xs i (omega arith)

-- ---- what an insertion of bits does

abbrev Bits : Type 0
Bits = Vec Bool Global

any_map : (p : List Bool → Bool) (keys : List Bits) → list_any p (keys_of keys) ≡ list_any (λ (k : Bits). p k.items) keys
any_map p [] = refl
any_map p (k ∷ ks) = ap (λ b. p k.items || b) (any_map p ks)

keys_append : (keys : List Bits) (v : Bits) → keys_of (keys ++ v ∷ []) ≡ keys_of keys ++ v.items ∷ []
keys_append [] v = refl
keys_append (k ∷ ks) v = ap (λ rest. k.items ∷ rest) (keys_append ks v)

abbrev pub equal : Bits → Bits → Bool
equal x y = pointwise beq x.items y.items

not_not : (r b : Bool) → r ≡ not b → not r ≡ b
not_not r true e = ap not e
not_not r false e = ap not e

module _ (xs : List Logic) (keys : List Bits) (v : Bits) (stand : are_bits xs ≡ true) (same : v.items ≡ bits_of xs) where
  has : list_any (equal v) keys ≡ has_bits (keys_of keys) (bits_of xs)
  has = sym (any_map (pointwise beq v.items) keys) ∙ ap (has_bits (keys_of keys)) same

  pub were_there : (is_new : Bool) → is_new ≡ not (list_any (equal v) keys) → not is_new ≡ (are_bits xs && has_bits (keys_of keys) (bits_of xs))
  were_there is_new e = not_not is_new (list_any (equal v) keys) e ∙ has ∙ ap (λ b. b && has_bits (keys_of keys) (bits_of xs)) (sym stand)

  inserted : (b : Bool) → keys_of (if b then keys else keys ++ v ∷ []) ≡ (if not b then keys_of keys ++ bits_of xs ∷ [] else keys_of keys)
  inserted true = refl
  inserted false = keys_append keys v ∙ ap (λ bits. keys_of keys ++ bits ∷ []) same

  pub with_more : (after : List Bits) → after ≡ insert_key equal keys v → keys_of after ≡ with_bits xs (keys_of keys)
  with_more after e =
      ap keys_of e
      ∙ inserted (list_any (equal v) keys)
      ∙ ap₂ (λ a b. if a && not b then keys_of keys ++ bits_of xs ∷ [] else keys_of keys) (sym stand) has
