-- Names and their numbers.
use Rattle.std.proofs.Common.{◌≡◌, ℕ, suc, Bool, true, false, ◌||◌, not, List, [], ◌∷◌, ◌++◌, map, length, take, drop, get_or, ◌+◌, ◌<◌, ◌≤◌, Some, None, refl, sym, ap, ap₂, ◌∙◌, subst, arith}
use Rattle.std.specs.Prelude.{if◌then◌else◌, slice_index_or}
use Rattle.std.specs.List.{list_any, position_or_len}
use Rattle.std.specs.Str.{bytes_eq}
use Rattle.std.proofs.Math.Seq.{drop-cons}
use Rattle.std.proofs.lemmas.List.{map-append, take_more, take-append-drop, length-take-le}
use Rattle.std.proofs.lemmas.Slice.Eq.{bytes_eq-Decides}
use Rattle.vd_forest.specs.Texts.{with_text}
use Rattle.vd_first_elaboration.specs.Expressions.{each_once}
use Rattle.vd_first_elaboration.specs.Processes.{number_of}

-- ---- tests

or_assoc : (a b c : Bool) → (a || (b || c)) ≡ ((a || b) || c)
or_assoc true b c = refl
or_assoc false b c = refl

or_false : (a : Bool) → (a || false) ≡ a
or_false true = refl
or_false false = refl

absorbed : (a b : Bool) → (b ≡ true → a ≡ true) → a ≡ (a || b)
absorbed true b h = refl
absorbed false true h = h refl
absorbed false false h = refl

-- ---- equal texts

pub equal : (a b : List ℕ) → bytes_eq a b ≡ true → a ≡ b
equal a b e = (bytes_eq-Decides a b).0 e

pub equal_itself : (a b : List ℕ) → a ≡ b → bytes_eq a b ≡ true
equal_itself a b e = (bytes_eq-Decides a b).1 e

same_tests : (x y : Bool) → (x ≡ true → y ≡ true) → (y ≡ true → x ≡ true) → x ≡ y
same_tests true true f g = refl
same_tests true false f g = sym (f refl)
same_tests false true f g = g refl
same_tests false false f g = refl

pub either_way : (a b : List ℕ) → bytes_eq a b ≡ bytes_eq b a
either_way a b =
    same_tests (bytes_eq a b) (bytes_eq b a) (λ e. equal_itself b a (sym (equal a b e))) (λ e. equal_itself a b (sym (equal b a e)))

-- ---- numbers

one_or_next : (b : Bool) (n : List ℕ) (text : List ℕ) → bytes_eq n text ≡ b → (i j : ℕ) → i ≡ j → (if not b then 1 + i else 0) ≡ (if bytes_eq n text then 0 else suc j)
one_or_next true n text e i j h = ap (λ (b : Bool). if b then 0 else suc j) (sym e)
one_or_next false n text e i j h = (let one : 1 + i ≡ suc j = omega (arith, h) in one) ∙ ap (λ (b : Bool). if b then 0 else suc j) (sym e)

-- the place at which a look-up finds a name
pub place_is_number : {X : Type 0} (read : X → List ℕ) (text : List ℕ) (xs : List X) → position_or_len (λ x. bytes_eq text (read x)) xs ≡ number_of (map read xs) text
place_is_number read text [] = refl
place_is_number read text (x ∷ xs) =
    one_or_next (bytes_eq text (read x)) (read x) text (either_way (read x) text) _ _ (place_is_number read text xs)

-- what stands beside a name, where the name is
found_or : (b : Bool) (f : List ℕ → ℕ) (n text : List ℕ) (ns : List (List ℕ)) (d : ℕ) → (b ≡ true → n ≡ text) → slice_index_or (map f ns) (number_of ns text) d ≡ (if list_any (bytes_eq text) ns then f text else d) → slice_index_or (f n ∷ map f ns) (if b then 0 else suc (number_of ns text)) d ≡ (if b || list_any (bytes_eq text) ns then f text else d)
found_or true f n text ns d e h = ap f (e refl)
found_or false f n text ns d e h = h

pub beside : (f : List ℕ → ℕ) (ns : List (List ℕ)) (text : List ℕ) (d : ℕ) → slice_index_or (map f ns) (number_of ns text) d ≡ (if list_any (bytes_eq text) ns then f text else d)
beside f [] text d = refl
beside f (n ∷ ns) text d =
    found_or (bytes_eq n text) f n text ns d (equal n text) (beside f ns text d)
    ∙ ap (λ (b : Bool). if b || list_any (bytes_eq text) ns then f text else d) (either_way n text)

-- a name that isn't there has the number that comes last
neither : (a b : Bool) → (a || b) ≡ false → (a ≡ false) × (b ≡ false)
neither true b e = cc
neither false b e = (refl, e)

pub absent : (ns : List (List ℕ)) (text : List ℕ) → list_any (bytes_eq text) ns ≡ false → number_of ns text ≡ length ns
absent [] text e = refl
absent (n ∷ ns) text e =
    let both = neither (bytes_eq text n) (list_any (bytes_eq text) ns) e in
    ap (λ (b : Bool). if b then 0 else suc (number_of ns text)) (either_way n text ∙ both.0) ∙ ap suc (absent ns text both.1)

-- and one that stands behind names that are others has the number of its place
pub number_at : (ns : List (List ℕ)) (text : List ℕ) (rest : List (List ℕ)) → list_any (bytes_eq text) ns ≡ false → number_of (ns ++ text ∷ rest) text ≡ length ns
number_at [] text rest e = ap (λ (b : Bool). if b then 0 else suc (number_of rest text)) (equal_itself text text refl)
number_at (n ∷ ns) text rest e =
    let both = neither (bytes_eq text n) (list_any (bytes_eq text) ns) e in
    ap (λ (b : Bool). if b then 0 else suc (number_of (ns ++ text ∷ rest) text)) (either_way n text ∙ both.0) ∙ ap suc (number_at ns text rest both.1)

-- ---- each once

pub each_once_append : (before xs ys : List (List ℕ)) → each_once before (xs ++ ys) ≡ each_once (each_once before xs) ys
each_once_append before [] ys = refl
each_once_append before (x ∷ xs) ys = each_once_append (with_text before x) xs ys

any_append : (p : List ℕ → Bool) (xs ys : List (List ℕ)) → list_any p (xs ++ ys) ≡ (list_any p xs || list_any p ys)
any_append p [] ys = refl
any_append p (x ∷ xs) ys = ap (λ b. p x || b) (any_append p xs ys) ∙ or_assoc (p x) (list_any p xs) (list_any p ys)

any_with : (p : List ℕ → Bool) (b : Bool) (before : List (List ℕ)) (x : List ℕ) → (b ≡ true → p x ≡ true → list_any p before ≡ true) → list_any p (if b then before else before ++ x ∷ []) ≡ (list_any p before || p x)
any_with p true before x there = absorbed (list_any p before) (p x) (there refl)
any_with p false before x there = any_append p before (x ∷ []) ∙ ap (λ b. list_any p before || b) (or_false (p x))

-- a name among names
among : (text x : List ℕ) (ns : List (List ℕ)) → list_any (bytes_eq x) ns ≡ true → bytes_eq text x ≡ true → list_any (bytes_eq text) ns ≡ true
among text x ns there same = subst (λ t. list_any (bytes_eq t) ns ≡ true) (sym (equal text x same)) there

-- once each or not, the same names are there
pub same_names : (text : List ℕ) (before ns : List (List ℕ)) → list_any (bytes_eq text) (each_once before ns) ≡ (list_any (bytes_eq text) before || list_any (bytes_eq text) ns)
same_names text before [] = sym (or_false (list_any (bytes_eq text) before))
same_names text before (x ∷ xs) =
    same_names text (with_text before x) xs
    ∙ ap (λ b. b || list_any (bytes_eq text) xs) (any_with (bytes_eq text) (list_any (bytes_eq x) before) before x (λ there same. among text x before there same))
    ∙ sym (or_assoc (list_any (bytes_eq text) before) (bytes_eq text x) (list_any (bytes_eq text) xs))

-- ---- look-ups and loops

pub some_place : (b : Bool) (k i : ℕ) → (if b then Some k else None) ≡ Some i → k ≡ i
some_place true k i e = cc
some_place false k i e = cc

module _ (all : List (List ℕ)) (i : ℕ) (x : List ℕ) (names : List (List ℕ)) (within : i < length all) (is : x ≡ get_or all i []) (so_far : names ≡ each_once [] (take i all)) where
  -- a name more
  pub one_name_more : with_text names x ≡ each_once [] (take (i + 1) all)
  one_name_more =
      ap₂ with_text so_far is ∙ sym (each_once_append [] (take i all) (get_or all i [] ∷ []))
      ∙ ap (each_once []) (sym (take_more all i [] within))

  -- a name that hasn't come before has this number
  pub new_number : list_any (bytes_eq x) names ≡ false → number_of all x ≡ i
  new_number new =
      let before : list_any (bytes_eq x) (take i all) ≡ false = sym (same_names x [] (take i all)) ∙ ap (list_any (bytes_eq x)) (sym so_far) ∙ new in
      let parted : all ≡ take i all ++ x ∷ drop (suc i) all =
      sym (take-append-drop i all) ∙ ap (λ xs. take i all ++ xs) (drop-cons all i [] within ∙ ap (λ y. y ∷ drop (suc i) all) (sym is)) in
      ap (λ ns. number_of ns x) parted ∙ number_at (take i all) x (drop (suc i) all) before ∙ length-take-le i all (omega (arith, within))

  -- it is noted beside the others
  pub noted : (numbers : List ℕ) → numbers ≡ map (number_of all) names → (b : Bool) → list_any (bytes_eq x) names ≡ b → (if b then numbers else numbers ++ i ∷ []) ≡ map (number_of all) (if b then names else names ++ x ∷ [])
  noted numbers so_many true e = so_many
  noted numbers so_many false e =
      ap₂ (λ ns n. ns ++ n ∷ []) so_many (sym (new_number e)) ∙ sym (map-append (number_of all) names (x ∷ []))

-- a number is no greater than there are names
below_or : (b : Bool) (k n : ℕ) → k ≤ n → (if b then 0 else suc k) ≤ suc n
below_or true k n h = omega arith
below_or false k n h = omega (arith, h)

pub number_below : (ns : List (List ℕ)) (text : List ℕ) → number_of ns text ≤ length ns
number_below [] text = omega arith
number_below (n ∷ ns) text = below_or (bytes_eq n text) (number_of ns text) (length ns) (number_below ns text)

there_or : (b : Bool) (x d : ℕ) → (b ≡ false → x ≡ d) → (if b then x else d) ≡ x
there_or true x d h = refl
there_or false x d h = sym (h refl)

-- what the table tells is the number of each name
pub table_tells : (all names : List (List ℕ)) (numbers : List ℕ) → names ≡ each_once [] all → numbers ≡ map (number_of all) names → (text : List ℕ) → slice_index_or numbers (number_of names text) (length all) ≡ number_of all text
table_tells all names numbers once beside_them text =
    ap (λ ns. slice_index_or ns (number_of names text) (length all)) beside_them
    ∙ beside (number_of all) names text (length all)
    ∙ there_or (list_any (bytes_eq text) names) (number_of all text) (length all) (λ e. absent all text (sym (same_names text [] all) ∙ ap (list_any (bytes_eq text)) (sym once) ∙ e))
