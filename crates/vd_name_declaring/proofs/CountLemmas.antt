-- Counting elements one by one.
use Rattle.std.proofs.Common.{◌≡◌, ◌+◌, ◌==◌, ◌&&◌, ◌||◌, ◌++◌, nat_lt, ℕ, Bool, true, false, cond, List, [], ◌∷◌, length, Option, Some, None, refl, sym, ap, subst, ◌∙◌, arith, nat_eq, true≢false}
use Rattle.std.specs.Option.{unwrap_or}
use Rattle.std.proofs.lemmas.Bool.Decides.{nat_tests}
use Rattle.std.specs.declared.hash.FoldHasher.{FoldHasher}
use Rattle.std.specs.declared.hash.BuildHasherDefault.{BuildHasherDefault}
use Rattle.std.specs.HashMap.{HashMap, get, Updates}
use Rattle.std.specs.List.{filter, list_all, list_any}
use Rattle.vd_naming.specs.Paths.{is_some}
use Rattle.vd_bytes.specs.declared.places.Place.{Place}
use Rattle.vd_forest.specs.Forest.{Forest, nothing, more, parts_of}
use Rattle.vd_resolved.specs.declared.node.Resolved.{Resolved}
use Rattle.vd_naming.specs.Views.{is_element, times_given, is_ill_given, declarations_of, elements_given}
use Rattle.vd_name_declaring.specs.Counted.{count_of, is_counted_ill, AreAdded, AreGiven}
use Rattle.vd_name_declaring.specs.declared.given.Given.{Given}

abbrev Times : Type 0
Times = HashMap ℕ ℕ (BuildHasherDefault FoldHasher)

-- ---- how often elements are given in two lists

abbrev once : Bool → ℕ
once b = cond b 1 0

times_front : (b : Bool) (e : Option ℕ) (es : List (Option ℕ)) → length (cond b (e ∷ es) es) ≡ once b + length es
times_front true e es = omega arith
times_front false e es = omega arith

times_joined : (some rest : List (Option ℕ)) (k : ℕ) → times_given (some ++ rest) k ≡ times_given some k + times_given rest k
times_joined [] rest k = omega arith
times_joined (e ∷ some) rest k =
    let here = times_front (is_element k e) e (filter (is_element k) (some ++ rest)) in
    let there = times_front (is_element k e) e (filter (is_element k) some) in
    omega (arith, here, there, times_joined some rest k)

and_right : (b : Bool) → b ≡ (b && true)
and_right true = refl
and_right false = refl

and_brackets : (a b c : Bool) → ((a && b) && c) ≡ (a && (b && c))
and_brackets true b c = refl
and_brackets false b c = refl

known_joined : (some rest : List (Option ℕ)) → list_all is_some (some ++ rest) ≡ (list_all is_some some && list_all is_some rest)
known_joined [] rest = refl
known_joined (e ∷ some) rest = ap (λ b. is_some e && b) (known_joined some rest) ∙ sym (and_brackets (is_some e) (list_all is_some some) (list_all is_some rest))

-- ---- what is counted so far, and what is left

pub record AreLeft (now : Given) (rest : List (Option ℕ)) (totals : ℕ → ℕ) (known : Bool) : Type 0 where
  pub times : (k : ℕ) → count_of now.times k + times_given rest k ≡ totals k
  pub all : (now.all_known && list_all is_some rest) ≡ known

pub more_counted : (now next : Given) (some rest : List (Option ℕ)) (totals : ℕ → ℕ) (known : Bool)
    → AreLeft now (some ++ rest) totals known → AreAdded now next some → AreLeft next rest totals known
more_counted now next some rest totals known left added = record {
  times = λ k. let one = left.times k in let two = added.times k in let three = times_joined some rest k in omega (arith, one, two, three);
  all = ap (λ b. b && list_all is_some rest) added.known
      ∙ and_brackets now.all_known (list_all is_some some) (list_all is_some rest)
      ∙ ap (λ b. now.all_known && b) (sym (known_joined some rest)) ∙ left.all;
}

pub names_begun : (now : Given) (names : Forest Resolved)
    → AreLeft now (declarations_of names) (λ k. count_of now.times k + times_given (declarations_of names) k) (now.all_known && list_all is_some (declarations_of names))
names_begun now names = record { times = λ k. refl; all = refl }

pub names_counted : (now next : Given) (left : Forest Resolved) (node : Resolved) (text : List ℕ) (place : Place) (parts rest : Forest Resolved) (totals : ℕ → ℕ) (known : Bool)
    → left ≡ more node text place parts rest → AreLeft now (declarations_of left) totals known → AreAdded now next (node.declaration ∷ [])
    → AreLeft next (declarations_of rest) totals known
names_counted now next left node text place parts rest totals known opened so_far added =
    more_counted now next (node.declaration ∷ []) (declarations_of rest) totals known
    (subst (λ f. AreLeft now (declarations_of f) totals known) opened so_far) added

pub all_counted : (old new : Given) (names left : Forest Resolved) → left ≡ nothing
    → AreLeft new (declarations_of left) (λ k. count_of old.times k + times_given (declarations_of names) k) (old.all_known && list_all is_some (declarations_of names))
    → AreAdded old new (declarations_of names)
all_counted old new names left ended so_far =
    let none = subst (λ f. AreLeft new (declarations_of f) (λ k. count_of old.times k + times_given (declarations_of names) k) (old.all_known && list_all is_some (declarations_of names))) ended so_far in
    record {
      times = λ k. let is = none.times k in omega (arith, is);
      known = and_right new.all_known ∙ none.all;
    }

pub elements_begun : (now : Given) (elements : Forest Resolved) → AreGiven now []
    → AreLeft now (elements_given elements) (λ k. times_given (elements_given elements) k) (list_all is_some (elements_given elements))
elements_begun now elements none = record {
  times = λ k. let is : count_of now.times k ≡ 0 = none.times k in omega (arith, is);
  all = ap (λ b. b && list_all is_some (elements_given elements)) none.known;
}

pub elements_counted : (now next : Given) (left : Forest Resolved) (node : Resolved) (text : List ℕ) (place : Place) (parts rest names : Forest Resolved) (totals : ℕ → ℕ) (known : Bool)
    → left ≡ more node text place parts rest → names ≡ parts_of parts → AreLeft now (elements_given left) totals known → AreAdded now next (declarations_of names)
    → AreLeft next (elements_given rest) totals known
elements_counted now next left node text place parts rest names totals known opened named so_far added =
    more_counted now next (declarations_of (parts_of parts)) (elements_given rest) totals known
    (subst (λ f. AreLeft now (elements_given f) totals known) opened so_far) (subst (λ f. AreAdded now next (declarations_of f)) named added)

pub all_given : (new : Given) (elements left : Forest Resolved) → left ≡ nothing
    → AreLeft new (elements_given left) (λ k. times_given (elements_given elements) k) (list_all is_some (elements_given elements))
    → AreGiven new (elements_given elements)
all_given new elements left ended so_far =
    let none = subst (λ f. AreLeft new (elements_given f) (λ k. times_given (elements_given elements) k) (list_all is_some (elements_given elements))) ended so_far in
    record {
      times = λ k. let is = none.times k in omega (arith, is);
      known = and_right new.all_known ∙ none.all;
    }

-- ---- one more

same_either_way : (m n : ℕ) → nat_eq m n ≡ (n == m)
same_either_way m n = grind (arith, nat_tests)

same_number : (m n : ℕ) → nat_eq m n ≡ true → m ≡ n
same_number m n same = grind (same, arith, nat_tests)

pub one_added : (old new : Given) (element times : ℕ) → Updates nat_eq old.times new.times element (Some times) → times ≡ count_of old.times element + 1
    → new.all_known ≡ old.all_known → AreAdded old new (Some element ∷ [])
one_added old new element times put one_more known = record {
  times = λ k. ap (λ t. counted t) (put.0 k) ∙ by_which k (nat_eq element k) (k == element) (same_either_way element k) (same_number element k);
  known = known ∙ and_right old.all_known;
}
  where
    counted : Option ℕ → ℕ
    counted t = unwrap_or t 0

    by_which : (k : ℕ) (b c : Bool) → b ≡ c → (b ≡ true → element ≡ k)
        → counted (cond b (Some times) (get nat_eq old.times k)) ≡ count_of old.times k + length (cond c (Some element ∷ []) [])
    by_which k true true same is = one_more ∙ ap (λ j. count_of old.times j + 1) (is refl)
    by_which k true false same is = absurd (true≢false same)
    by_which k false true same is = absurd (true≢false (sym same))
    by_which k false false same is = omega arith

pub none_added : (old new : Given) → new.times ≡ old.times → new.all_known ≡ false → AreAdded old new (None ∷ [])
none_added old new times known = record {
  times = λ k. ap (λ t. count_of t k) times ∙ omega arith;
  known = known ∙ sym (and_false old.all_known);
}
  where
    and_false : (b : Bool) → (b && false) ≡ false
    and_false true = refl
    and_false false = refl

-- ---- what is ill by the counts is ill

pub ill_as_counted : (g : Given) (given : List (Option ℕ)) → AreGiven g given → (k : ℕ) → is_counted_ill g k ≡ is_ill_given given k
ill_as_counted g given counted k =
    ap (λ n. nat_lt 1 n || ((n == 0) && g.all_known)) (counted.times k)
    ∙ ap (λ b. nat_lt 1 (times_given given k) || ((times_given given k == 0) && b)) counted.known

pub some_ill_as_counted : (g : Given) (given : List (Option ℕ)) (ks : List ℕ) → AreGiven g given
    → list_any (is_counted_ill g) ks ≡ list_any (is_ill_given given) ks
some_ill_as_counted g given [] counted = refl
some_ill_as_counted g given (k ∷ ks) counted =
    ap (λ b. b || list_any (is_counted_ill g) ks) (ill_as_counted g given counted k)
    ∙ ap (λ b. is_ill_given given k || b) (some_ill_as_counted g given ks counted)
