-- The tests of a table, a symbol at a time.
use Rattle.std.proofs.Common.{◌≡◌, ℕ, ◌+◌, ◌<◌, ◌≤◌, Bool, true, false, ◌&&◌, ◌||◌, not, List, [], ◌∷◌, ◌++◌, length, get_or, drop, if◌then◌else◌, refl, sym, ap, ◌∙◌, add-one}
use Rattle.std.specs.List.{list_all}
use Rattle.std.proofs.lemmas.List.Folds.{list_all-append, list_any-append}
use Rattle.std.proofs.Math.Seq.{drop-cons}
use Rattle.std.proofs.Math.ListN.{drop_of_length-le}
use Rattle.vd_gram.specs.declared.tables.Production.{Production}
use Rattle.vd_gram.specs.declared.tables.Table.{Table}
use Rattle.vd_gram.specs.Claims.{has, is_apart, is_terminal, can_be_empty, first_of, firsts_of, follow_is_closed, follows_are_closed, has_lower_rank, fronts_are_lower, are_told_apart, all_told_apart}

pub has_append : (xs ys : List ℕ) (x : ℕ) → has (xs ++ ys) x ≡ (has xs x || has ys x)
has_append xs ys x = list_any-append _ xs ys

-- ---- the symbols from a place on are the one that stands there and those behind it

pub drop_step : (xs : List ℕ) (i : ℕ) → i < length xs → drop i xs ≡ get_or xs i 0 ∷ drop (i + 1) xs
drop_step xs i within = drop-cons xs i 0 within ∙ ap (λ k. get_or xs i 0 ∷ drop k xs) (sym (add-one i))

module _ (t : Table) where
  firsts_step : (xs : List ℕ) (i : ℕ) → i < length xs
      → firsts_of t (drop i xs) ≡ first_of t (get_or xs i 0) ++ (if can_be_empty t (get_or xs i 0) then firsts_of t (drop (i + 1) xs) else [])
  firsts_step xs i within = ap (firsts_of t) (drop_step xs i within)

  -- a test of each symbol that can begin
  module _ (test : ℕ → Bool) where
    all_rest : (xs : List ℕ) (i : ℕ) → i < length xs → (e : Bool) → can_be_empty t (get_or xs i 0) ≡ e
        → list_all test (firsts_of t (drop i xs)) ≡ (list_all test (first_of t (get_or xs i 0)) && list_all test (if e then firsts_of t (drop (i + 1) xs) else []))
    all_rest xs i within e is =
        ap (list_all test) (firsts_step xs i within)
        ∙ list_all-append test (first_of t (get_or xs i 0)) (if can_be_empty t (get_or xs i 0) then firsts_of t (drop (i + 1) xs) else [])
        ∙ ap (λ b. list_all test (first_of t (get_or xs i 0)) && list_all test (if b then firsts_of t (drop (i + 1) xs) else [])) is

    pub all_false : (xs : List ℕ) (i : ℕ) → i < length xs → list_all test (first_of t (get_or xs i 0)) ≡ false
        → list_all test (firsts_of t (drop i xs)) ≡ false
    all_false xs i within fails =
        all_rest xs i within (can_be_empty t (get_or xs i 0)) refl
        ∙ ap (λ b. b && list_all test (if can_be_empty t (get_or xs i 0) then firsts_of t (drop (i + 1) xs) else [])) fails

    pub all_true : (xs : List ℕ) (i : ℕ) → i < length xs → list_all test (first_of t (get_or xs i 0)) ≡ true → can_be_empty t (get_or xs i 0) ≡ false
        → list_all test (firsts_of t (drop i xs)) ≡ true
    all_true xs i within passes stops = all_rest xs i within false stops ∙ ap (λ b. b && true) passes

    pub all_more : (xs : List ℕ) (i : ℕ) → i < length xs → list_all test (first_of t (get_or xs i 0)) ≡ true → can_be_empty t (get_or xs i 0) ≡ true
        → list_all test (firsts_of t (drop i xs)) ≡ list_all test (firsts_of t (drop (i + 1) xs))
    all_more xs i within passes goes =
        all_rest xs i within true goes ∙ ap (λ b. b && list_all test (firsts_of t (drop (i + 1) xs))) passes

    pub all_none : (xs : List ℕ) (i : ℕ) → length xs ≤ i → list_all test (firsts_of t (drop i xs)) ≡ true
    all_none xs i past = ap (λ ss. list_all test (firsts_of t ss)) (drop_of_length-le xs past)

  -- whether a symbol can begin
  module _ (x : ℕ) where
    any_rest : (xs : List ℕ) (i : ℕ) → i < length xs → (e : Bool) → can_be_empty t (get_or xs i 0) ≡ e
        → has (firsts_of t (drop i xs)) x ≡ (has (first_of t (get_or xs i 0)) x || has (if e then firsts_of t (drop (i + 1) xs) else []) x)
    any_rest xs i within e is =
        ap (λ ys. has ys x) (firsts_step xs i within)
        ∙ has_append (first_of t (get_or xs i 0)) (if can_be_empty t (get_or xs i 0) then firsts_of t (drop (i + 1) xs) else []) x
        ∙ ap (λ b. has (first_of t (get_or xs i 0)) x || has (if b then firsts_of t (drop (i + 1) xs) else []) x) is

    pub any_true : (xs : List ℕ) (i : ℕ) → i < length xs → has (first_of t (get_or xs i 0)) x ≡ true
        → has (firsts_of t (drop i xs)) x ≡ true
    any_true xs i within found =
        any_rest xs i within (can_be_empty t (get_or xs i 0)) refl
        ∙ ap (λ b. b || has (if can_be_empty t (get_or xs i 0) then firsts_of t (drop (i + 1) xs) else []) x) found

    pub any_false : (xs : List ℕ) (i : ℕ) → i < length xs → has (first_of t (get_or xs i 0)) x ≡ false → can_be_empty t (get_or xs i 0) ≡ false
        → has (firsts_of t (drop i xs)) x ≡ false
    any_false xs i within missed stops = any_rest xs i within false stops ∙ ap (λ b. b || false) missed

    pub any_more : (xs : List ℕ) (i : ℕ) → i < length xs → has (first_of t (get_or xs i 0)) x ≡ false → can_be_empty t (get_or xs i 0) ≡ true
        → has (firsts_of t (drop i xs)) x ≡ has (firsts_of t (drop (i + 1) xs)) x
    any_more xs i within missed goes =
        any_rest xs i within true goes ∙ ap (λ b. b || has (firsts_of t (drop (i + 1) xs)) x) missed

    pub any_none : (xs : List ℕ) (i : ℕ) → length xs ≤ i → has (firsts_of t (drop i xs)) x ≡ false
    any_none xs i past = ap (λ ss. has (firsts_of t ss) x) (drop_of_length-le xs past)

  -- ---- ranks

  module _ (rank : ℕ) where
    fronts_step : (xs : List ℕ) (i : ℕ) → i < length xs → (e : Bool) → can_be_empty t (get_or xs i 0) ≡ e
        → fronts_are_lower t rank (drop i xs)
        ≡ ((is_terminal t (get_or xs i 0) || has_lower_rank t rank (get_or xs i 0)) && (not e || fronts_are_lower t rank (drop (i + 1) xs)))
    fronts_step xs i within e is =
        ap (fronts_are_lower t rank) (drop_step xs i within)
        ∙ ap (λ b. (is_terminal t (get_or xs i 0) || has_lower_rank t rank (get_or xs i 0)) && (not b || fronts_are_lower t rank (drop (i + 1) xs))) is

    pub fronts_false : (xs : List ℕ) (i : ℕ) → i < length xs → (is_terminal t (get_or xs i 0) || has_lower_rank t rank (get_or xs i 0)) ≡ false
        → fronts_are_lower t rank (drop i xs) ≡ false
    fronts_false xs i within fails =
        fronts_step xs i within (can_be_empty t (get_or xs i 0)) refl
        ∙ ap (λ b. b && (not (can_be_empty t (get_or xs i 0)) || fronts_are_lower t rank (drop (i + 1) xs))) fails

    pub fronts_true : (xs : List ℕ) (i : ℕ) → i < length xs → (is_terminal t (get_or xs i 0) || has_lower_rank t rank (get_or xs i 0)) ≡ true
        → can_be_empty t (get_or xs i 0) ≡ false → fronts_are_lower t rank (drop i xs) ≡ true
    fronts_true xs i within passes stops = fronts_step xs i within false stops ∙ ap (λ b. b && true) passes

    pub fronts_more : (xs : List ℕ) (i : ℕ) → i < length xs → (is_terminal t (get_or xs i 0) || has_lower_rank t rank (get_or xs i 0)) ≡ true
        → can_be_empty t (get_or xs i 0) ≡ true → fronts_are_lower t rank (drop i xs) ≡ fronts_are_lower t rank (drop (i + 1) xs)
    fronts_more xs i within passes goes =
        fronts_step xs i within true goes ∙ ap (λ b. b && fronts_are_lower t rank (drop (i + 1) xs)) passes

    pub fronts_none : (xs : List ℕ) (i : ℕ) → length xs ≤ i → fronts_are_lower t rank (drop i xs) ≡ true
    fronts_none xs i past = ap (fronts_are_lower t rank) (drop_of_length-le xs past)

  -- ---- what follows

  module _ (after : List ℕ) where
    follows_step : (xs : List ℕ) (i : ℕ) → i < length xs → (b : Bool) → follow_is_closed t after (get_or xs i 0) (drop (i + 1) xs) ≡ b
        → follows_are_closed t after (drop i xs) ≡ (b && follows_are_closed t after (drop (i + 1) xs))
    follows_step xs i within b is =
        ap (follows_are_closed t after) (drop_step xs i within) ∙ ap (λ b. b && follows_are_closed t after (drop (i + 1) xs)) is

    pub follows_false : (xs : List ℕ) (i : ℕ) → i < length xs → follow_is_closed t after (get_or xs i 0) (drop (i + 1) xs) ≡ false
        → follows_are_closed t after (drop i xs) ≡ false
    follows_false xs i within fails = follows_step xs i within false fails

    pub follows_more : (xs : List ℕ) (i : ℕ) → i < length xs → follow_is_closed t after (get_or xs i 0) (drop (i + 1) xs) ≡ true
        → follows_are_closed t after (drop i xs) ≡ follows_are_closed t after (drop (i + 1) xs)
    follows_more xs i within passes = follows_step xs i within true passes

    pub follows_none : (xs : List ℕ) (i : ℕ) → length xs ≤ i → follows_are_closed t after (drop i xs) ≡ true
    follows_none xs i past = ap (follows_are_closed t after) (drop_of_length-le xs past)

  -- ---- alternatives

  told_step : (ps : List Production) (i : ℕ) (p : Production) → i < length ps → p ≡ get_or ps i p → (b : Bool) → list_all (are_told_apart t p) (drop (i + 1) ps) ≡ b
      → all_told_apart t (drop i ps) ≡ (b && all_told_apart t (drop (i + 1) ps))
  told_step ps i p within stands b is =
      ap (all_told_apart t) (drop-cons ps i p within ∙ ap (λ k. get_or ps i p ∷ drop k ps) (sym (add-one i)) ∙ ap (λ q. q ∷ drop (i + 1) ps) (sym stands))
      ∙ ap (λ b. b && all_told_apart t (drop (i + 1) ps)) is

  pub told_false : (ps : List Production) (i : ℕ) (p : Production) → i < length ps → p ≡ get_or ps i p → list_all (are_told_apart t p) (drop (i + 1) ps) ≡ false
      → all_told_apart t (drop i ps) ≡ false
  told_false ps i p within stands fails = told_step ps i p within stands false fails

  pub told_more : (ps : List Production) (i : ℕ) (p : Production) → i < length ps → p ≡ get_or ps i p → list_all (are_told_apart t p) (drop (i + 1) ps) ≡ true
      → all_told_apart t (drop i ps) ≡ all_told_apart t (drop (i + 1) ps)
  told_more ps i p within stands passes = told_step ps i p within stands true passes

  pub told_none : (ps : List Production) (i : ℕ) → length ps ≤ i → all_told_apart t (drop i ps) ≡ true
  told_none ps i past = ap (all_told_apart t) (drop_of_length-le ps past)

-- the signs of a production, in two parts
pub apart_append : (xs ys zs : List ℕ) → is_apart (xs ++ ys) zs ≡ (is_apart xs zs && is_apart ys zs)
apart_append xs ys zs = list_all-append _ xs ys

pub ruleset all_steps = (all_false, all_true, all_more, all_none)

pub ruleset begin_steps = (any_true, any_false, any_more, any_none)

pub ruleset fronts_steps = (fronts_false, fronts_true, fronts_more, fronts_none)

pub ruleset follows_steps = (follows_false, follows_more, follows_none)

pub ruleset told_steps = (told_false, told_more, told_none)

pub ruleset apart_signs = (apart_append)
