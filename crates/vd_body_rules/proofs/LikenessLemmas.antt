-- Lists that are compared side by side. No name has a dash, so that a caller can name each in `#[tactic(auto, using(..))]`.
use Rattle.std.proofs.Common.{◌≡◌, ◌<◌, ◌≤◌, ◌-◌, Bool, List, [], ap, ap₂, arith, drop, length, nat_eq, refl, suc, sym, true, zero, ℕ, ◌&&◌, ◌∙◌, ◌∷◌}
use Rattle.std.proofs.lemmas.Bool.Decides.{nat_tests}
use Rattle.std.proofs.lemmas.List.{drop_all, length-drop}
use Rattle.vd_body_rules.specs.Items.{first_trees, items_of}
use Rattle.vd_body_rules.specs.declared.items.Item.{Item}
use Rattle.vd_forest.specs.Forest.{Forest, next_of}
use Rattle.vd_resolved.specs.declared.node.Resolved.{Resolved}
use Rattle.vd_value_rules.specs.Bodies.{all_same_declared, all_say_same, alone, say_same}

pub trees_more : (ps : List (ℕ × ℕ)) (m n : ℕ) (f g f' g' : Forest Resolved) (same : Bool) → 0 < m → 0 < n
    → same ≡ say_same ps (alone f) (alone g) → same ≡ true → f' ≡ next_of f → g' ≡ next_of g
    → all_say_same ps (first_trees (m - 1) f') (first_trees (n - 1) g') ≡ all_say_same ps (first_trees m f) (first_trees n g)
trees_more ps zero n f g f' g' same some other is holds f_is g_is = absurd (omega arith)
trees_more ps (suc m) zero f g f' g' same some other is holds f_is g_is = absurd (omega arith)
trees_more ps (suc m) (suc n) f g f' g' same some other is holds f_is g_is =
    let m_is : suc m - 1 ≡ m = omega arith in
    let n_is : suc n - 1 ≡ n = omega arith in
    ap₂ (λ a b. all_say_same ps (first_trees a f') (first_trees b g')) m_is n_is
    ∙ ap₂ (λ a b. all_say_same ps (first_trees m a) (first_trees n b)) f_is g_is
    ∙ ap (λ b. b && all_say_same ps (first_trees m (next_of f)) (first_trees n (next_of g))) (sym holds ∙ is)

module _ (ps : List (ℕ × ℕ)) where
  none_in_one : (zs : List Item) → nat_eq 0 (length zs) ≡ all_same_declared ps [] (items_of zs)
  none_in_one [] = refl
  none_in_one (z ∷ zs) = grind (arith, nat_tests)

  none_in_other : (zs : List Item) → nat_eq (length zs) 0 ≡ all_same_declared ps (items_of zs) []
  none_in_other [] = refl
  none_in_other (z ∷ zs) = grind (arith, nat_tests)

  from_both : (m n k : ℕ) → m ≡ k → k ≤ n → nat_eq m n ≡ nat_eq 0 (n - k)
  from_both m n k is within = grind (arith, nat_tests)

  from_other : (m n k : ℕ) → n ≡ k → k ≤ m → nat_eq m n ≡ nat_eq (m - k) 0
  from_other m n k is within = grind (arith, nat_tests)

  pub one_ended : (xs ys : List Item) (k : ℕ) → k ≤ length xs → k ≤ length ys → length xs ≤ k
      → nat_eq (length xs) (length ys) ≡ all_same_declared ps (items_of (drop k xs)) (items_of (drop k ys))
  one_ended xs ys k in_one in_other past =
      let is : length xs ≡ k = omega arith in
      from_both (length xs) (length ys) k is in_other ∙ ap (nat_eq 0) (sym (length-drop k ys)) ∙ none_in_one (drop k ys)
      ∙ ap (λ zs. all_same_declared ps (items_of zs) (items_of (drop k ys))) (sym (drop_all k xs past))

  pub other_ended : (xs ys : List Item) (k : ℕ) → k ≤ length xs → k ≤ length ys → length ys ≤ k
      → nat_eq (length xs) (length ys) ≡ all_same_declared ps (items_of (drop k xs)) (items_of (drop k ys))
  other_ended xs ys k in_one in_other past =
      let is : length ys ≡ k = omega arith in
      from_other (length xs) (length ys) k is in_one ∙ ap (λ n. nat_eq n 0) (sym (length-drop k xs)) ∙ none_in_other (drop k xs)
      ∙ ap (λ zs. all_same_declared ps (items_of (drop k xs)) (items_of zs)) (sym (drop_all k ys past))
