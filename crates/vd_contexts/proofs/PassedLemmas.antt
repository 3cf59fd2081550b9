-- Elements that are passed, one after the other.
use Rattle.std.proofs.Common.{◌++◌, ◌+◌, ◌≤◌, ◌≡◌, ◌∙◌, ◌∷◌, Bool, List, [], ap, ap₂, append_assoc, drop, length, refl, slice_get, sym, suc, zero, ℕ, arith}
use Rattle.std.proofs.lemmas.List.{append-nil, map-append}
use Rattle.vd_bytes.specs.declared.places.Place.{Place}
use Rattle.vd_forest.specs.Forest.{Forest, more, nothing}
use Rattle.vd_meaning.specs.Facets.{Meaning, nth}
use Rattle.vd_meaning.specs.Meanings.{meanings, node_meaning}
use Rattle.vd_resolved.specs.declared.node.Resolved.{Resolved}
use Rattle.vd_contexts.specs.Standing.{standing_of, standings_in}
use Rattle.vd_contexts.specs.declared.standings.Standing.{Standing}
use Rattle.vd_contexts.specs.declared.standings.Standing.TheVariants as code
use Rattle.vd_value_rules.specs.Designs.{Design}
use Rattle.vd_value_rules.specs.Standings.{first_number, formal_of_element, further_numbers, is_bounded_formal, passed}
use Rattle.vd_value_rules.specs.Standings as standings

pub first_of_drop : (n : ℕ) (ns : List ℕ) → first_number (drop n ns) ≡ slice_get ns n
first_of_drop zero [] = refl
first_of_drop zero (x ∷ xs) = refl
first_of_drop (suc n) [] = refl
first_of_drop (suc n) (x ∷ xs) = first_of_drop n xs

behind_drop : (n : ℕ) (ns : List ℕ) → drop (suc n) ns ≡ further_numbers (drop n ns)
behind_drop zero [] = refl
behind_drop zero (x ∷ xs) = refl
behind_drop (suc n) [] = refl
behind_drop (suc n) (x ∷ xs) = behind_drop n xs

pub further_of_drop : (n m : ℕ) (ns : List ℕ) → m ≡ n + 1 → drop m ns ≡ further_numbers (drop n ns)
further_of_drop n m ns is = let one : m ≡ suc n = omega (arith, is) in ap (λ k. drop k ns) one ∙ behind_drop n ns

module _ (d : Design) (is : ℕ → Bool) (m : Meaning) (ms : List Meaning) (whole : List standings.Standing) where
  pub one_more : (made longer : List Standing) (b : Bool) (ns later : List ℕ) → longer ≡ made ++ code.Passed b ∷ []
      → b ≡ is_bounded_formal is (formal_of_element m ns) → further_numbers ns ≡ later
      → standings_in d made ++ passed is ns (m ∷ ms) ≡ whole → standings_in d longer ++ passed is later ms ≡ whole
  one_more made longer b ns later pushed bounded further so_far =
      ap (λ xs. standings_in d xs ++ passed is later ms) pushed
      ∙ ap (λ xs. xs ++ passed is later ms) (map-append (standing_of d) made (code.Passed b ∷ []))
      ∙ append_assoc (standings_in d made) (standings.Passed b ∷ []) (passed is later ms)
      ∙ ap₂ (λ x ns'. standings_in d made ++ standings.Passed x ∷ passed is ns' ms) bounded (sym further)
      ∙ so_far

-- behind the last formal there is none
pub further_past : (n : ℕ) (ns : List ℕ) → length ns ≤ n → drop n ns ≡ further_numbers (drop n ns)
further_past zero [] past = refl
further_past zero (x ∷ xs) past = absurd (no past)
  where
    no : suc (length xs) ≤ 0 → ⊥
    no e = omega (arith, e)
further_past (suc n) [] past = refl
further_past (suc n) (x ∷ xs) past = further_past n xs (omega (arith, past))

pub elements_on : (d : Design) (is : ℕ → Bool) (whole : List standings.Standing) (rest : Forest Resolved) (n : Resolved) (text : List ℕ) (place : Place) (parts next : Forest Resolved)
    → rest ≡ more n text place parts next → (made longer : List Standing) (b : Bool) (ns later : List ℕ) → longer ≡ made ++ code.Passed b ∷ []
    → b ≡ is_bounded_formal is (formal_of_element (nth 0 (meanings d.table rest)) ns) → further_numbers ns ≡ later
    → standings_in d made ++ passed is ns (meanings d.table rest) ≡ whole → standings_in d longer ++ passed is later (meanings d.table next) ≡ whole
elements_on d is whole rest n text place parts next opened made longer b ns later pushed bounded further so_far =
    one_more d is (node_meaning d.table n text place (meanings d.table parts)) (meanings d.table next) whole made longer b ns later pushed
    (bounded ∙ ap (λ f. is_bounded_formal is (formal_of_element (nth 0 (meanings d.table f)) ns)) opened) further
    (ap (λ f. standings_in d made ++ passed is ns (meanings d.table f)) (sym opened) ∙ so_far)

-- no elements are left
pub elements_end : (d : Design) (is : ℕ → Bool) (whole : List standings.Standing) (rest : Forest Resolved) (made : List Standing) (ns : List ℕ) → rest ≡ nothing
    → standings_in d made ++ passed is ns (meanings d.table rest) ≡ whole → standings_in d made ≡ whole
elements_end d is whole rest made ns none so_far =
    sym (append-nil (standings_in d made)) ∙ ap (λ xs. standings_in d made ++ xs) (sym (none_passed ns)) ∙ ap (λ f. standings_in d made ++ passed is ns (meanings d.table f)) (sym none) ∙ so_far
  where
    none_passed : (ns : List ℕ) → passed is ns [] ≡ []
    none_passed [] = refl
    none_passed (x ∷ xs) = refl
