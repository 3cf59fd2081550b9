-- A forest more has been visited.
use Rattle.std.proofs.Common.{◌≡◌, ◌<◌, ℕ, ◌+◌, ◌*◌, List, [], ◌∷◌, ◌++◌, refl, sym, ap, ◌∙◌, arith, append_assoc}
use Rattle.std.specs.Prelude.{Some, option_to_list}
use Rattle.std.proofs.lemmas.List.{append-nil}
use Rattle.vd_bytes.specs.declared.places.Place.{Place}
use Rattle.vd_forest.specs.Forest.{Forest, more, size}
use Rattle.vd_walks.specs.Visits.{visited, all_visited, visits}

module _ {F : Type 0} where
  pub visited_last : (fs : List (Forest F)) (f : Forest F) → all_visited (fs ++ f ∷ []) ≡ visited f ++ all_visited fs
  visited_last [] f = sym (append-nil (visited f))
  visited_last (g ∷ gs) f = ap (λ x. x ++ visited g) (visited_last gs f) ∙ append_assoc (visited f) (all_visited gs) (visited g)

  pub visits_last : (fs : List (Forest F)) (f : Forest F) → visits (fs ++ f ∷ []) ≡ visits fs + (2 * size f + 1)
  visits_last [] f = refl
  visits_last (g ∷ gs) f = let e = visits_last gs f in omega (arith, e)

  -- a forest whose first tree is opened
  pub opened_visited : (f parts next : Forest F) (form : F) (text : List ℕ) (place : Place) (old between new : List (Forest F))
      → f ≡ more form text place parts next → between ≡ old ++ next ∷ [] → new ≡ between ++ parts ∷ []
      → f ∷ all_visited new ≡ visited f ++ all_visited old
  opened_visited f parts next form text place old between new opened first second =
      ap (λ x. f ∷ x) (ap all_visited second ∙ visited_last between parts ∙ ap (λ x. visited parts ++ x) (ap all_visited first ∙ visited_last old next)
      ∙ sym (append_assoc (visited parts) (visited next) (all_visited old)))
      ∙ ap (λ x. x ∷ ((visited parts ++ visited next) ++ all_visited old)) opened
      ∙ ap (λ x. visited x ++ all_visited old) (sym opened)

  pub opened_fewer : (f parts next : Forest F) (form : F) (text : List ℕ) (place : Place) (old between new : List (Forest F))
      → f ≡ more form text place parts next → between ≡ old ++ next ∷ [] → new ≡ between ++ parts ∷ []
      → visits new < visits old + (2 * size f + 1)
  opened_fewer f parts next form text place old between new opened first second =
      let a = ap visits second ∙ visits_last between parts in
      let b = ap visits first ∙ visits_last old next in
      let s = ap size opened in
      omega (arith, a, b, s)

  pub one_visited : (made waiting rest new want : List (Forest F)) (f : Forest F) → waiting ≡ rest ++ option_to_list (Some f)
      → f ∷ all_visited new ≡ visited f ++ all_visited rest → made ++ all_visited waiting ≡ want → (made ++ f ∷ []) ++ all_visited new ≡ want
  one_visited made waiting rest new want f popped opened before =
      append_assoc made (f ∷ []) (all_visited new) ∙ ap (λ x. made ++ x) (opened ∙ sym (visited_last rest f) ∙ ap all_visited (sym popped)) ∙ before

  pub one_fewer : (waiting rest new : List (Forest F)) (f : Forest F) → waiting ≡ rest ++ option_to_list (Some f)
      → visits new < visits rest + (2 * size f + 1) → visits new < visits waiting
  one_fewer waiting rest new f popped fewer = let a = ap visits popped ∙ visits_last rest f in omega (arith, a)

  pub none_left : (made waiting want : List (Forest F)) → waiting ≡ [] → made ++ all_visited waiting ≡ want → made ≡ want
  none_left made waiting want none before = sym (append-nil made) ∙ ap (λ x. made ++ all_visited x) (sym none) ∙ before

pub ruleset opened_visits = (opened_visited, opened_fewer)
