-- What is still to be found while a forest is walked.
use Rattle.std.proofs.Common.{◌≡◌, ◌<◌, ℕ, ◌+◌, ◌*◌, List, [], ◌∷◌, ◌++◌, length, reverse, refl, sym, ap, subst, ◌∙◌, arith, append_assoc}
use Rattle.std.specs.Prelude.{Some, option_to_list}
use Rattle.std.proofs.lemmas.List.{append-nil, reverse-append}
use Rattle.std.proofs.Math.Nat.{suc-ne-zero}
use Rattle.vd_bytes.specs.declared.answers.Refused.{Refused}
use Rattle.vd_bytes.specs.declared.places.Place.{Place}
use Rattle.vd_forest.specs.Forest.{Forest, more, next_of, nothing, size}
use Rattle.vd_walks.specs.Least.{Judge, all_broken}
use Rattle.vd_walks.specs.Positions.{Along, Down, Position, Tree, all_broken_at, judged, passed, state_at, tree_with}

-- what a judge finds broken at the places of a forest is all that it finds broken in it
pub judged_is_broken : {F S : Type 0} (judge : Judge F S) (s : S) (p : Position F) (f : Forest F)
    → all_broken_at (judged judge s) p f ≡ all_broken judge (state_at judge s p) f
judged_is_broken judge s p nothing = refl
judged_is_broken judge s p (more form text place parts next) =
    λ i. judged judge s p (tree_with form text place parts)
    ++ (judged_is_broken judge s (Down (tree_with form text place parts) ∷ p) parts i ++ judged_is_broken judge s (Along (tree_with form text place parts) ∷ p) next i)

pub is_empty : {X : Type 0} (xs : List X) → length xs ≡ 0 → xs ≡ []
is_empty [] e = refl
is_empty (x ∷ xs) e = absurd (suc-ne-zero (length xs) e)

module _ {F : Type 0} where
  -- ---- how much is left to be done, with the trees round a place, from the inside out

  abbrev pub work_round : List (Forest F) → ℕ
  work_round [] = 0
  work_round (g ∷ gs) = work_round gs + (2 * size (next_of g) + 1)

  turned : (gs : List (Forest F)) (g : Forest F) → reverse (gs ++ g ∷ []) ≡ g ∷ reverse gs
  turned gs g = reverse-append gs (g ∷ [])

  -- ---- where the walk is: the end of what is left is the end of what it stands in

  abbrev pub IsAt : Position F → Forest F → Position F → Forest F → List (Forest F) → List (Position F) → Type 0
  IsAt begun from p left [] [] = passed p left ≡ passed begun from
  IsAt begun from p left (more form text place parts next ∷ gs) (q ∷ qs) =
      (passed p left ≡ passed (Down (tree_with form text place parts) ∷ q) parts) × IsAt begun from (Along (tree_with form text place parts) ∷ q) next gs qs
  IsAt begun from p left _ _ = ⊥

  at_parts : (begun : Position F) (from : Forest F) (p : Position F) (form : F) (text : List ℕ) (place : Place) (parts next : Forest F) (gs : List (Forest F)) (qs : List (Position F))
      → IsAt begun from p (more form text place parts next) gs qs → IsAt begun from (Along (tree_with form text place parts) ∷ p) next gs qs
  at_parts begun from p form text place parts next [] [] is = is
  at_parts begun from p form text place parts next [] (q ∷ qs) is = absurd is
  at_parts begun from p form text place parts next (nothing ∷ gs) qs is = absurd is
  at_parts begun from p form text place parts next (more f t pl ps n ∷ gs) [] is = absurd is
  at_parts begun from p form text place parts next (more f t pl ps n ∷ gs) (q ∷ qs) is = is

  module _ (broken : Position F → Tree F → List Refused) where
    -- what is still to be found
    abbrev pub to_find : Position F → Forest F → List (Forest F) → List (Position F) → List Refused
    to_find p left (more form text place parts next ∷ gs) (q ∷ qs) =
        all_broken_at broken p left ++ to_find (Along (tree_with form text place parts) ∷ q) next gs qs
    to_find p left _ _ = all_broken_at broken p left

    found_more : (p : Position F) (form : F) (text : List ℕ) (place : Place) (parts next : Forest F) (gs : List (Forest F)) (qs : List (Position F))
        → to_find p (more form text place parts next) gs qs
        ≡ broken p (tree_with form text place parts)
        ++ (all_broken_at broken (Down (tree_with form text place parts) ∷ p) parts ++ to_find (Along (tree_with form text place parts) ∷ p) next gs qs)
    found_more p form text place parts next [] qs = refl
    found_more p form text place parts next (nothing ∷ gs) qs = refl
    found_more p form text place parts next (more f t pl ps n ∷ gs) [] = refl
    found_more p form text place parts next (more f t pl ps n ∷ gs) (q ∷ qs) =
        let x = broken p (tree_with form text place parts) in
        let inside = all_broken_at broken (Down (tree_with form text place parts) ∷ p) parts in
        let behind = all_broken_at broken (Along (tree_with form text place parts) ∷ p) next in
        let rest = to_find (Along (tree_with f t pl ps) ∷ q) n gs qs in
        append_assoc x (inside ++ behind) rest ∙ ap (λ r. x ++ r) (append_assoc inside behind rest)

    -- ---- the loop: the table follows, whatever it had found before

    pub record Walked (follows : List Refused → List (Position F) → Type 0) (begun : Position F) (from : Forest F) (outer : List (Position F)) (whole : List Refused)
        (left : Forest F) (gs : List (Forest F)) : Type 0 where
      pub found : List Refused
      pub here : Position F
      pub round : List (Position F)
      pub knows : follows found (here ∷ (round ++ outer))
      pub at : IsAt begun from here left gs round
      pub all : found ++ to_find here left gs round ≡ whole

    pub walked_first : (follows : List Refused → List (Position F) → Type 0) (begun : Position F) (from : Forest F) (outer : List (Position F)) (rs : List Refused)
        → follows rs (begun ∷ outer) → Walked follows begun from outer (rs ++ all_broken_at broken begun from) from []
    walked_first follows begun from outer rs is = record { found = rs; here = begun; round = []; knows = is; at = refl; all = refl }

    pub walked_inside : (follows after : List Refused → List (Position F) → Type 0) (begun : Position F) (from : Forest F) (outer : List (Position F)) (whole : List Refused)
        (form : F) (text : List ℕ) (place : Place) (parts next : Forest F) (gs : List (Forest F))
        → ((rs : List Refused) (p : Position F) (ps : List (Position F)) → follows rs (p ∷ ps)
        → after (rs ++ broken p (tree_with form text place parts)) ((Down (tree_with form text place parts) ∷ p) ∷ p ∷ ps))
        → Walked follows begun from outer whole (more form text place parts next) gs
        → Walked after begun from outer whole parts (more form text place parts next ∷ gs)
    walked_inside follows after begun from outer whole form text place parts next gs entered w =
        let x = tree_with form text place parts in
        record {
          found = w.found ++ broken w.here x;
          here = Down x ∷ w.here;
          round = w.here ∷ w.round;
          knows = entered w.found w.here (w.round ++ outer) w.knows;
          at = (refl, at_parts begun from w.here form text place parts next gs w.round w.at);
          all = append_assoc w.found (broken w.here x) (all_broken_at broken (Down x ∷ w.here) parts ++ to_find (Along x ∷ w.here) next gs w.round)
              ∙ ap (λ r. w.found ++ r) (sym (found_more w.here form text place parts next gs w.round)) ∙ w.all;
        }

    behind_by : (follows after : List Refused → List (Position F) → Type 0) (begun : Position F) (from : Forest F) (outer : List (Position F)) (whole : List Refused)
        (form : F) (text : List ℕ) (place : Place) (parts next : Forest F) (gs : List (Forest F))
        → ((rs : List Refused) (p : Position F) (ps : List (Position F)) → follows rs (passed (Down (tree_with form text place parts) ∷ p) parts ∷ p ∷ ps)
        → after rs ((Along (tree_with form text place parts) ∷ p) ∷ ps))
        → (found : List Refused) (here : Position F) (round : List (Position F)) → follows found (here ∷ (round ++ outer))
        → IsAt begun from here nothing (more form text place parts next ∷ gs) round
        → found ++ to_find here nothing (more form text place parts next ∷ gs) round ≡ whole
        → Walked after begun from outer whole next gs
    behind_by follows after begun from outer whole form text place parts next gs left found here [] is at all = absurd at
    behind_by follows after begun from outer whole form text place parts next gs left found here (q ∷ qs) is at all =
        record {
          found = found;
          here = Along (tree_with form text place parts) ∷ q;
          round = qs;
          knows = left found q (qs ++ outer) (subst (λ p. follows found (p ∷ q ∷ (qs ++ outer))) at.0 is);
          at = at.1;
          all = all;
        }

    pub walked_behind : (follows after : List Refused → List (Position F) → Type 0) (begun : Position F) (from : Forest F) (outer : List (Position F)) (whole : List Refused)
        (form : F) (text : List ℕ) (place : Place) (parts next : Forest F) (gs : List (Forest F))
        → ((rs : List Refused) (p : Position F) (ps : List (Position F)) → follows rs (passed (Down (tree_with form text place parts) ∷ p) parts ∷ p ∷ ps)
        → after rs ((Along (tree_with form text place parts) ∷ p) ∷ ps))
        → Walked follows begun from outer whole nothing (more form text place parts next ∷ gs) → Walked after begun from outer whole next gs
    walked_behind follows after begun from outer whole form text place parts next gs left w =
        behind_by follows after begun from outer whole form text place parts next gs left w.found w.here w.round w.knows w.at w.all

    ended_by : (follows : List Refused → List (Position F) → Type 0) (begun : Position F) (from : Forest F) (outer : List (Position F)) (whole : List Refused)
        (found : List Refused) (here : Position F) (round : List (Position F)) → follows found (here ∷ (round ++ outer)) → IsAt begun from here nothing [] round
        → found ++ to_find here nothing [] round ≡ whole → follows whole (passed begun from ∷ outer)
    ended_by follows begun from outer whole found here [] is at all =
        subst (λ rs. follows rs (passed begun from ∷ outer)) (sym (append-nil found) ∙ all) (subst (λ p. follows found (p ∷ outer)) at is)
    ended_by follows begun from outer whole found here (q ∷ qs) is at all = absurd at

    pub walked_to_end : (follows : List Refused → List (Position F) → Type 0) (begun : Position F) (from : Forest F) (outer : List (Position F)) (whole : List Refused)
        → Walked follows begun from outer whole nothing [] → follows whole (passed begun from ∷ outer)
    walked_to_end follows begun from outer whole w = ended_by follows begun from outer whole w.found w.here w.round w.knows w.at w.all

    -- ---- no empty forest stands round a place

    none_round : (begun : Position F) (from : Forest F) (p : Position F) (left : Forest F) (gs : List (Forest F)) (qs : List (Position F)) → IsAt begun from p left (nothing ∷ gs) qs → ⊥
    none_round begun from p left gs [] is = is
    none_round begun from p left gs (q ∷ qs) is = is

    pub no_empty : (follows : List Refused → List (Position F) → Type 0) (begun : Position F) (from : Forest F) (outer : List (Position F)) (whole : List Refused)
        (left last : Forest F) (round rest : List (Forest F)) → round ≡ rest ++ option_to_list (Some last) → last ≡ nothing → Walked follows begun from outer whole left (reverse round) → ⊥
    no_empty follows begun from outer whole left last round rest popped is w =
        let v = subst (λ f. Walked follows begun from outer whole left (f ∷ reverse rest)) is (subst (λ gs. Walked follows begun from outer whole left gs) (ap reverse popped ∙ turned rest last) w) in
        none_round begun from v.here left (reverse rest) v.round v.at

    -- ---- the same, by what is known of the steps

    pub one_inside : (follows after : List Refused → List (Position F) → Type 0) (begun : Position F) (from : Forest F) (outer : List (Position F)) (whole : List Refused)
        (left : Forest F) (form : F) (text : List ℕ) (place : Place) (parts next : Forest F) (round grown : List (Forest F))
        → left ≡ more form text place parts next → grown ≡ round ++ left ∷ []
        → ((rs : List Refused) (p : Position F) (ps : List (Position F)) → follows rs (p ∷ ps)
        → after (rs ++ broken p (tree_with form text place parts)) ((Down (tree_with form text place parts) ∷ p) ∷ p ∷ ps))
        → Walked follows begun from outer whole left (reverse round) → Walked after begun from outer whole parts (reverse grown)
    one_inside follows after begun from outer whole left form text place parts next round grown is more_round entered w =
        subst (λ gs. Walked after begun from outer whole parts gs)
        (ap (λ g. g ∷ reverse round) (sym is) ∙ sym (turned round left) ∙ ap reverse (sym more_round))
        (walked_inside follows after begun from outer whole form text place parts next (reverse round) entered
        (subst (λ f. Walked follows begun from outer whole f (reverse round)) is w))

    pub one_behind : (follows after : List Refused → List (Position F) → Type 0) (begun : Position F) (from : Forest F) (outer : List (Position F)) (whole : List Refused)
        (left last : Forest F) (form : F) (text : List ℕ) (place : Place) (parts next : Forest F) (round rest : List (Forest F))
        → left ≡ nothing → round ≡ rest ++ option_to_list (Some last) → last ≡ more form text place parts next
        → ((rs : List Refused) (p : Position F) (ps : List (Position F)) → follows rs (passed (Down (tree_with form text place parts) ∷ p) parts ∷ p ∷ ps)
        → after rs ((Along (tree_with form text place parts) ∷ p) ∷ ps))
        → Walked follows begun from outer whole left (reverse round) → Walked after begun from outer whole next (reverse rest)
    one_behind follows after begun from outer whole left last form text place parts next round rest none popped is went w =
        walked_behind follows after begun from outer whole form text place parts next (reverse rest) went
        (subst (λ f. Walked follows begun from outer whole nothing (f ∷ reverse rest)) is
        (subst (λ gs. Walked follows begun from outer whole nothing gs) (ap reverse popped ∙ turned rest last)
        (subst (λ f. Walked follows begun from outer whole f (reverse round)) none w)))

    pub at_end : (follows : List Refused → List (Position F) → Type 0) (begun : Position F) (from : Forest F) (outer : List (Position F)) (whole : List Refused)
        (left : Forest F) (round : List (Forest F)) → left ≡ nothing → round ≡ [] → Walked follows begun from outer whole left (reverse round)
        → follows whole (passed begun from ∷ outer)
    at_end follows begun from outer whole left round none empty w =
        walked_to_end follows begun from outer whole
        (subst (λ gs. Walked follows begun from outer whole nothing (reverse gs)) empty (subst (λ f. Walked follows begun from outer whole f (reverse round)) none w))

  -- ---- each step leaves less to be done

  pub less_inside : (left : Forest F) (form : F) (text : List ℕ) (place : Place) (parts next : Forest F) (round grown : List (Forest F))
      → left ≡ more form text place parts next → grown ≡ round ++ left ∷ []
      → 2 * size parts + work_round (reverse grown) < 2 * size left + work_round (reverse round)
  less_inside left form text place parts next round grown is more_round =
      let a : work_round (reverse grown) ≡ work_round (reverse round) + (2 * size (next_of left) + 1) = ap work_round (ap reverse more_round ∙ turned round left) in
      let b : size (next_of left) ≡ size next = ap (λ f. size (next_of f)) is in
      let c = ap size is in
      omega (arith, a, b, c)

  pub less_behind : (left last : Forest F) (form : F) (text : List ℕ) (place : Place) (parts next : Forest F) (round rest : List (Forest F))
      → left ≡ nothing → round ≡ rest ++ option_to_list (Some last) → last ≡ more form text place parts next
      → 2 * size next + work_round (reverse rest) < 2 * size left + work_round (reverse round)
  less_behind left last form text place parts next round rest none popped is =
      let a : work_round (reverse round) ≡ work_round (reverse rest) + (2 * size (next_of last) + 1) = ap work_round (ap reverse popped ∙ turned rest last) in
      let b : size (next_of last) ≡ size next = ap (λ f. size (next_of f)) is in
      let c = ap size none in
      omega (arith, a, b, c)

  pub less_round : (left last : Forest F) (round rest : List (Forest F)) → round ≡ rest ++ option_to_list (Some last)
      → 2 * size left + work_round (reverse rest) < 2 * size left + work_round (reverse round)
  less_round left last round rest popped =
      let a : work_round (reverse round) ≡ work_round (reverse rest) + (2 * size (next_of last) + 1) = ap work_round (ap reverse popped ∙ turned rest last) in
      omega (arith, a)
