-- What is still to be searched. No name has a dash, so that a caller can name each in `#[tactic(auto, using(..))]`.
use Rattle.std.proofs.Common.{◌≡◌, ◌<◌, ◌≤◌, ◌+◌, ◌*◌, ℕ, List, [], ◌∷◌, ◌++◌, length, reverse, Option, None, refl, sym, ap, subst, ◌∙◌, arith}
use Rattle.std.specs.List.{sum_by}
use Rattle.std.proofs.lemmas.List.{reverse-append}
use Rattle.std.proofs.lemmas.List.Sums.{sum_by-append, sum_by-cons}
use Rattle.vd_bytes.specs.declared.places.Place.{Place}
use Rattle.vd_bytes.specs.declared.answers.Refused.{Refused}
use Rattle.vd_forest.specs.Forest.{Forest, more, size}
use Rattle.vd_forest.specs.Store.{at}
use Rattle.vd_walks.specs.declared.least.Left.{Left}
use Rattle.vd_walks.specs.Least.{Judge, lesser, least_of, least}
use Rattle.vd_walks.proofs.OrderLaws.{lesser_brackets, lesser_right}

module _ {F S : Type 0} (judge : Judge F S) (fs : List (Forest F)) where
  -- the least refusal of what is left, the next forest first
  abbrev pub all_least : List (Left S) → Option Refused
  all_least [] = None
  all_least (l ∷ ls) = lesser (least judge l.state (at fs l.number)) (all_least ls)

  abbrev pub AreWithin : List (Left S) → Type 0
  AreWithin [] = Unit {0}
  AreWithin (l ∷ ls) = (l.number ≤ length fs) × AreWithin ls

  -- what was found and what is left, the next forest at the end, have the least refusal that is wanted
  pub record IsLeft (left : List (Left S)) (found want : Option Refused) : Type 0 where
    pub within : AreWithin (reverse left)
    pub least : lesser found (all_least (reverse left)) ≡ want

  abbrev pub work : Left S → ℕ
  work l = 2 * size (at fs l.number) + 1

  turned_push : (ls : List (Left S)) (l : Left S) → reverse (ls ++ l ∷ []) ≡ l ∷ reverse ls
  turned_push ls l = reverse-append ls (l ∷ [])

  pub left_start : (ls : List (Left S)) (number : ℕ) (state : S) (f : Forest F) → ls ≡ [] ++ record { number = number; state = state } ∷ []
      → number ≤ length fs → at fs number ≡ f → IsLeft ls None (least judge state f)
  left_start ls number state f pushed within is = record {
    within = subst (λ ks. AreWithin (reverse ks)) (sym pushed) (within, tt);
    least = ap (λ ks. all_least (reverse ks)) pushed ∙ lesser_right (least judge state (at fs number)) ∙ ap (least judge state) is;
  }

  taken : (us ls : List (Left S)) (l : Left S) (found want : Option Refused) → IsLeft us found want → us ≡ ls ++ l ∷ [] → IsLeft (ls ++ l ∷ []) found want
  taken us ls l found want left is = subst (λ ks. IsLeft ks found want) is left

  pub last_within : (us ls : List (Left S)) (l : Left S) (found want : Option Refused) → IsLeft us found want → us ≡ ls ++ l ∷ [] → l.number ≤ length fs
  last_within us ls l found want left is = (subst AreWithin (turned_push ls l) (taken us ls l found want left is).within).0

  rest_within : (us ls : List (Left S)) (l : Left S) (found want : Option Refused) → IsLeft us found want → us ≡ ls ++ l ∷ [] → AreWithin (reverse ls)
  rest_within us ls l found want left is = (subst AreWithin (turned_push ls l) (taken us ls l found want left is).within).1

  last_least : (us ls : List (Left S)) (l : Left S) (found want : Option Refused) → IsLeft us found want → us ≡ ls ++ l ∷ []
      → lesser found (lesser (least judge l.state (at fs l.number)) (all_least (reverse ls))) ≡ want
  last_least us ls l found want left is = ap (λ ks. lesser found (all_least ks)) (sym (turned_push ls l)) ∙ (taken us ls l found want left is).least

  -- the empty forest has no refusal
  pub left_empty : (us ls : List (Left S)) (l : Left S) (found want : Option Refused) → IsLeft us found want → us ≡ ls ++ l ∷ [] → l.number ≤ 0 → IsLeft ls found want
  left_empty us ls l found want left is none =
      let zero_is : l.number ≡ 0 = omega arith in
      record {
        within = rest_within us ls l found want left is;
        least = ap (λ n. lesser found (lesser (least judge l.state (at fs n)) (all_least (reverse ls)))) (sym zero_is) ∙ last_least us ls l found want left is;
      }

  -- a node is judged, and its parts and the trees after it are left
  pub left_opened : (us ls vs : List (Left S)) (l : Left S) (found here now want : Option Refused) (form : F) (text : List ℕ) (place : Place) (parts : Forest F) (p n : ℕ) (down along : S)
      → IsLeft us found want → us ≡ ls ++ l ∷ [] → at fs l.number ≡ more form text place (at fs p) (at fs n) → parts ≡ at fs p
      → p ≤ length fs → n ≤ length fs
      → here ≡ least_of (judge.broken l.state form text place parts) → now ≡ lesser found here
      → down ≡ judge.down l.state form text place parts → along ≡ judge.along l.state form text place parts
      → vs ≡ (ls ++ record { number = n; state = along } ∷ []) ++ record { number = p; state = down } ∷ []
      → IsLeft vs now want
  left_opened us ls vs l found here now want form text place parts p n down along left is opened parts_are p_in n_in said is_now down_is along_is pushed =
      let first : Left S = record { number = p; state = down } in
      let second : Left S = record { number = n; state = along } in
      let turned : reverse vs ≡ first ∷ (second ∷ reverse ls) =
      ap reverse pushed ∙ turned_push (ls ++ second ∷ []) first ∙ ap (λ ks. first ∷ ks) (turned_push ls second) in
      let inside = least judge down (at fs p) in
      let after = least judge along (at fs n) in
      let rest = all_least (reverse ls) in
      let whole : least judge l.state (at fs l.number) ≡ lesser here (lesser inside after) =
      ap (least judge l.state) opened
      ∙ ap (λ o. lesser (least_of (judge.broken l.state form text place o)) (lesser (least judge (judge.down l.state form text place o) (at fs p)) (least judge (judge.along l.state form text place o) (at fs n)))) (sym parts_are)
      ∙ ap (λ o. lesser o (lesser (least judge (judge.down l.state form text place parts) (at fs p)) (least judge (judge.along l.state form text place parts) (at fs n)))) (sym said)
      ∙ ap (λ s. lesser here (lesser (least judge s (at fs p)) (least judge (judge.along l.state form text place parts) (at fs n)))) (sym down_is)
      ∙ ap (λ s. lesser here (lesser inside (least judge s (at fs n)))) (sym along_is) in
      record {
        within = subst AreWithin (sym turned) (p_in, (n_in, rest_within us ls l found want left is));
        least = ap (λ ks. lesser now (all_least ks)) turned
            ∙ ap (λ o. lesser o (lesser inside (lesser after rest))) is_now
            ∙ lesser_brackets found here (lesser inside (lesser after rest))
            ∙ ap (λ o. lesser found (lesser here o)) (sym (lesser_brackets inside after rest))
            ∙ ap (lesser found) (sym (lesser_brackets here (lesser inside after) rest))
            ∙ ap (λ o. lesser found (lesser o rest)) (sym whole)
            ∙ last_least us ls l found want left is;
      }

  -- nothing is left
  pub left_nothing : (us : List (Left S)) (found want : Option Refused) → IsLeft us found want → us ≡ [] → found ≡ want
  left_nothing us found want left none =
      sym (lesser_right found) ∙ ap (λ ks. lesser found (all_least (reverse ks))) (sym none) ∙ left.least

  -- ---- the steps that are left

  pub work_push : (us ls : List (Left S)) (l : Left S) → us ≡ ls ++ l ∷ [] → sum_by work us ≡ sum_by work ls + work l
  work_push us ls l pushed =
      ap (sum_by work) pushed ∙ sum_by-append work ls (l ∷ []) ∙ ap (λ n. sum_by work ls + n) (sum_by-cons work l [] ∙ omega arith)

  pub work_opened : (us ls vs : List (Left S)) (l : Left S) (form : F) (text : List ℕ) (place : Place) (p n : ℕ) (down along : S)
      → us ≡ ls ++ l ∷ [] → at fs l.number ≡ more form text place (at fs p) (at fs n)
      → vs ≡ (ls ++ record { number = n; state = along } ∷ []) ++ record { number = p; state = down } ∷ []
      → sum_by work vs < sum_by work us
  work_opened us ls vs l form text place p n down along is opened pushed =
      let first : Left S = record { number = p; state = down } in
      let second : Left S = record { number = n; state = along } in
      omega (arith, work_push us ls l is, work_push vs (ls ++ second ∷ []) first pushed, work_push (ls ++ second ∷ []) ls second refl, ap size opened)

pub ruleset least_steps = (left_start, last_within, left_empty, left_opened, left_nothing, work_push, work_opened)
