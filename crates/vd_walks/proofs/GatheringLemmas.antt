-- What is still to be searched. No name has a dash, so that a caller can name each in `#[tactic(auto, using(..))]`.
use Rattle.std.proofs.Common.{◌≡◌, ◌<◌, ◌≤◌, ◌+◌, ◌*◌, ℕ, List, [], ◌∷◌, ◌++◌, length, reverse, Option, Some, None, refl, sym, ap, subst, ◌∙◌, arith}
use Rattle.std.specs.List.{sum_by}
use Rattle.std.proofs.lemmas.List.{reverse-append, append_assoc, append-nil}
use Rattle.std.proofs.lemmas.List.Sums.{sum_by-append, sum_by-cons}
use Rattle.vd_bytes.specs.declared.places.Place.{Place}
use Rattle.vd_forest.specs.Forest.{Forest, more, size}
use Rattle.vd_forest.specs.Store.{at}
use Rattle.vd_walks.specs.Finding.{Finder}
use Rattle.vd_walks.specs.declared.gathering.Left.{Left}
use Rattle.vd_walks.specs.Gathering.{all_found, with_answer}

-- an answer in front of others is in front of all that is behind them
answer_in_front : {A : Type 0} (o : Option A) (as' bs : List A) → with_answer o as' ++ bs ≡ with_answer o (as' ++ bs)
answer_in_front None as' bs = refl
answer_in_front (Some a) as' bs = refl

answer_behind : {A : Type 0} (found : List A) (o : Option A) (bs : List A) → (found ++ with_answer o []) ++ bs ≡ found ++ with_answer o bs
answer_behind found None bs = ap (λ as'. as' ++ bs) (append-nil found)
answer_behind found (Some a) bs = append_assoc found (a ∷ []) bs

module _ {F S A : Type 0} (finder : Finder F S A) (fs : List (Forest F)) where
  -- the answers of what is left, the next forest first
  abbrev pub all_left : List (Left S) → List A
  all_left [] = []
  all_left (l ∷ ls) = all_found finder l.state (at fs l.number) ++ all_left ls

  abbrev pub AreWithin : List (Left S) → Type 0
  AreWithin [] = Unit {0}
  AreWithin (l ∷ ls) = (l.number ≤ length fs) × AreWithin ls

  -- what was found and what is left, the next forest at the end, are the answers that are wanted
  pub record IsLeft (left : List (Left S)) (so_far want : List A) : Type 0 where
    pub within : AreWithin (reverse left)
    pub found : so_far ++ all_left (reverse left) ≡ want

  abbrev pub work : Left S → ℕ
  work l = 2 * size (at fs l.number) + 1

  turned_push : (ls : List (Left S)) (l : Left S) → reverse (ls ++ l ∷ []) ≡ l ∷ reverse ls
  turned_push ls l = reverse-append ls (l ∷ [])

  pub left_start : (ls : List (Left S)) (number : ℕ) (state : S) (f : Forest F) → ls ≡ [] ++ record { number = number; state = state } ∷ []
      → number ≤ length fs → at fs number ≡ f → IsLeft ls [] (all_found finder state f)
  left_start ls number state f pushed within is = record {
    within = subst (λ ks. AreWithin (reverse ks)) (sym pushed) (within, tt);
    found = ap (λ ks. all_left (reverse ks)) pushed ∙ append-nil (all_found finder state (at fs number)) ∙ ap (all_found finder state) is;
  }

  taken : (us ls : List (Left S)) (l : Left S) (found want : List A) → IsLeft us found want → us ≡ ls ++ l ∷ [] → IsLeft (ls ++ l ∷ []) found want
  taken us ls l found want left is = subst (λ ks. IsLeft ks found want) is left

  pub last_within : (us ls : List (Left S)) (l : Left S) (found want : List A) → IsLeft us found want → us ≡ ls ++ l ∷ [] → l.number ≤ length fs
  last_within us ls l found want left is = (subst AreWithin (turned_push ls l) (taken us ls l found want left is).within).0

  rest_within : (us ls : List (Left S)) (l : Left S) (found want : List A) → IsLeft us found want → us ≡ ls ++ l ∷ [] → AreWithin (reverse ls)
  rest_within us ls l found want left is = (subst AreWithin (turned_push ls l) (taken us ls l found want left is).within).1

  last_found : (us ls : List (Left S)) (l : Left S) (found want : List A) → IsLeft us found want → us ≡ ls ++ l ∷ []
      → found ++ (all_found finder l.state (at fs l.number) ++ all_left (reverse ls)) ≡ want
  last_found us ls l found want left is = ap (λ ks. found ++ all_left ks) (sym (turned_push ls l)) ∙ (taken us ls l found want left is).found

  -- the empty forest has no answer
  pub left_empty : (us ls : List (Left S)) (l : Left S) (found want : List A) → IsLeft us found want → us ≡ ls ++ l ∷ [] → l.number ≤ 0 → IsLeft ls found want
  left_empty us ls l found want left is none =
      let zero_is : l.number ≡ 0 = omega arith in
      record {
        within = rest_within us ls l found want left is;
        found = ap (λ n. found ++ (all_found finder l.state (at fs n) ++ all_left (reverse ls))) (sym zero_is) ∙ last_found us ls l found want left is;
      }

  -- a node answers or not, and its parts and the trees after it are left
  pub left_opened : (us ls vs : List (Left S)) (l : Left S) (found now want : List A) (here : Option A) (form : F) (text : List ℕ) (place : Place) (parts : Forest F) (p n : ℕ) (down along : S)
      → IsLeft us found want → us ≡ ls ++ l ∷ [] → at fs l.number ≡ more form text place (at fs p) (at fs n) → parts ≡ at fs p
      → p ≤ length fs → n ≤ length fs
      → here ≡ finder.answer l.state form text place parts → now ≡ found ++ with_answer here []
      → down ≡ finder.down l.state form text place parts → along ≡ finder.along l.state form text place parts
      → vs ≡ (ls ++ record { number = n; state = along } ∷ []) ++ record { number = p; state = down } ∷ []
      → IsLeft vs now want
  left_opened us ls vs l found now want here form text place parts p n down along left is opened parts_are p_in n_in said is_now down_is along_is pushed =
      let first : Left S = record { number = p; state = down } in
      let second : Left S = record { number = n; state = along } in
      let turned : reverse vs ≡ first ∷ (second ∷ reverse ls) =
      ap reverse pushed ∙ turned_push (ls ++ second ∷ []) first ∙ ap (λ ks. first ∷ ks) (turned_push ls second) in
      let inside = all_found finder down (at fs p) in
      let after = all_found finder along (at fs n) in
      let rest = all_left (reverse ls) in
      let whole : all_found finder l.state (at fs l.number) ≡ with_answer here (inside ++ after) =
      ap (all_found finder l.state) opened
      ∙ ap (λ o. with_answer (finder.answer l.state form text place o) (all_found finder (finder.down l.state form text place o) (at fs p) ++ all_found finder (finder.along l.state form text place o) (at fs n))) (sym parts_are)
      ∙ ap (λ o. with_answer o (all_found finder (finder.down l.state form text place parts) (at fs p) ++ all_found finder (finder.along l.state form text place parts) (at fs n))) (sym said)
      ∙ ap (λ s. with_answer here (all_found finder s (at fs p) ++ all_found finder (finder.along l.state form text place parts) (at fs n))) (sym down_is)
      ∙ ap (λ s. with_answer here (inside ++ all_found finder s (at fs n))) (sym along_is) in
      record {
        within = subst AreWithin (sym turned) (p_in, (n_in, rest_within us ls l found want left is));
        found = ap (λ ks. now ++ all_left ks) turned
            ∙ ap (λ o. o ++ (inside ++ (after ++ rest))) is_now
            ∙ answer_behind found here (inside ++ (after ++ rest))
            ∙ ap (λ o. found ++ with_answer here o) (sym (append_assoc inside after rest))
            ∙ ap (λ o. found ++ o) (sym (answer_in_front here (inside ++ after) rest))
            ∙ ap (λ o. found ++ (o ++ rest)) (sym whole)
            ∙ last_found us ls l found want left is;
      }

  -- nothing is left
  pub left_nothing : (us : List (Left S)) (found want : List A) → IsLeft us found want → us ≡ [] → found ≡ want
  left_nothing us found want left none =
      sym (append-nil found) ∙ ap (λ ks. found ++ all_left (reverse ks)) (sym none) ∙ left.found

  -- ---- the steps that are left

  pub work_push : (us ls : List (Left S)) (l : Left S) → us ≡ ls ++ l ∷ [] → sum_by work us ≡ sum_by work ls + work l
  work_push us ls l pushed =
      ap (sum_by work) pushed ∙ sum_by-append work ls (l ∷ []) ∙ ap (λ n. sum_by work ls + n) (sum_by-cons work l [] ∙ omega arith)

  pub work_opened : (us ls vs : List (Left S)) (l : Left S) (form : F) (text : List ℕ) (place : Place) (p n : ℕ) (down along : S)
      → us ≡ ls ++ l ∷ [] → at fs l.number ≡ more form text place (at fs p) (at fs n)
      → vs ≡ (ls ++ record { number = n; state = along } ∷ []) ++ record { number = p; state = down } ∷ []
      → sum_by work vs < sum_by work us
  work_opened us ls vs l form text place p n down along is opened pushed =
      let first : Left S = record { number = p; state = down } in
      let second : Left S = record { number = n; state = along } in
      omega (arith, work_push us ls l is, work_push vs (ls ++ second ∷ []) first pushed, work_push (ls ++ second ∷ []) ls second refl, ap size opened)

pub ruleset gathering_steps = (left_start, last_within, left_empty, left_opened, left_nothing, work_push, work_opened)
