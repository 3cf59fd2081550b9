-- What is still to be searched. No name has a dash, so that a caller can name each in `#[tactic(auto, using(..))]`.
use Rattle.std.proofs.Common.{◌≡◌, ◌<◌, ◌≤◌, ◌+◌, ◌*◌, ℕ, List, [], ◌∷◌, ◌++◌, length, reverse, Option, Some, None, refl, sym, ap, subst, ◌∙◌, arith}
use Rattle.std.specs.List.{sum_by}
use Rattle.std.proofs.lemmas.List.{reverse-append}
use Rattle.std.proofs.lemmas.List.Sums.{sum_by-append, sum_by-cons}
use Rattle.vd_bytes.specs.declared.places.Place.{Place}
use Rattle.vd_forest.specs.Forest.{Forest, more, size}
use Rattle.vd_forest.specs.Store.{at}
use Rattle.vd_walks.specs.declared.finding.Left.{Left}
use Rattle.vd_walks.specs.Finding.{Finder, or_else, first_found}

or_else_or_else : {A : Type 0} (a b c : Option A) → or_else (or_else a b) c ≡ or_else a (or_else b c)
or_else_or_else None b c = refl
or_else_or_else (Some a) b c = refl

module _ {F S A : Type 0} (finder : Finder F S A) (fs : List (Forest F)) where
  -- the first answer of what is left, the next forest first
  abbrev pub all_found : List (Left S) → Option A
  all_found [] = None
  all_found (l ∷ ls) = or_else (first_found finder l.state (at fs l.number)) (all_found ls)

  abbrev pub AreWithin : List (Left S) → Type 0
  AreWithin [] = Unit {0}
  AreWithin (l ∷ ls) = (l.number ≤ length fs) × AreWithin ls

  -- what is left, the next forest at the end, has the first answer that is wanted
  pub record IsLeft (left : List (Left S)) (want : Option A) : Type 0 where
    pub within : AreWithin (reverse left)
    pub found : all_found (reverse left) ≡ want

  abbrev pub work : Left S → ℕ
  work l = 2 * size (at fs l.number) + 1

  turned_push : (ls : List (Left S)) (l : Left S) → reverse (ls ++ l ∷ []) ≡ l ∷ reverse ls
  turned_push ls l = reverse-append ls (l ∷ [])

  pub left_start : (ls : List (Left S)) (number : ℕ) (state : S) (f : Forest F) → ls ≡ [] ++ record { number = number; state = state } ∷ []
      → number ≤ length fs → at fs number ≡ f → IsLeft ls (first_found finder state f)
  left_start ls number state f pushed within is = record {
    within = subst (λ ks. AreWithin (reverse ks)) (sym pushed) (within, tt);
    found = ap (λ ks. all_found (reverse ks)) pushed ∙ or_none (first_found finder state (at fs number)) ∙ ap (first_found finder state) is;
  }
    where
      or_none : (a : Option A) → or_else a None ≡ a
      or_none None = refl
      or_none (Some a) = refl

  taken : (us ls : List (Left S)) (l : Left S) (want : Option A) → IsLeft us want → us ≡ ls ++ l ∷ [] → IsLeft (ls ++ l ∷ []) want
  taken us ls l want left is = subst (λ ks. IsLeft ks want) is left

  pub last_within : (us ls : List (Left S)) (l : Left S) (want : Option A) → IsLeft us want → us ≡ ls ++ l ∷ [] → l.number ≤ length fs
  last_within us ls l want left is = (subst AreWithin (turned_push ls l) (taken us ls l want left is).within).0

  rest_within : (us ls : List (Left S)) (l : Left S) (want : Option A) → IsLeft us want → us ≡ ls ++ l ∷ [] → AreWithin (reverse ls)
  rest_within us ls l want left is = (subst AreWithin (turned_push ls l) (taken us ls l want left is).within).1

  last_found : (us ls : List (Left S)) (l : Left S) (want : Option A) → IsLeft us want → us ≡ ls ++ l ∷ []
      → or_else (first_found finder l.state (at fs l.number)) (all_found (reverse ls)) ≡ want
  last_found us ls l want left is = ap all_found (sym (turned_push ls l)) ∙ (taken us ls l want left is).found

  -- the empty forest has no answer
  pub left_empty : (us ls : List (Left S)) (l : Left S) (want : Option A) → IsLeft us want → us ≡ ls ++ l ∷ [] → l.number ≤ 0 → IsLeft ls want
  left_empty us ls l want left is none =
      let zero_is : l.number ≡ 0 = omega arith in
      record {
        within = rest_within us ls l want left is;
        found = ap (λ n. or_else (first_found finder l.state (at fs n)) (all_found (reverse ls))) (sym zero_is) ∙ last_found us ls l want left is;
      }

  -- a node answers
  pub left_answered : (us ls : List (Left S)) (l : Left S) (want answer : Option A) (a : A) (form : F) (text : List ℕ) (place : Place) (parts : Forest F) (p n : ℕ)
      → IsLeft us want → us ≡ ls ++ l ∷ [] → at fs l.number ≡ more form text place (at fs p) (at fs n) → parts ≡ at fs p
      → answer ≡ finder.answer l.state form text place parts → answer ≡ Some a → Some a ≡ want
  left_answered us ls l want answer a form text place parts p n left is opened parts_are said some =
      sym (ap (λ f. or_else (first_found finder l.state f) (all_found (reverse ls))) opened
      ∙ ap (λ o. or_else (or_else o (or_else (first_found finder (finder.down l.state form text place (at fs p)) (at fs p)) (first_found finder (finder.along l.state form text place (at fs p)) (at fs n)))) (all_found (reverse ls)))
      (ap (finder.answer l.state form text place) (sym parts_are) ∙ sym said ∙ some))
      ∙ last_found us ls l want left is

  -- a node doesn't, and its parts and the trees after it are left
  pub left_opened : (us ls vs : List (Left S)) (l : Left S) (want answer : Option A) (form : F) (text : List ℕ) (place : Place) (parts : Forest F) (p n : ℕ) (down along : S)
      → IsLeft us want → us ≡ ls ++ l ∷ [] → at fs l.number ≡ more form text place (at fs p) (at fs n) → parts ≡ at fs p
      → p ≤ length fs → n ≤ length fs
      → answer ≡ finder.answer l.state form text place parts → answer ≡ None
      → down ≡ finder.down l.state form text place parts → along ≡ finder.along l.state form text place parts
      → vs ≡ (ls ++ record { number = n; state = along } ∷ []) ++ record { number = p; state = down } ∷ []
      → IsLeft vs want
  left_opened us ls vs l want answer form text place parts p n down along left is opened parts_are p_in n_in said none down_is along_is pushed =
      let first : Left S = record { number = p; state = down } in
      let second : Left S = record { number = n; state = along } in
      let turned : reverse vs ≡ first ∷ (second ∷ reverse ls) =
      ap reverse pushed ∙ turned_push (ls ++ second ∷ []) first ∙ ap (λ ks. first ∷ ks) (turned_push ls second) in
      let inside = first_found finder down (at fs p) in
      let behind = first_found finder along (at fs n) in
      record {
        within = subst AreWithin (sym turned) (p_in, (n_in, rest_within us ls l want left is));
        found = ap all_found turned
            ∙ sym (or_else_or_else inside behind (all_found (reverse ls)))
            ∙ ap (λ s. or_else (or_else (first_found finder s (at fs p)) behind) (all_found (reverse ls))) (down_is ∙ ap (finder.down l.state form text place) parts_are)
            ∙ ap (λ s. or_else (or_else (first_found finder (finder.down l.state form text place (at fs p)) (at fs p)) (first_found finder s (at fs n))) (all_found (reverse ls)))
            (along_is ∙ ap (finder.along l.state form text place) parts_are)
            ∙ ap (λ o. or_else (or_else o (or_else (first_found finder (finder.down l.state form text place (at fs p)) (at fs p)) (first_found finder (finder.along l.state form text place (at fs p)) (at fs n)))) (all_found (reverse ls)))
            (sym none ∙ said ∙ ap (finder.answer l.state form text place) parts_are)
            ∙ ap (λ f. or_else (first_found finder l.state f) (all_found (reverse ls))) (sym opened)
            ∙ last_found us ls l want left is;
      }

  -- nothing is left
  pub left_nothing : (us : List (Left S)) (want : Option A) → IsLeft us want → us ≡ [] → None ≡ want
  left_nothing us want left none = ap (λ ks. all_found (reverse ks)) (sym none) ∙ left.found

  -- ---- the steps that are left

  pub work_push : (us ls : List (Left S)) (l : Left S) → us ≡ ls ++ l ∷ [] → sum_by work us ≡ sum_by work ls + work l
  work_push us ls l pushed =
      ap (sum_by work) pushed ∙ sum_by-append work ls (l ∷ []) ∙ ap (λ n. sum_by work ls + n) (sum_by-cons work l [] ∙ omega arith)

  pub work_opened : (us ls vs : List (Left S)) (l : Left S) (form : F) (text : List ℕ) (place : Place) (p n : ℕ) (down along : S)
      → us ≡ ls ++ l ∷ [] → at fs l.number ≡ more form text place (at fs p) (at fs n)
      → vs ≡ (ls ++ record { number = n; state = along } ∷ []) ++ record { number = p; state = down } ∷ []
      → sum_by work vs < sum_by work us
  work_opened us ls vs l form text place p n down along is opened pushed =
      let first : Left S = record { number = p; state = down } in
      let second : Left S = record { number = n; state = along } in
      omega (arith, work_push us ls l is, work_push vs (ls ++ second ∷ []) first pushed, work_push (ls ++ second ∷ []) ls second refl, ap size opened)

pub ruleset finding_steps = (left_start, last_within, left_empty, left_answered, left_opened, left_nothing, work_push, work_opened)
