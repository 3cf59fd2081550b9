-- What a walk that makes trees has made so far, list by list.
use Rattle.std.proofs.Common.{◌≡◌, ◌<◌, ◌≤◌, ℕ, ◌+◌, ◌*◌, List, [], ◌∷◌, ◌++◌, length, reverse, refl, sym, ap, subst, ◌∙◌, arith}
use Rattle.std.specs.Prelude.{Some, option_to_list}
use Rattle.std.proofs.lemmas.List.{reverse-append}
use Rattle.std.proofs.Math.Nat.{suc-ne-zero}
use Rattle.vd_bytes.specs.declared.places.Place.{Place}
use Rattle.vd_forest.specs.Forest.{Forest, more, next_of, nothing, joined, size, turned}
use Rattle.vd_forest.specs.Store.{at, Extends, Holds}
use Rattle.vd_forest.proofs.ForestLemmas.{turned_turned}
use Rattle.vd_forest.proofs.StoreLemmas.{extends_same, extends_trans}
use Rattle.vd_walks.specs.Positions.{Along, Down, Position, passed, tree_with}
use Rattle.vd_tours.specs.declared.touring.Entry.{Entry}
use Rattle.vd_tours.specs.declared.touring.Entry.TheVariants as entry
use Rattle.vd_tours.specs.declared.touring.Waiting.{Waiting}
use Rattle.vd_tours.specs.Tours.{AreMade, Becoming, IsAtEnd, IsAtPlace, IsEntered, IsLeft, IsMade, IsToured, Rebuilt, Replaced, Replacing}

pub is_empty : {X : Type 0} (xs : List X) → length xs ≡ 0 → xs ≡ []
is_empty [] e = refl
is_empty (x ∷ xs) e = absurd (suc-ne-zero (length xs) e)

-- ---- how much is left to be done, with the trees round a place, from the inside out

module _ {F : Type 0} where
  abbrev pub work_round : List (Waiting F) → ℕ
  work_round [] = 0
  work_round (w ∷ ws) = work_round ws + (2 * size (next_of w.tree) + 1)

  pub turned_round : (ws : List (Waiting F)) (w : Waiting F) → reverse (ws ++ w ∷ []) ≡ w ∷ reverse ws
  turned_round ws w = reverse-append ws (w ∷ [])

  pub less_inside : (left : Forest F) (form : F) (text : List ℕ) (place : Place) (parts next : Forest F) (w : Waiting F) (round grown : List (Waiting F))
      → left ≡ more form text place parts next → w.tree ≡ left → grown ≡ round ++ w ∷ []
      → 2 * size parts + work_round (reverse grown) < 2 * size left + work_round (reverse round)
  less_inside left form text place parts next w round grown is same more_round =
      let a : work_round (reverse grown) ≡ work_round (reverse round) + (2 * size (next_of w.tree) + 1) = ap work_round (ap reverse more_round ∙ turned_round round w) in
      let b : size (next_of w.tree) ≡ size next = ap (λ f. size (next_of f)) (same ∙ is) in
      let c = ap size is in
      omega (arith, a, b, c)

  pub less_along : (left : Forest F) (form : F) (text : List ℕ) (place : Place) (parts next : Forest F) (round : List (Waiting F))
      → left ≡ more form text place parts next
      → 2 * size next + work_round (reverse round) < 2 * size left + work_round (reverse round)
  less_along left form text place parts next round is = let c = ap size is in omega (arith, c)

  pub less_behind : (left : Forest F) (last : Waiting F) (form : F) (text : List ℕ) (place : Place) (parts next : Forest F) (round rest : List (Waiting F))
      → left ≡ nothing → round ≡ rest ++ option_to_list (Some last) → last.tree ≡ more form text place parts next
      → 2 * size next + work_round (reverse rest) < 2 * size left + work_round (reverse round)
  less_behind left last form text place parts next round rest none popped is =
      let a : work_round (reverse round) ≡ work_round (reverse rest) + (2 * size (next_of last.tree) + 1) = ap work_round (ap reverse popped ∙ turned_round rest last) in
      let b : size (next_of last.tree) ≡ size next = ap (λ f. size (next_of f)) is in
      let c = ap size none in
      omega (arith, a, b, c)

  pub less_round : (left : Forest F) (last : Waiting F) (round rest : List (Waiting F)) → round ≡ rest ++ option_to_list (Some last)
      → 2 * size left + work_round (reverse rest) < 2 * size left + work_round (reverse round)
  less_round left last round rest popped =
      let a : work_round (reverse round) ≡ work_round (reverse rest) + (2 * size (next_of last.tree) + 1) = ap work_round (ap reverse popped ∙ turned_round rest last) in
      omega (arith, a)

-- ---- what waits was made in the store

module _ {F G : Type 0} where
  abbrev pub AreIn : List (Forest G) → List (Waiting F) → Type 0
  AreIn out [] = Unit {0}
  AreIn out (w ∷ ws) = (w.made ≤ length out) × AreIn out ws

  pub in_grown : (out new : List (Forest G)) (ws : List (Waiting F)) → Extends out new → AreIn out ws → AreIn new ws
  in_grown out new [] grown all = tt
  in_grown out new (w ∷ ws) grown all = (omega (arith, all.0, grown.grows), in_grown out new ws grown all.1)

  pub in_pushed : (out new : List (Forest G)) (w : Waiting F) (round grown : List (Waiting F)) → grown ≡ round ++ w ∷ [] → Extends out new → w.made ≤ length out
      → AreIn out (reverse round) → AreIn new (reverse grown)
  in_pushed out new w round grown pushed more_made within all =
      subst (AreIn new) (sym (ap reverse pushed ∙ turned_round round w)) (in_grown out new (w ∷ reverse round) more_made (within, all))

  pub in_popped : (out new : List (Forest G)) (w : Waiting F) (round rest : List (Waiting F)) → round ≡ rest ++ option_to_list (Some w) → Extends out new
      → AreIn out (reverse round) → (w.made ≤ length out) × AreIn new (reverse rest)
  in_popped out new w round rest popped grown all =
      let both : AreIn out (w ∷ reverse rest) = subst (AreIn out) (ap reverse popped ∙ turned_round rest w) all in
      (both.0, in_grown out new (reverse rest) grown both.1)

module _ {F G : Type 0} (replaces : Replacing F G) (becomes : Becoming F G) where
  -- ---- one list: the trees so far stand in the other order

  pub record IsSoFar (begun : Position F) (whole : Forest F) (here : Position F) (left : Forest F) (g : Forest G) : Type 0 where
    pub end : passed here left ≡ passed begun whole
    pub made : (rest : Forest G) → AreMade replaces becomes here left rest → AreMade replaces becomes begun whole (turned g rest)

  so_far_first : (begun : Position F) (whole : Forest F) → IsSoFar begun whole begun whole nothing
  so_far_first begun whole = record { end = refl; made = λ rest are. are }

  so_far_more : (begun : Position F) (whole : Forest F) (here : Position F) (form : F) (text : List ℕ) (place : Place) (parts next : Forest F) (g first : Forest G)
      → IsMade replaces becomes here (tree_with form text place parts) (AreMade replaces becomes (Down (tree_with form text place parts) ∷ here) parts) first
      → IsSoFar begun whole here (more form text place parts next) g
      → IsSoFar begun whole (Along (tree_with form text place parts) ∷ here) next (turned first g)
  so_far_more begun whole here form text place parts next g first is s = record {
    end = s.end;
    made = λ rest are.
        subst (AreMade replaces becomes begun whole) (sym (turned_turned first g rest))
        (s.made (joined first rest) (record { first = first; rest = rest; is = refl; made = is; behind = are }));
  }

  -- ---- the lists round it, from the inside out

  abbrev pub IsInside : Position F → Forest F → Position F → Forest F → Forest G → Type 0
  IsInside q nothing here left g = ⊥
  IsInside q (more form text place parts next) here left g = IsSoFar (Down (tree_with form text place parts) ∷ q) parts here left g

  inside_more : (q : Position F) (f : Forest F) (here : Position F) (form : F) (text : List ℕ) (place : Place) (parts next : Forest F) (g first : Forest G)
      → IsMade replaces becomes here (tree_with form text place parts) (AreMade replaces becomes (Down (tree_with form text place parts) ∷ here) parts) first
      → IsInside q f here (more form text place parts next) g
      → IsInside q f (Along (tree_with form text place parts) ∷ here) next (turned first g)
  inside_more q nothing here form text place parts next g first is s = absurd s
  inside_more q (more a b c d e) here form text place parts next g first is s = so_far_more (Down (tree_with a b c d) ∷ q) d here form text place parts next g first is s

  module _ (begun : Position F) (from : Forest F) where
    abbrev pub AreLevels : List (Forest G) → Position F → Forest F → Forest G → List (Waiting F) → List (Position F) → Type 0
    AreLevels out here left g [] [] = IsSoFar begun from here left g
    AreLevels out here left g (w ∷ ws) (q ∷ qs) = IsInside q w.tree here left g × AreLevels out q w.tree (at out w.made) ws qs
    AreLevels out here left g _ _ = ⊥

    levels_grown : (out new : List (Forest G)) (here : Position F) (left : Forest F) (g : Forest G) (ws : List (Waiting F)) (qs : List (Position F)) → Extends out new → AreIn out ws
        → AreLevels out here left g ws qs → AreLevels new here left g ws qs
    levels_grown out new here left g [] [] grown within are = are
    levels_grown out new here left g [] (q ∷ qs) grown within are = absurd are
    levels_grown out new here left g (w ∷ ws) [] grown within are = absurd are
    levels_grown out new here left g (w ∷ ws) (q ∷ qs) grown within are = (
      are.0,
      levels_grown out new q w.tree (at new w.made) ws qs grown within.1
          (subst (λ h. AreLevels out q w.tree h ws qs) (sym (grown.keeps w.made within.0)) are.1),
    )

    levels_more : (out : List (Forest G)) (here : Position F) (form : F) (text : List ℕ) (place : Place) (parts next : Forest F) (g first : Forest G) (ws : List (Waiting F)) (qs : List (Position F))
        → IsMade replaces becomes here (tree_with form text place parts) (AreMade replaces becomes (Down (tree_with form text place parts) ∷ here) parts) first
        → AreLevels out here (more form text place parts next) g ws qs
        → AreLevels out (Along (tree_with form text place parts) ∷ here) next (turned first g) ws qs
    levels_more out here form text place parts next g first [] [] is are = so_far_more begun from here form text place parts next g first is are
    levels_more out here form text place parts next g first [] (q ∷ qs) is are = absurd are
    levels_more out here form text place parts next g first (w ∷ ws) [] is are = absurd are
    levels_more out here form text place parts next g first (w ∷ ws) (q ∷ qs) is are =
        (inside_more q w.tree here form text place parts next g first is are.0, are.1)

    -- ---- the loop

    pub record IsState (knows : List (Forest G) → List (Position F) → Type 0) (out : List (Forest G)) (outer : List (Position F)) (left : Forest F) (made : ℕ) (ws : List (Waiting F)) : Type 0 where
      pub before : List (Forest G)
      pub grown : Extends before out
      pub here : Position F
      pub places : List (Position F)
      pub known : knows before (here ∷ (places ++ outer))
      pub levels : AreLevels out here left (at out made) ws places

    pub state_first : (knows : List (Forest G) → List (Position F) → Type 0) (before out : List (Forest G)) (outer : List (Position F)) (left : Forest F) (round : List (Waiting F)) → Extends before out
        → knows before (begun ∷ outer) → left ≡ from → round ≡ [] → IsState knows out outer left 0 (reverse round)
    state_first knows before out outer left round grown known whole none =
        subst (λ f. IsState knows out outer f 0 (reverse round)) (sym whole)
        (subst (λ ws. IsState knows out outer from 0 (reverse ws)) (sym none)
        (record { before = before; grown = grown; here = begun; places = []; known = known; levels = so_far_first begun from }))

    pub state_place : (knows : List (Forest G) → List (Position F) → Type 0) (out : List (Forest G)) (outer : List (Position F)) (left : Forest F) (made : ℕ) (ws : List (Waiting F))
        → IsState knows out outer left made ws → IsAtPlace knows out
    state_place knows out outer left made ws s = record { before = s.before; grown = s.grown; here = s.here; round = s.places ++ outer; known = s.known }

    -- other trees took a tree's place
    pub state_done : (knows after : List (Forest G) → List (Position F) → Type 0) (out between new : List (Forest G)) (outer : List (Position F)) (left : Forest F) (made trees grown : ℕ) (ws : List (Waiting F))
        (form : F) (text : List ℕ) (place : Place) (parts next : Forest F) (e : Entry)
        → left ≡ more form text place parts next → e ≡ entry.Done trees
        → ((before : List (Forest G)) (p : Position F) (ps : List (Position F)) → Extends before out → knows before (p ∷ ps) → IsEntered after replaces between p ps (tree_with form text place parts) e)
        → Extends out between → Extends between new → made ≤ length out → AreIn out ws → Holds new grown (turned (at between trees) (at between made))
        → IsState knows out outer left made ws → IsState after new outer next grown ws
    state_done knows after out between new outer left made trees grown ws form text place parts next e is done entered first second within all held s =
        let x = tree_with form text place parts in
        let found : IsEntered after replaces between s.here (s.places ++ outer) x (entry.Done trees) =
        subst (IsEntered after replaces between s.here (s.places ++ outer) x) done (entered s.before s.here (s.places ++ outer) s.grown s.known) in
        let whole : turned (at between trees) (at between made) ≡ turned (at between trees) (at out made) = ap (turned (at between trees)) (first.keeps made within) in
        record {
          before = between;
          grown = second;
          here = Along x ∷ s.here;
          places = s.places;
          known = found.1;
          levels =
              subst (λ g. AreLevels new (Along x ∷ s.here) next g ws s.places) (sym (held.is ∙ whole))
              (levels_grown out new (Along x ∷ s.here) next (turned (at between trees) (at out made)) ws s.places (extends_trans out between new first second) all
              (levels_more out s.here form text place parts next (at out made) (at between trees) ws s.places (Replaced found.0)
              (subst (λ f. AreLevels out s.here f (at out made) ws s.places) is s.levels)));
        }

    -- the walk goes into a tree
    pub state_inside : (knows after : List (Forest G) → List (Position F) → Type 0) (out new : List (Forest G)) (outer : List (Position F)) (left : Forest F) (made : ℕ) (w : Waiting F) (round pushed : List (Waiting F))
        (form : F) (text : List ℕ) (place : Place) (parts next : Forest F) (e : Entry)
        → left ≡ more form text place parts next → e ≡ entry.Inside → w.tree ≡ left → w.made ≡ made → pushed ≡ round ++ w ∷ []
        → ((before : List (Forest G)) (p : Position F) (ps : List (Position F)) → Extends before out → knows before (p ∷ ps) → IsEntered after replaces new p ps (tree_with form text place parts) e)
        → Extends out new → made ≤ length out → AreIn out (reverse round)
        → IsState knows out outer left made (reverse round) → IsState after new outer parts 0 (reverse pushed)
    state_inside knows after out new outer left made w round pushed form text place parts next e is inside tree count more_round entered grown within all s =
        let x = tree_with form text place parts in
        let found : IsEntered after replaces new s.here (s.places ++ outer) x entry.Inside =
        subst (IsEntered after replaces new s.here (s.places ++ outer) x) inside (entered s.before s.here (s.places ++ outer) s.grown s.known) in
        let outside : AreLevels new s.here w.tree (at new w.made) (reverse round) s.places =
        subst (λ f. AreLevels new s.here f (at new w.made) (reverse round) s.places) (sym tree)
        (subst (λ g. AreLevels new s.here left g (reverse round) s.places) (sym (ap (at new) count ∙ grown.keeps made within))
        (levels_grown out new s.here left (at out made) (reverse round) s.places grown all s.levels)) in
        let one : IsInside s.here w.tree (Down x ∷ s.here) parts nothing =
        subst (λ f. IsInside s.here f (Down x ∷ s.here) parts nothing) (sym (tree ∙ is)) (so_far_first (Down x ∷ s.here) parts) in
        subst (λ ws. IsState after new outer parts 0 ws) (sym (ap reverse more_round ∙ turned_round round w))
        (record { before = new; grown = extends_same new; here = Down x ∷ s.here; places = s.here ∷ s.places; known = found; levels = (one, outside) })

    -- a list is at its end
    pub record IsEnded (knows : List (Forest G) → List (Position F) → Type 0) (out : List (Forest G)) (outer : List (Position F)) (g : Forest G) (w : Waiting F) (ws : List (Waiting F))
        (form : F) (text : List ℕ) (place : Place) (parts next : Forest F) : Type 0 where
      pub before : List (Forest G)
      pub grown : Extends before out
      pub here : Position F
      pub places : List (Position F)
      pub known : knows before (passed (Down (tree_with form text place parts) ∷ here) parts ∷ here ∷ (places ++ outer))
      pub made : AreMade replaces becomes (Down (tree_with form text place parts) ∷ here) parts (turned g nothing)
      pub levels : AreLevels out here (more form text place parts next) (at out w.made) ws places

    ended_by : (knows : List (Forest G) → List (Position F) → Type 0) (before out : List (Forest G)) (outer : List (Position F)) (here : Position F) (g : Forest G) (w : Waiting F) (ws : List (Waiting F)) (places : List (Position F))
        (form : F) (text : List ℕ) (place : Place) (parts next : Forest F) → Extends before out → knows before (here ∷ (places ++ outer)) → w.tree ≡ more form text place parts next
        → AreLevels out here nothing g (w ∷ ws) places → IsEnded knows out outer g w ws form text place parts next
    ended_by knows before out outer here g w ws [] form text place parts next grown known is are = absurd are
    ended_by knows before out outer here g w ws (q ∷ qs) form text place parts next grown known is are =
        let x = tree_with form text place parts in
        let inner : IsSoFar (Down x ∷ q) parts here nothing g = subst (λ f. IsInside q f here nothing g) is are.0 in
        record {
          before = before;
          grown = grown;
          here = q;
          places = qs;
          known = subst (λ p. knows before (p ∷ q ∷ (qs ++ outer))) inner.end known;
          made = inner.made nothing refl;
          levels = subst (λ f. AreLevels out q f (at out w.made) ws qs) is are.1;
        }

    pub state_ended : (knows : List (Forest G) → List (Position F) → Type 0) (out : List (Forest G)) (outer : List (Position F)) (left : Forest F) (made : ℕ) (w : Waiting F) (round rest : List (Waiting F))
        (form : F) (text : List ℕ) (place : Place) (parts next : Forest F)
        → left ≡ nothing → round ≡ rest ++ option_to_list (Some w) → w.tree ≡ more form text place parts next
        → IsState knows out outer left made (reverse round) → IsEnded knows out outer (at out made) w (reverse rest) form text place parts next
    state_ended knows out outer left made w round rest form text place parts next none popped is s =
        let t : IsState knows out outer nothing made (w ∷ reverse rest) =
        subst (λ f. IsState knows out outer f made (w ∷ reverse rest)) none (subst (λ ws. IsState knows out outer left made ws) (ap reverse popped ∙ turned_round rest w) s) in
        ended_by knows t.before out outer t.here (at out made) w (reverse rest) t.places form text place parts next t.grown t.known is t.levels

    pub ended_place : (knows : List (Forest G) → List (Position F) → Type 0) (out new : List (Forest G)) (outer : List (Position F)) (g : Forest G) (w : Waiting F) (ws : List (Waiting F))
        (form : F) (text : List ℕ) (place : Place) (parts next : Forest F)
        → Extends out new → IsEnded knows out outer g w ws form text place parts next → IsAtEnd knows new (tree_with form text place parts)
    ended_place knows out new outer g w ws form text place parts next grown e = record {
      before = e.before;
      grown = extends_trans e.before out new e.grown grown;
      here = e.here;
      round = e.places ++ outer;
      known = e.known;
    }

    -- the walk leaves a tree
    pub state_left : (knows after : List (Forest G) → List (Position F) → Type 0) (out ended between new : List (Forest G)) (outer : List (Position F)) (made inner trees grown : ℕ) (w : Waiting F) (ws : List (Waiting F))
        (form : F) (text : List ℕ) (place : Place) (parts next : Forest F)
        → Extends out ended → Holds ended inner (turned (at out made) (at out 0))
        → ((before : List (Forest G)) (p : Position F) (ps : List (Position F)) → Extends before ended
        → knows before (passed (Down (tree_with form text place parts) ∷ p) parts ∷ p ∷ ps)
        → AreMade replaces becomes (Down (tree_with form text place parts) ∷ p) parts (at ended inner)
        → IsLeft after becomes between p ps (tree_with form text place parts) (at ended inner) trees)
        → Extends ended between → Extends between new → w.made ≤ length out → AreIn out ws → Holds new grown (turned (at between trees) (at between w.made))
        → IsEnded knows out outer (at out made) w ws form text place parts next → IsState after new outer next grown ws
    state_left knows after out ended between new outer made inner trees grown w ws form text place parts next zeroth turning left first second within all held e =
        let x = tree_with form text place parts in
        let inside : AreMade replaces becomes (Down x ∷ e.here) parts (at ended inner) = subst (AreMade replaces becomes (Down x ∷ e.here) parts) (sym turning.is) e.made in
        let found : IsLeft after becomes between e.here (e.places ++ outer) x (at ended inner) trees =
        left e.before e.here (e.places ++ outer) (extends_trans e.before out ended e.grown zeroth) e.known inside in
        let to_between = extends_trans out ended between zeroth first in
        let whole : turned (at between trees) (at between w.made) ≡ turned (at between trees) (at out w.made) = ap (turned (at between trees)) (to_between.keeps w.made within) in
        record {
          before = between;
          grown = second;
          here = Along x ∷ e.here;
          places = e.places;
          known = found.known;
          levels =
              subst (λ g. AreLevels new (Along x ∷ e.here) next g ws e.places) (sym (held.is ∙ whole))
              (levels_grown out new (Along x ∷ e.here) next (turned (at between trees) (at out w.made)) ws e.places (extends_trans out between new to_between second) all
              (levels_more out e.here form text place parts next (at out w.made) (at between trees) ws e.places (Rebuilt (at ended inner) inside found.is) e.levels));
        }

    -- all trees were walked
    end_by : (knows : List (Forest G) → List (Position F) → Type 0) (before out new : List (Forest G)) (outer : List (Position F)) (here : Position F) (made trees : ℕ) (places : List (Position F))
        → Extends before new → knows before (here ∷ (places ++ outer)) → Holds new trees (turned (at out made) (at out 0)) → AreLevels out here nothing (at out made) [] places
        → IsToured knows replaces becomes new begun outer from trees
    end_by knows before out new outer here made trees [] grown known held are = record {
      made = subst (AreMade replaces becomes begun from) (sym held.is) (are.made nothing refl);
      before = before;
      grown = grown;
      known = subst (λ p. knows before (p ∷ outer)) are.end known;
    }
    end_by knows before out new outer here made trees (q ∷ qs) grown known held are = absurd are

    pub state_end : (knows : List (Forest G) → List (Position F) → Type 0) (out new : List (Forest G)) (outer : List (Position F)) (left : Forest F) (made trees : ℕ) (round : List (Waiting F))
        → left ≡ nothing → round ≡ [] → Extends out new → Holds new trees (turned (at out made) (at out 0))
        → IsState knows out outer left made (reverse round) → IsToured knows replaces becomes new begun outer from trees
    state_end knows out new outer left made trees round none empty grown held s =
        let t : IsState knows out outer nothing made [] =
        subst (λ f. IsState knows out outer f made []) none (subst (λ ws. IsState knows out outer left made (reverse ws)) empty s) in
        end_by knows t.before out new outer t.here made trees t.places (extends_trans t.before out new t.grown grown) t.known held t.levels

    -- no empty forest waits
    none_inside : (out : List (Forest G)) (here : Position F) (left : Forest F) (g : Forest G) (w : Waiting F) (ws : List (Waiting F)) (qs : List (Position F)) → w.tree ≡ nothing
        → AreLevels out here left g (w ∷ ws) qs → ⊥
    none_inside out here left g w ws [] is are = are
    none_inside out here left g w ws (q ∷ qs) is are = subst (λ f. IsInside q f here left g) is are.0

    pub state_some : (knows : List (Forest G) → List (Position F) → Type 0) (out : List (Forest G)) (outer : List (Position F)) (left : Forest F) (made : ℕ) (w : Waiting F) (round rest : List (Waiting F))
        → round ≡ rest ++ option_to_list (Some w) → w.tree ≡ nothing → IsState knows out outer left made (reverse round) → ⊥
    state_some knows out outer left made w round rest popped is s =
        let t = subst (λ ws. IsState knows out outer left made ws) (ap reverse popped ∙ turned_round rest w) s in
        none_inside out t.here left (at out made) w (reverse rest) t.places is t.levels
