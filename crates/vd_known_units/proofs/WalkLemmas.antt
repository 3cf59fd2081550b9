-- What is still to be declared while a forest is walked.
use Rattle.std.proofs.Common.{◌≡◌, ◌++◌, List, [], ◌∷◌, ap, refl, reverse, subst, sym, ℕ, ◌∙◌}
use Rattle.std.proofs.lemmas.List.{reverse-append}
use Rattle.std.specs.Prelude.{Some, option_to_list}
use Rattle.vd_bytes.specs.declared.places.Place.{Place}
use Rattle.vd_forest.specs.Forest.{Forest, more, nothing}
use Rattle.vd_known_units.specs.Walking.{ByNode, all_declared}
use Rattle.vd_known_designs.specs.Designs.{Knows}
use Rattle.vd_known_designs.specs.declared.design.KnownDesign.{KnownDesign}
use Rattle.vd_known_indications.specs.Places.{IsRemembering}
use Rattle.vd_resolved.specs.declared.node.Resolved.{Resolved}
use Rattle.vd_value_rules.specs.Designs.{Design}
use Rattle.vd_value_rules.specs.Knowledge.{Known}

turned : (gs : List (Forest Resolved)) (g : Forest Resolved) → reverse (gs ++ g ∷ []) ≡ g ∷ reverse gs
turned gs g = reverse-append gs (g ∷ [])

module _ (by : ByNode) (d : Design) where
  -- what is declared in the end, where these trees are left, and then what stands behind each of the open trees, in front of which this was known
  abbrev pub Ends : (whole now : Known) → Forest Resolved → List (Forest Resolved) → List Known → Type 0
  Ends whole now left [] [] = all_declared by d left now ≡ whole
  Ends whole now left (more n text place parts next ∷ gs) (k ∷ ks) = Ends whole (by d n parts (all_declared by d left now) k) next gs ks
  Ends whole now left _ _ = ⊥

  ends_inside : (whole now : Known) (n : Resolved) (text : List ℕ) (place : Place) (parts next : Forest Resolved) (gs : List (Forest Resolved)) (ks : List Known)
      → Ends whole now (more n text place parts next) gs ks → Ends whole now parts (more n text place parts next ∷ gs) (now ∷ ks)
  ends_inside whole now n text place parts next [] [] is = is
  ends_inside whole now n text place parts next [] (k ∷ ks) is = absurd is
  ends_inside whole now n text place parts next (nothing ∷ gs) ks is = absurd is
  ends_inside whole now n text place parts next (more m t pl ps r ∷ gs) [] is = absurd is
  ends_inside whole now n text place parts next (more m t pl ps r ∷ gs) (k ∷ ks) is = is

  pub record Walked (x : KnownDesign) (whole : Known) (outer : List Known) (left : Forest Resolved) (gs : List (Forest Resolved)) : Type 0 where
    pub now : Known
    pub before : List Known
    pub knows : Knows d x (now ∷ (before ++ outer))
    pub ends : Ends whole now left gs before

  pub walked_first : (x : KnownDesign) (trees left : Forest Resolved) (round : List (Forest Resolved)) (k : Known) (ks : List Known) → left ≡ trees → round ≡ []
      → Knows d x (k ∷ ks) → Walked x (all_declared by d trees k) ks left (reverse round)
  walked_first x trees left round k ks same empty knows =
      subst (λ f. Walked x (all_declared by d trees k) ks f (reverse round)) (sym same)
      (subst (λ gs. Walked x (all_declared by d trees k) ks trees (reverse gs)) (sym empty) (record { now = k; before = []; knows = knows; ends = refl }))

  module _ (whole : Known) (outer : List Known) where
    -- ---- into the parts of a tree

    inside : (x y : KnownDesign) (n : Resolved) (text : List ℕ) (place : Place) (parts next : Forest Resolved) (gs : List (Forest Resolved))
        → ((k : Known) (ks : List Known) → Knows d x (k ∷ ks) → Knows d y (k ∷ k ∷ ks)) → Walked x whole outer (more n text place parts next) gs
        → Walked y whole outer parts (more n text place parts next ∷ gs)
    inside x y n text place parts next gs remembered w = record {
      now = w.now;
      before = w.now ∷ w.before;
      knows = remembered w.now (w.before ++ outer) w.knows;
      ends = ends_inside whole w.now n text place parts next gs w.before w.ends;
    }

    pub one_inside : (x y : KnownDesign) (left : Forest Resolved) (n : Resolved) (text : List ℕ) (place : Place) (parts next : Forest Resolved)
        (round grown : List (Forest Resolved)) → left ≡ more n text place parts next → grown ≡ round ++ left ∷ []
        → ((k : Known) (ks : List Known) → Knows d x (k ∷ ks) → Knows d y (k ∷ k ∷ ks)) → Walked x whole outer left (reverse round)
        → Walked y whole outer parts (reverse grown)
    one_inside x y left n text place parts next round grown is more_round remembered w =
        subst (λ gs. Walked y whole outer parts gs) (ap (λ g. g ∷ reverse round) (sym is) ∙ sym (turned round left) ∙ ap reverse (sym more_round))
        (inside x y n text place parts next (reverse round) remembered (subst (λ f. Walked x whole outer f (reverse round)) is w))

    -- ---- behind a tree

    module _ (left last : Forest Resolved) (round rest : List (Forest Resolved)) (popped : round ≡ rest ++ option_to_list (Some last)) (x : KnownDesign) where
      popping : Walked x whole outer left (reverse round) → Walked x whole outer left (last ∷ reverse rest)
      popping w = subst (λ gs. Walked x whole outer left gs) (ap reverse popped ∙ turned rest last) w

      none_round : (now : Known) (ks : List Known) → Ends whole now left (nothing ∷ reverse rest) ks → ⊥
      none_round now [] is = is
      none_round now (k ∷ ks) is = is

      pub no_empty : last ≡ nothing → Walked x whole outer left (reverse round) → ⊥
      no_empty is w =
          let v = subst (λ f. Walked x whole outer left (f ∷ reverse rest)) is (popping w) in
          none_round v.now v.before v.ends

      module _ (n : Resolved) (text : List ℕ) (place : Place) (parts next : Forest Resolved) (none : left ≡ nothing) (is : last ≡ more n text place parts next) where
        here : Walked x whole outer left (reverse round) → Walked x whole outer nothing (more n text place parts next ∷ reverse rest)
        here w =
            subst (λ f. Walked x whole outer nothing (f ∷ reverse rest)) is (subst (λ f. Walked x whole outer f (last ∷ reverse rest)) none (popping w))

        two_known : (now : Known) (ks : List Known) → Knows d x (now ∷ (ks ++ outer)) → Ends whole now nothing (more n text place parts next ∷ reverse rest) ks
            → IsRemembering x
        two_known now [] knows ends = absurd ends
        two_known now (k ∷ ks) knows ends = record { design = d; now = now; before = k; round = ks ++ outer; knows = knows }

        pub remembering : Walked x whole outer left (reverse round) → IsRemembering x
        remembering w = let v = here w in two_known v.now v.before v.knows v.ends

        behind_by : (y : KnownDesign) → ((inner k : Known) (ks : List Known) → Knows d x (inner ∷ k ∷ ks) → Knows d y (by d n parts inner k ∷ ks))
            → (now : Known) (ks : List Known) → Knows d x (now ∷ (ks ++ outer)) → Ends whole now nothing (more n text place parts next ∷ reverse rest) ks
            → Walked y whole outer next (reverse rest)
        behind_by y declared now [] knows ends = absurd ends
        behind_by y declared now (k ∷ ks) knows ends =
            record { now = by d n parts now k; before = ks; knows = declared now k (ks ++ outer) knows; ends = ends }

        pub one_behind : (y : KnownDesign) → ((inner k : Known) (ks : List Known) → Knows d x (inner ∷ k ∷ ks) → Knows d y (by d n parts inner k ∷ ks))
            → Walked x whole outer left (reverse round) → Walked y whole outer next (reverse rest)
        one_behind y declared w = let v = here w in behind_by y declared v.now v.before v.knows v.ends

    -- ---- at the end

    ended_by : (x : KnownDesign) (now : Known) (ks : List Known) → Knows d x (now ∷ (ks ++ outer)) → Ends whole now nothing [] ks → Knows d x (whole ∷ outer)
    ended_by x now [] knows ends = subst (λ k. Knows d x (k ∷ outer)) ends knows
    ended_by x now (k ∷ ks) knows ends = absurd ends

    pub at_end : (x : KnownDesign) (left : Forest Resolved) (round : List (Forest Resolved)) → left ≡ nothing → round ≡ [] → Walked x whole outer left (reverse round)
        → Knows d x (whole ∷ outer)
    at_end x left round none empty w =
        let v = subst (λ gs. Walked x whole outer nothing (reverse gs)) empty (subst (λ f. Walked x whole outer f (reverse round)) none w) in
        ended_by x v.now v.before v.knows v.ends
