-- A stack of what forests come to.
use Rattle.std.proofs.Common.{◌≡◌, ◌<◌, ◌≤◌, ℕ, zero, suc, ◌+◌, ◌-◌, List, [], ◌∷◌, ◌++◌, length, drop, get_or, reverse, refl, sym, ap, subst, ◌∙◌, arith, append_assoc}
use Rattle.std.specs.Prelude.{Some, Vec, option_to_list}
use Rattle.std.specs.Global.{Global}
use Rattle.std.proofs.lemmas.List.{append-nil, drop_more, reverse-append}
use Rattle.std.specs.List.{All}
use Rattle.std.proofs.lemmas.List.Elements.{All-head, All-nil, All-pop, All-push, All-tail, All-weaker}
use Rattle.vd_walks.specs.Trees.{AreForests, AreSound, AreTrees, Takes}
use Rattle.vd_walks.specs.Visits.{visited}
use Rattle.vd_bytes.specs.declared.places.Place.{Place}
use Rattle.vd_forest.specs.Forest.{Forest, nothing, more}

module _ {F : Type 0} where
  -- ---- which forests are on the stack when some are still to be looked at

  abbrev pub without_two : List (Forest F) → List (Forest F)
  without_two (a ∷ b ∷ fs) = fs
  without_two _ = []

  abbrev pub stacked : List (Forest F) → List (Forest F)
  stacked [] = []
  stacked (nothing ∷ fs) = nothing ∷ stacked fs
  stacked (more n text place parts next ∷ fs) = more n text place parts next ∷ without_two (stacked fs)

  abbrev pub Fits : List (Forest F) → Type 0
  Fits [] = Unit {0}
  Fits (nothing ∷ fs) = Fits fs
  Fits (more n text place parts next ∷ fs) = ((rest : List (Forest F)) × (stacked fs ≡ parts ∷ next ∷ rest)) × Fits fs

  pub fits_visited : (f : Forest F) (fs : List (Forest F)) → Fits fs → Fits (visited f ++ fs) × (stacked (visited f ++ fs) ≡ f ∷ stacked fs)
  fits_visited nothing fs fits = (fits, refl)
  fits_visited (more n text place parts next) fs fits =
      let a = fits_visited next fs fits in
      let b = fits_visited parts (visited next ++ fs) a.0 in
      let same : (visited parts ++ visited next) ++ fs ≡ visited parts ++ (visited next ++ fs) = append_assoc (visited parts) (visited next) fs in
      let stack : stacked ((visited parts ++ visited next) ++ fs) ≡ parts ∷ next ∷ stacked fs = ap stacked same ∙ b.1 ∙ ap (λ x. parts ∷ x) a.1 in
      (((stacked fs, stack), subst Fits (sym same) b.0), ap (λ x. more n text place parts next ∷ without_two x) stack)

  fits_tail : (f : Forest F) (fs : List (Forest F)) → Fits (f ∷ fs) → Fits fs
  fits_tail nothing fs fits = fits
  fits_tail (more n text place parts next) fs fits = fits.1

  fits_drop : (k : ℕ) (fs : List (Forest F)) → Fits fs → Fits (drop k fs)
  fits_drop zero fs fits = fits
  fits_drop (suc k) [] fits = tt
  fits_drop (suc k) (f ∷ fs) fits = fits_drop k fs (fits_tail f fs fits)

  pub taking : (f : Forest F) (fs : List (Forest F)) → Fits (f ∷ fs) → (rest : List (Forest F)) × (Takes f (stacked fs) rest × (stacked (f ∷ fs) ≡ f ∷ rest))
  taking nothing fs fits = (stacked fs, (refl, refl))
  taking (more n text place parts next) fs fits = (fits.0.0, (fits.0.1, ap (λ x. more n text place parts next ∷ without_two x) fits.0.1))

  fits_all : (from : Forest F) (all : List (Forest F)) → all ≡ visited from → Fits all
  fits_all from all is = subst Fits (append-nil (visited from) ∙ sym is) (fits_visited from [] tt).0

-- ---- steps

turned_push : {X : Type 0} (xs : List X) (x : X) → reverse (xs ++ x ∷ []) ≡ x ∷ reverse xs
turned_push xs x = reverse-append xs (x ∷ [])

module _ {F S : Type 0} (comes_to : Forest F → S → Type 0) where
  pub step_nothing : (old new : List (Vec S Global)) (v : Vec S Global) (f : Forest F) (fs rest : List (Forest F)) → f ≡ nothing → new ≡ old ++ v ∷ [] → v.items ≡ []
      → Takes f fs rest → AreForests comes_to fs (reverse old) → AreForests comes_to (f ∷ rest) (reverse new)
  step_nothing old new v f fs rest is pushed none takes are =
      let same : fs ≡ rest = subst (λ g. Takes g fs rest) is takes in
      subst (λ vs. AreForests comes_to (f ∷ rest) vs) (sym (ap reverse pushed ∙ turned_push old v)) (
        subst (λ g. AreTrees comes_to g (reverse v.items)) (sym is) (subst (λ ss. AreTrees comes_to nothing (reverse ss)) (sym none) tt),
        subst (λ gs. AreForests comes_to gs (reverse old)) same are,
      )

  pub step_more : (old first second new : List (Vec S Global)) (parts trees made_trees : Vec S Global) (ps : List S) (made : S) (f inside behind : Forest F) (n : F) (text : List ℕ) (place : Place) (fs rest : List (Forest F))
      → f ≡ more n text place inside behind → old ≡ first ++ option_to_list (Some parts) → first ≡ second ++ option_to_list (Some trees) → ps ≡ reverse parts.items
      → (AreTrees comes_to inside ps → comes_to (more n text place inside behind) made) → made_trees.items ≡ trees.items ++ made ∷ [] → new ≡ second ++ made_trees ∷ []
      → Takes f fs rest → AreForests comes_to fs (reverse old) → AreForests comes_to (f ∷ rest) (reverse new)
  step_more old first second new parts trees made_trees ps made f inside behind n text place fs rest is popped again turned node pushed stacked_again takes are =
      let taken : fs ≡ inside ∷ behind ∷ rest = subst (λ g. Takes g fs rest) is takes in
      let back : reverse old ≡ parts ∷ (trees ∷ reverse second) = ap reverse popped ∙ turned_push first parts ∙ ap (λ x. parts ∷ x) (ap reverse again ∙ turned_push second trees) in
      let all : AreForests comes_to (inside ∷ behind ∷ rest) (parts ∷ (trees ∷ reverse second)) = subst (λ vs. AreForests comes_to (inside ∷ behind ∷ rest) vs) back (subst (λ gs. AreForests comes_to gs (reverse old)) taken are) in
      let tree : AreTrees comes_to (more n text place inside behind) (reverse made_trees.items) =
      subst (λ ss. AreTrees comes_to (more n text place inside behind) ss) (sym (ap reverse pushed ∙ turned_push trees.items made))
      (node (subst (λ ss. AreTrees comes_to inside ss) (sym turned) all.0), all.1.0) in
      subst (λ vs. AreForests comes_to (f ∷ rest) vs) (sym (ap reverse stacked_again ∙ turned_push second made_trees))
      (subst (λ g. AreTrees comes_to g (reverse made_trees.items)) (sym is) tree, all.1.1)

  -- ---- the loop

  pub at_start : (from : Forest F) (all : List (Forest F)) (stack : List (Vec S Global)) (left : ℕ) → all ≡ visited from → stack ≡ [] → length all ≤ left → AreForests comes_to (stacked (drop left all)) (reverse stack)
  at_start from all stack left is none end = subst (λ fs. AreForests comes_to (stacked fs) (reverse stack)) (sym (Rattle.std.proofs.Common.drop_of_length-le all end)) (subst (λ vs. AreForests comes_to [] (reverse vs)) (sym none) tt)

  pub one_step : (from : Forest F) (all : List (Forest F)) (old new : List (Vec S Global)) (left less : ℕ) (f : Forest F) → all ≡ visited from → less + 1 ≡ left → less < length all → f ≡ get_or all less f
      → ((fs rest : List (Forest F)) → Takes f fs rest → AreForests comes_to fs (reverse old) → AreForests comes_to (f ∷ rest) (reverse new))
      → AreForests comes_to (stacked (drop left all)) (reverse old) → AreForests comes_to (stacked (drop less all)) (reverse new)
  one_step from all old new left less f is one below here step are =
      let split : drop less all ≡ f ∷ drop left all = drop_more all less f below ∙ ap (λ x. x ∷ drop (less + 1) all) (sym here) ∙ ap (λ k. f ∷ drop k all) one in
      let fits : Fits (f ∷ drop left all) = subst Fits split (fits_drop less all (fits_all from all is)) in
      let takes = taking f (drop left all) fits in
      subst (λ fs. AreForests comes_to fs (reverse new)) (sym (ap stacked split ∙ takes.1.1)) (step (stacked (drop left all)) takes.0 takes.1.0 are)

  pub at_end : (from : Forest F) (all : List (Forest F)) (stack rest : List (Vec S Global)) (made : Vec S Global) (turned : List S) (left : ℕ) → all ≡ visited from → left ≤ 0 → stack ≡ rest ++ option_to_list (Some made) → turned ≡ reverse made.items
      → AreForests comes_to (stacked (drop left all)) (reverse stack) → AreTrees comes_to from turned
  at_end from all stack rest made turned left is none popped turning are =
      let zero_is : left ≡ 0 = omega arith in
      let whole : stacked (drop left all) ≡ from ∷ [] = ap (λ k. stacked (drop k all)) zero_is ∙ ap stacked (is ∙ sym (append-nil (visited from))) ∙ (fits_visited from [] tt).1 in
      let one : AreForests comes_to (from ∷ []) (made ∷ reverse rest) = subst (λ vs. AreForests comes_to (from ∷ []) vs) (ap reverse popped ∙ turned_push rest made) (subst (λ fs. AreForests comes_to fs (reverse stack)) whole are) in
      subst (λ ss. AreTrees comes_to from ss) (sym turning) one.0

-- ---- what fits, and what trees come to, where more is known of it

module _ {F S : Type 0} (one other : Forest F → S → Type 0) (more_known : (f : Forest F) (s : S) → one f s → other f s) where
  pub trees_known : (f : Forest F) (ss : List S) → AreTrees one f ss → AreTrees other f ss
  trees_known nothing [] are = tt
  trees_known (more form text place parts next) (s ∷ ss) are = (more_known (more form text place parts next) s are.0, trees_known next ss are.1)
  trees_known _ _ are = absurd are

  pub forests_known : (fs : List (Forest F)) (vs : List (Vec S Global)) → AreForests one fs vs → AreForests other fs vs
  forests_known [] [] are = tt
  forests_known (f ∷ fs) (v ∷ vs) are = (trees_known f (reverse v.items) are.0, forests_known fs vs are.1)
  forests_known _ _ are = absurd are

module _ {S : Type 0} (is_sound : S → Type 0) where
  all_turned : (xs : List S) → All is_sound xs → All is_sound (reverse xs)
  all_turned [] all = all
  all_turned (x ∷ xs) all =
      subst (λ ys. All is_sound ys) (sym (reverse-append (x ∷ []) xs)) (All-push is_sound (reverse xs) x (all_turned xs (All-tail is_sound x xs all)) (All-head is_sound x xs all))

  pub sound_turned : (xs ys : List S) → ys ≡ reverse xs → All is_sound xs → All is_sound ys
  sound_turned xs ys is all = subst (λ zs. All is_sound zs) (sym is) (all_turned xs all)

  sound_popped : (old new : List (Vec S Global)) (v : Vec S Global) → old ≡ new ++ option_to_list (Some v) → AreSound is_sound old → AreSound is_sound new × All is_sound v.items
  sound_popped old new v is sound = All-pop (λ v. All is_sound v.items) old new (Some v) is sound

  pub first_popped : (old new : List (Vec S Global)) (v : Vec S Global) → old ≡ new ++ option_to_list (Some v) → AreSound is_sound old → All is_sound v.items
  first_popped old new v is sound = (sound_popped old new v is sound).1

  pub rest_popped : (old new : List (Vec S Global)) (v : Vec S Global) → old ≡ new ++ option_to_list (Some v) → AreSound is_sound old → AreSound is_sound new
  rest_popped old new v is sound = (sound_popped old new v is sound).0

  pub sound_pushed : (old new : List (Vec S Global)) (v : Vec S Global) → new ≡ old ++ v ∷ [] → All is_sound v.items → AreSound is_sound old → AreSound is_sound new
  sound_pushed old new v is one sound = subst (λ vs. AreSound is_sound vs) (sym is) (All-push (λ v. All is_sound v.items) old v sound one)

  pub nothing_sound : (v : List S) → v ≡ [] → All is_sound v
  nothing_sound v is = subst (λ xs. All is_sound xs) (sym is) (All-nil is_sound)

  pub one_sound : (old new : List S) (x : S) → new ≡ old ++ x ∷ [] → is_sound x → All is_sound old → All is_sound new
  one_sound old new x is one sound = subst (λ xs. All is_sound xs) (sym is) (All-push is_sound old x sound one)

pub still_sound : {S : Type 0} (one other : S → Type 0) → ((s : S) → one s → other s) → (vs : List (Vec S Global)) → AreSound one vs → AreSound other vs
still_sound one other known vs sound = All-weaker (λ v. All one v.items) (λ v. All other v.items) (λ v all. All-weaker one other known v.items all) vs sound
