-- Packages, instances of packages, and their views with other numbers.
use Rattle.std.proofs.Common.{◌≡◌, ℕ, Bool, true, false, List, [], ◌∷◌, ◌++◌, Option, Some, None, map, refl, sym, ◌∙◌, subst}
use Rattle.std.specs.Prelude.{◌==◌, ◌&&◌, if◌then◌else◌, Ok, Err}
use Rattle.std.specs.List.{AllZip}
use Rattle.vd_kernel.specs.Correspondence.{BothOrNone}
use Rattle.vd_trees.specs.declared.paths.Scope.{Scope}
use Rattle.vd_composites.specs.Stops.{◌>>=◌}
use Rattle.vd_environments.specs.Got.{Got}
use Rattle.vd_environments.specs.Environments.{Env}
use Rattle.vd_environments.specs.Processes.{declared}
use Rattle.vd_meaning.specs.Generics.{with_generics, taken}
use Rattle.vd_meaning.specs.Brackets.{or_else}
use Rattle.vd_meaning.specs.Building.{evaluated, Stopped, State}
use Rattle.vd_meaning.specs.NodeFacets.{ElementMode, ByMode, ByView, ViewElement, View, Hierarchy, PackageSort, PlainPackage, GenericPackage, BodyOfPackage, InstanceOfPackage, PackageText, Unit', EntityUnit, ArchitectureUnit, PackageUnit}
use Rattle.vd_meaning.specs.Elaborations.{package_scope, is_generic, is_body, package_in, declarations_of, instance_declared, instance_elaborated, unless_generic, elaborated_by, package_elaborated, with_packages, copied, number_as, mode_as, element_as, view_as, views_as, views_of_instances}
use Rattle.vd_meaning_laws.specs.Agreement.{Link, IsApart, number_in, Agree, AgreeAfter, AlikeCommands}
use Rattle.vd_meaning_laws.proofs.Agreeing.{at}
use Rattle.vd_meaning_laws.specs.Renumbering.{pair_in}
use Rattle.vd_meaning_laws.proofs.Doing.{after_after}
use Rattle.vd_meaning_laws.proofs.Elaborating.{declared_agree}
use Rattle.vd_meaning_laws.proofs.Instancing.{generics_agree, taken_agrees}
use Rattle.vd_meaning_laws.proofs.Nodes.{either_same}
use Rattle.vd_meaning_laws.specs.ElaborationAgreement.{element_mode_in, element_in, view_under, AlikeState, AlikeBuilt, AlikeStates, AlikeHierarchy, AlikePackage, AlikeUnit}
use Rattle.vd_meaning_laws.proofs.Built.{built_then, joined_zip}

module _ (l : Link) (numbers : IsApart l) where
  abbrev SamePackage : Option PackageText → Option PackageText → Type 0
  SamePackage x y = BothOrNone (AlikePackage l) x y

  abbrev UnitsAlike : List Unit' → List Unit' → Type 0
  UnitsAlike us vs = AllZip (AlikeUnit l) us vs

  -- ---- packages by their numbers

  either_package : (b c : Bool) → c ≡ b → (x y x' y' : Option PackageText) → SamePackage x x' → SamePackage y y' → SamePackage (if b then x else y) (if c then x' else y')
  either_package true c e x y x' y' h k = subst (λ c. SamePackage x (if c then x' else y')) (sym e) h
  either_package false c e x y x' y' h k = subst (λ c. SamePackage y (if c then x' else y')) (sym e) k

  found_same : (is : PackageSort → Bool) (p q : PackageText) → AlikePackage l p q → (n : ℕ) → (is q.sort && (q.number == l.number n)) ≡ (is p.sort && (p.number == n))
  found_same is p q h n = λ i. is (h.sort i) && ((λ j. h.number j == l.number n) ∙ numbers.same p.number n) i

  package_in_alike : (is : PackageSort → Bool) (x y : Option PackageText) → SamePackage x y → (us vs : List Unit') → UnitsAlike us vs → (n : ℕ)
      → SamePackage (package_in is x us n) (package_in is y vs (l.number n))
  package_in_alike is x y h [] [] k n = h
  package_in_alike is x y h (PackageUnit p ∷ us) (PackageUnit q ∷ vs) k n =
      package_in_alike is (if is p.sort && (p.number == n) then Some p else x) (if is q.sort && (q.number == l.number n) then Some q else y)
      (either_package (is p.sort && (p.number == n)) (is q.sort && (q.number == l.number n)) (found_same is p q k.0 n) (Some p) x (Some q) y k.0 h) us vs k.1 n
  package_in_alike is x y h (EntityUnit own generics ports ∷ us) (EntityUnit own' generics' ports' ∷ vs) k n = package_in_alike is x y h us vs k.1 n
  package_in_alike is x y h (ArchitectureUnit own of region ∷ us) (ArchitectureUnit own' of' region' ∷ vs) k n = package_in_alike is x y h us vs k.1 n
  package_in_alike is x y h (EntityUnit own generics ports ∷ us) (ArchitectureUnit own' of' region' ∷ vs) k n = absurd k.0
  package_in_alike is x y h (EntityUnit own generics ports ∷ us) (PackageUnit q ∷ vs) k n = absurd k.0
  package_in_alike is x y h (ArchitectureUnit own of region ∷ us) (EntityUnit own' generics' ports' ∷ vs) k n = absurd k.0
  package_in_alike is x y h (ArchitectureUnit own of region ∷ us) (PackageUnit q ∷ vs) k n = absurd k.0
  package_in_alike is x y h (PackageUnit p ∷ us) (EntityUnit own' generics' ports' ∷ vs) k n = absurd k.0
  package_in_alike is x y h (PackageUnit p ∷ us) (ArchitectureUnit own' of' region' ∷ vs) k n = absurd k.0
  package_in_alike is x y h _ _ k n = absurd k

  -- ---- instances

  body_alike : (x y : Option PackageText) → SamePackage x y → AllZip (AlikeCommands l) (declarations_of x) (declarations_of y)
  body_alike None None h = tt
  body_alike (Some p) (Some q) h = h.declarations
  body_alike _ _ h = absurd h

  -- what an instance of alike packages declares, with these actuals and these copies
  declared_alike : (a b : PackageText) → AlikePackage l a b → (x y : Option PackageText) → SamePackage x y → (p q : PackageText) → AlikePackage l p q → (e e' : Env) → Agree l e e'
      → AgreeAfter l (instance_declared a x p e) (instance_declared b y q e')
  declared_alike a b h x y k p q j e e' g =
      subst (λ r. AgreeAfter l (instance_declared a x p e) r)
      (λ i. with_generics b.generics (sym (at l numbers p.actuals q.actuals j.actuals e e' g) i) e' >>= declared b.declarations >>= declared (declarations_of y) >>= λ f. Ok (taken (sym j.copies i) f e'))
      (after_after l numbers _ _ _ _
      (after_after l numbers _ _ _ _
      (after_after l numbers _ _ _ _ (generics_agree l numbers a.generics b.generics h.generics (p.actuals e) e e' g) (declared_agree l numbers a.declarations b.declarations h.declarations))
      (declared_agree l numbers (declarations_of x) (declarations_of y) (body_alike x y k)))
      (λ f f' c. taken_agrees l numbers p.copies f f' c e e' g))

  evaluated_alike : (scope : Scope) (g g' : Got Env) → AgreeAfter l g g' → AlikeBuilt (Agree l) (evaluated scope g) (evaluated scope g')
  evaluated_alike scope (Ok e) (Ok e') h = h
  evaluated_alike scope (Err s) (Err t) h = λ i. Stopped (h i) scope
  evaluated_alike scope _ _ h = absurd h

  instance_alike : (x y : Option PackageText) → SamePackage x y → (u v : Option PackageText) → SamePackage u v → (p q : PackageText) → AlikePackage l p q → (s t : State) → AlikeState l s t
      → AlikeStates l (instance_elaborated x u p s) (instance_elaborated y v q t)
  instance_alike None None h u v k p q j s t a = λ i. Stopped (Rattle.vd_environments.specs.Got.halt_of Rattle.vd_values.specs.declared.scalar.StopKind.TheVariants.Range) (package_scope (j.name i))
  instance_alike (Some x) (Some y) h u v k p q j s t a =
      subst (λ name. AlikeStates l (instance_elaborated (Some x) u p s) (evaluated (package_scope name) (instance_declared y v q t.env) >>= λ e. Ok (record t { env = e }))) (sym j.name)
      (built_then (Agree l) (AlikeState l) _ _ _ _ (evaluated_alike (package_scope p.name) _ _ (declared_alike x y h u v k p q j s.env t.env a.env)) (λ e e' b. record { env = b; made = a.made }))
  instance_alike _ _ h u v k p q j s t a = absurd h

  -- ---- packages in the order of analysis

  module _ (h k : Hierarchy) (hs : AlikeHierarchy l h k) where
    plain_alike : (p q : PackageText) → AlikePackage l p q → (s t : State) → AlikeState l s t → AlikeStates l (p.declaring h (package_scope p.name) s) (q.declaring k (package_scope q.name) t)
    plain_alike p q j s t a =
        subst (λ name. AlikeStates l (p.declaring h (package_scope p.name) s) (q.declaring k (package_scope name) t)) (sym j.name) (j.declaring h k hs (package_scope p.name) s t a)

    unless_alike : (x y : Option PackageText) → SamePackage x y → (p q : PackageText) → AlikePackage l p q → (s t : State) → AlikeState l s t
        → AlikeStates l (unless_generic x h p s) (unless_generic y k q t)
    unless_alike None None e p q j s t a = plain_alike p q j s t a
    unless_alike (Some x) (Some y) e p q j s t a = a
    unless_alike _ _ e p q j s t a = absurd e

    module _ (bs cs : List Unit') (z : UnitsAlike bs cs) where
      before_alike : (is : PackageSort → Bool) (p q : PackageText) → AlikePackage l p q → SamePackage (package_in is None bs p.number) (package_in is None cs q.number)
      before_alike is p q j =
          subst (λ n. SamePackage (package_in is None bs p.number) (package_in is None cs n)) (sym j.number) (package_in_alike is None None tt bs cs z p.number)

      sorted : (sort : PackageSort) (p q : PackageText) → AlikePackage l p q → (s t : State) → AlikeState l s t → AlikeStates l (elaborated_by sort h bs p s) (elaborated_by sort k cs q t)
      sorted PlainPackage p q j s t a = plain_alike p q j s t a
      sorted GenericPackage p q j s t a = a
      sorted BodyOfPackage p q j s t a = unless_alike _ _ (before_alike is_generic p q j) p q j s t a
      sorted InstanceOfPackage p q j s t a = instance_alike _ _ (before_alike is_generic p q j) _ _ (before_alike is_body p q j) p q j s t a

      package_alike : (p q : PackageText) → AlikePackage l p q → (s t : State) → AlikeState l s t → AlikeStates l (package_elaborated h bs p s) (package_elaborated k cs q t)
      package_alike p q j s t a =
          subst (λ sort. AlikeStates l (package_elaborated h bs p s) (elaborated_by sort k cs q t)) (sym j.sort) (sorted p.sort p q j s t a)

    pub packages_alike : (bs cs : List Unit') → UnitsAlike bs cs → (us vs : List Unit') → UnitsAlike us vs → (s t : State) → AlikeState l s t
        → AlikeStates l (with_packages h bs us s) (with_packages k cs vs t)
    packages_alike bs cs b [] [] z s t a = a
    packages_alike bs cs b (PackageUnit p ∷ us) (PackageUnit q ∷ vs) z s t a =
        built_then (AlikeState l) (AlikeState l) _ _ _ _ (package_alike bs cs b p q z.0 s t a)
        (packages_alike (bs ++ PackageUnit p ∷ []) (cs ++ PackageUnit q ∷ []) (joined_zip l numbers (AlikeUnit l) bs cs (PackageUnit p ∷ []) (PackageUnit q ∷ []) b (z.0, tt)) us vs z.1)
    packages_alike bs cs b (EntityUnit own generics ports ∷ us) (EntityUnit own' generics' ports' ∷ vs) z s t a = packages_alike bs cs b us vs z.1 s t a
    packages_alike bs cs b (ArchitectureUnit own entity region ∷ us) (ArchitectureUnit own' entity' region' ∷ vs) z s t a = packages_alike bs cs b us vs z.1 s t a
    packages_alike bs cs b (EntityUnit own generics ports ∷ us) (ArchitectureUnit own' entity' region' ∷ vs) z s t a = absurd z.0
    packages_alike bs cs b (EntityUnit own generics ports ∷ us) (PackageUnit q ∷ vs) z s t a = absurd z.0
    packages_alike bs cs b (ArchitectureUnit own entity region ∷ us) (EntityUnit own' generics' ports' ∷ vs) z s t a = absurd z.0
    packages_alike bs cs b (ArchitectureUnit own entity region ∷ us) (PackageUnit q ∷ vs) z s t a = absurd z.0
    packages_alike bs cs b (PackageUnit p ∷ us) (EntityUnit own' generics' ports' ∷ vs) z s t a = absurd z.0
    packages_alike bs cs b (PackageUnit p ∷ us) (ArchitectureUnit own' entity' region' ∷ vs) z s t a = absurd z.0
    packages_alike bs cs b _ _ z s t a = absurd z

  -- ---- views of instances

  either_number : (b : Bool) (n : ℕ) (x : Option ℕ) → (if b then Some (l.number n) else number_in l x) ≡ number_in l (if b then Some n else x)
  either_number true n x = refl
  either_number false n x = refl

  copied_same : (cs : List (ℕ × ℕ)) (n : ℕ) → copied (map (pair_in l) cs) (l.number n) ≡ number_in l (copied cs n)
  copied_same [] n = refl
  copied_same (c ∷ cs) n = (λ i. if numbers.same c.0 n i then Some (l.number c.1) else copied_same cs n i) ∙ either_number (c.0 == n) c.1 (copied cs n)

  number_as_same : (cs : List (ℕ × ℕ)) (x : Option ℕ) → number_as (map (pair_in l) cs) (number_in l x) ≡ number_in l (number_as cs x)
  number_as_same cs None = refl
  number_as_same cs (Some n) = (λ i. or_else (copied_same cs n i) (Some (l.number n))) ∙ either_same l numbers (copied cs n) (Some n)

  mode_as_same : (cs : List (ℕ × ℕ)) (m : ElementMode) → mode_as (map (pair_in l) cs) (element_mode_in l m) ≡ element_mode_in l (mode_as cs m)
  mode_as_same cs (ByMode m) = refl
  mode_as_same cs (ByView d c) = λ i. ByView (number_as_same cs d i) c

  elements_as_same : (cs : List (ℕ × ℕ)) (xs : List ViewElement) → map (element_as (map (pair_in l) cs)) (map (element_in l) xs) ≡ map (element_in l) (map (element_as cs) xs)
  elements_as_same cs [] = refl
  elements_as_same cs (x ∷ xs) = λ i. record { name = x.name; mode = mode_as_same cs x.mode i } ∷ elements_as_same cs xs i

  view_as_same : (cs : List (ℕ × ℕ)) (v : View) (x : Option ℕ) → view_as (map (pair_in l) cs) (view_under l v) (number_in l x) ≡ map (view_under l) (view_as cs v x)
  view_as_same cs v None = refl
  view_as_same cs v (Some d) = λ i. record { view = l.number d; mark = number_as_same cs v.mark i; elements = elements_as_same cs v.elements i } ∷ []

  joined_map : (xs ys : List View) → map (view_under l) (xs ++ ys) ≡ map (view_under l) xs ++ map (view_under l) ys
  joined_map [] ys = refl
  joined_map (x ∷ xs) ys = λ i. view_under l x ∷ joined_map xs ys i

  views_as_same : (cs : List (ℕ × ℕ)) (vs : List View) → views_as (map (pair_in l) cs) (map (view_under l) vs) ≡ map (view_under l) (views_as cs vs)
  views_as_same cs [] = refl
  views_as_same cs (v ∷ vs) =
      (λ i. ((λ j. view_as (map (pair_in l) cs) (view_under l v) (copied_same cs v.view j)) ∙ view_as_same cs v (copied cs v.view)) i ++ views_as_same cs vs i)
      ∙ sym (joined_map (view_as cs v (copied cs v.view)) (views_as cs vs))

  instances_same : (us vs : List Unit') → UnitsAlike us vs → (views : List View) → views_of_instances vs (map (view_under l) views) ≡ map (view_under l) (views_of_instances us views)
  instances_same [] [] h views = refl
  instances_same (PackageUnit p ∷ us) (PackageUnit q ∷ vs) h views =
      (λ i. ((λ j. views_as (h.0.copies j) (map (view_under l) views)) ∙ views_as_same p.copies views) i ++ instances_same us vs h.1 views i)
      ∙ sym (joined_map (views_as p.copies views) (views_of_instances us views))
  instances_same (EntityUnit own generics ports ∷ us) (EntityUnit own' generics' ports' ∷ vs) h views = instances_same us vs h.1 views
  instances_same (ArchitectureUnit own of region ∷ us) (ArchitectureUnit own' of' region' ∷ vs) h views = instances_same us vs h.1 views
  instances_same (EntityUnit own generics ports ∷ us) (ArchitectureUnit own' of' region' ∷ vs) h views = absurd h.0
  instances_same (EntityUnit own generics ports ∷ us) (PackageUnit q ∷ vs) h views = absurd h.0
  instances_same (ArchitectureUnit own of region ∷ us) (EntityUnit own' generics' ports' ∷ vs) h views = absurd h.0
  instances_same (ArchitectureUnit own of region ∷ us) (PackageUnit q ∷ vs) h views = absurd h.0
  instances_same (PackageUnit p ∷ us) (EntityUnit own' generics' ports' ∷ vs) h views = absurd h.0
  instances_same (PackageUnit p ∷ us) (ArchitectureUnit own' of' region' ∷ vs) h views = absurd h.0
  instances_same _ _ h views = absurd h

  pub all_views_same : (us vs : List Unit') → UnitsAlike us vs → (views views' : List View) → views' ≡ map (view_under l) views
      → (views' ++ views_of_instances vs views') ≡ map (view_under l) (views ++ views_of_instances us views)
  all_views_same us vs h views views' e =
      (λ i. e i ++ views_of_instances vs (e i)) ∙ (λ i. map (view_under l) views ++ instances_same us vs h views i) ∙ sym (joined_map views (views_of_instances us views))
