-- Hierarchies with other numbers.
use Rattle.std.proofs.Common.{ℕ, zero, suc, Bool, true, false, List, [], ◌∷◌, length, Option, Some, None, map, refl, sym, subst}
use Rattle.std.specs.Prelude.{◌&&◌, bytes_eq, if◌then◌else◌}
use Rattle.std.specs.List.{AllZip}
use Rattle.vd_kernel.specs.Correspondence.{BothOrNone}
use Rattle.vd_trees.specs.declared.paths.Scope.{Scope}
use Rattle.vd_meaning.specs.Building.{inside_instance, State}
use Rattle.vd_meaning.specs.NodeFacets.{View, Instance, Hierarchy, Unit', EntityUnit, ArchitectureUnit, PackageUnit}
use Rattle.vd_meaning.specs.Hierarchies.{EntityText, entity_in, ArchitectureText, is_wanted, architecture_in, make_implicit, count_implicit, label_of, entity_elaborated, instance_of, ahead_of, hierarchy}
use Rattle.vd_meaning_laws.specs.Agreement.{Link, IsApart}
use Rattle.vd_meaning_laws.specs.ElaborationAgreement.{view_under, AlikeInstance, AlikeState, AlikeStates, AlikeHierarchy, AlikeUnit}
use Rattle.vd_meaning_laws.proofs.Built.{built_then}
use Rattle.vd_meaning_laws.proofs.Associating.{AlikeEntity, AlikeArchitecture, implicit_alike, count_alike, make_alike, entity_alike}

module _ (l : Link) (numbers : IsApart l) where
  -- ---- units by their names

  abbrev pub SameEntity : Option EntityText → Option EntityText → Type 0
  SameEntity x y = BothOrNone (AlikeEntity l numbers) x y

  either_entity : (b : Bool) (x y x' y' : Option EntityText) → SameEntity x x' → SameEntity y y' → SameEntity (if b then x else y) (if b then x' else y')
  either_entity true x y x' y' h k = h
  either_entity false x y x' y' h k = k

  pub entity_in_alike : (x y : Option EntityText) → SameEntity x y → (us vs : List Unit') → AllZip (AlikeUnit l) us vs → (name : List ℕ) → SameEntity (entity_in x us name) (entity_in y vs name)
  entity_in_alike x y h [] [] k name = h
  entity_in_alike x y h (EntityUnit own generics ports ∷ us) (EntityUnit own' generics' ports' ∷ vs) k name =
      subst (λ o. SameEntity (entity_in x (EntityUnit own generics ports ∷ us) name) (entity_in (if bytes_eq o name then Some (record { generics = generics'; ports = ports' }) else y) vs name)) (sym k.0.0)
      (entity_in_alike (if bytes_eq own name then Some (record { generics = generics; ports = ports }) else x) (if bytes_eq own name then Some (record { generics = generics'; ports = ports' }) else y) (either_entity (bytes_eq own name) (Some (record { generics = generics; ports = ports })) x (Some (record { generics = generics'; ports = ports' })) y (record { generics = k.0.1; ports = k.0.2 }) h) us vs k.1 name)
  entity_in_alike x y h (ArchitectureUnit own entity region ∷ us) (ArchitectureUnit own' entity' region' ∷ vs) k name = entity_in_alike x y h us vs k.1 name
  entity_in_alike x y h (PackageUnit p ∷ us) (PackageUnit q ∷ vs) k name = entity_in_alike x y h us vs k.1 name
  entity_in_alike x y h (EntityUnit own generics ports ∷ us) (ArchitectureUnit own' entity' region' ∷ vs) k name = absurd k.0
  entity_in_alike x y h (EntityUnit own generics ports ∷ us) (PackageUnit q ∷ vs) k name = absurd k.0
  entity_in_alike x y h (ArchitectureUnit own entity region ∷ us) (EntityUnit own' generics' ports' ∷ vs) k name = absurd k.0
  entity_in_alike x y h (ArchitectureUnit own entity region ∷ us) (PackageUnit q ∷ vs) k name = absurd k.0
  entity_in_alike x y h (PackageUnit p ∷ us) (EntityUnit own' generics' ports' ∷ vs) k name = absurd k.0
  entity_in_alike x y h (PackageUnit p ∷ us) (ArchitectureUnit own' entity' region' ∷ vs) k name = absurd k.0
  entity_in_alike x y h _ _ k name = absurd k

  abbrev pub SameArchitecture : Option ArchitectureText → Option ArchitectureText → Type 0
  SameArchitecture x y = BothOrNone (AlikeArchitecture l numbers) x y

  either_architecture : (b : Bool) (x y x' y' : Option ArchitectureText) → SameArchitecture x x' → SameArchitecture y y' → SameArchitecture (if b then x else y) (if b then x' else y')
  either_architecture true x y x' y' h k = h
  either_architecture false x y x' y' h k = k

  pub architecture_in_alike : (x y : Option ArchitectureText) → SameArchitecture x y → (us vs : List Unit') → AllZip (AlikeUnit l) us vs → (entity : List ℕ) (wanted : Option (List ℕ))
      → SameArchitecture (architecture_in x us entity wanted) (architecture_in y vs entity wanted)
  architecture_in_alike x y h [] [] k entity wanted = h
  architecture_in_alike x y h (ArchitectureUnit own of region ∷ us) (ArchitectureUnit own' of' region' ∷ vs) k entity wanted =
      subst (λ b. SameArchitecture (architecture_in x (ArchitectureUnit own of region ∷ us) entity wanted) (architecture_in (if b then Some (record { name = own'; region = region' }) else y) vs entity wanted))
      (λ i. bytes_eq (sym k.0.1 i) entity && is_wanted wanted (sym k.0.0 i))
      (architecture_in_alike (if bytes_eq of entity && is_wanted wanted own then Some (record { name = own; region = region }) else x) (if bytes_eq of entity && is_wanted wanted own then Some (record { name = own'; region = region' }) else y) (either_architecture (bytes_eq of entity && is_wanted wanted own) (Some (record { name = own; region = region })) x (Some (record { name = own'; region = region' })) y (record { name = k.0.0; region = k.0.2 }) h) us vs k.1 entity wanted)
  architecture_in_alike x y h (EntityUnit own generics ports ∷ us) (EntityUnit own' generics' ports' ∷ vs) k entity wanted = architecture_in_alike x y h us vs k.1 entity wanted
  architecture_in_alike x y h (PackageUnit p ∷ us) (PackageUnit q ∷ vs) k entity wanted = architecture_in_alike x y h us vs k.1 entity wanted
  architecture_in_alike x y h (EntityUnit own generics ports ∷ us) (ArchitectureUnit own' entity' region' ∷ vs) k entity wanted = absurd k.0
  architecture_in_alike x y h (EntityUnit own generics ports ∷ us) (PackageUnit q ∷ vs) k entity wanted = absurd k.0
  architecture_in_alike x y h (ArchitectureUnit own of region ∷ us) (EntityUnit own' generics' ports' ∷ vs) k entity wanted = absurd k.0
  architecture_in_alike x y h (ArchitectureUnit own of region ∷ us) (PackageUnit q ∷ vs) k entity wanted = absurd k.0
  architecture_in_alike x y h (PackageUnit p ∷ us) (EntityUnit own' generics' ports' ∷ vs) k entity wanted = absurd k.0
  architecture_in_alike x y h (PackageUnit p ∷ us) (ArchitectureUnit own' entity' region' ∷ vs) k entity wanted = absurd k.0
  architecture_in_alike x y h _ _ k entity wanted = absurd k

  -- ---- instances

  ahead_alike : (views : List View) (scope : Scope) (a b : Option EntityText) → SameEntity a b → (x y : Instance) → AlikeInstance l x y → (s t : State) → AlikeState l s t
      → AlikeStates l (ahead_of views scope a x s) (ahead_of (map (view_under l) views) scope b y t)
  ahead_alike views scope (Some a) (Some b) h x y k s t j =
      implicit_alike l numbers (count_implicit views scope a x) (count_implicit (map (view_under l) views) scope b y) (count_alike l numbers views scope a b h x y k) x y k 0 a.ports b.ports h.ports s t j
  ahead_alike views scope None None h x y k s t j = refl
  ahead_alike views scope _ _ h x y k s t j = absurd h

  instance_alike : (views : List View) (h h' : Hierarchy) → AlikeHierarchy l h h' → (scope : Scope) (a b : Option EntityText) → SameEntity a b → (c d : Option ArchitectureText) → SameArchitecture c d
      → (x y : Instance) → AlikeInstance l x y → (s t : State) → AlikeState l s t → AlikeStates l (instance_of views h scope a c x s) (instance_of (map (view_under l) views) h' scope b d y t)
  instance_alike views h h' hs scope (Some a) (Some b) e (Some c) (Some d) f x y k s t j =
      built_then (AlikeState l) (AlikeState l) _ _ _ _
      (implicit_alike l numbers (make_implicit views scope a x) (make_implicit (map (view_under l) views) scope b y) (make_alike l numbers views scope a b e x y k) x y k 0 a.ports b.ports e.ports s t j) (λ u v i.
      subst (λ inner. AlikeStates l (entity_elaborated views h scope (inside_instance (label_of x.label) x.entity c.name scope) a c x (length s.made.signals) u) (entity_elaborated (map (view_under l) views) h' scope inner b d y (length t.made.signals) v))
      (λ n. inside_instance (label_of (sym k.label n)) (sym k.entity n) (sym f.name n) scope)
      (entity_alike l numbers views h h' hs scope (inside_instance (label_of x.label) x.entity c.name scope) a b e c d f x y k (length s.made.signals) (length t.made.signals) (λ n. length (j.made.signals n)) u v i))
  instance_alike views h h' hs scope None None e c d f x y k s t j = refl
  instance_alike views h h' hs scope (Some a) (Some b) e None None f x y k s t j = refl
  instance_alike views h h' hs scope (Some a) None e c d f x y k s t j = absurd e
  instance_alike views h h' hs scope None (Some b) e c d f x y k s t j = absurd e
  instance_alike views h h' hs scope (Some a) (Some b) e (Some c) None f x y k s t j = absurd f
  instance_alike views h h' hs scope (Some a) (Some b) e None (Some d) f x y k s t j = absurd f

  pub hierarchy_alike : (views : List View) (us vs : List Unit') → AllZip (AlikeUnit l) us vs → (n : ℕ) → AlikeHierarchy l (hierarchy views us n) (hierarchy (map (view_under l) views) vs n)
  hierarchy_alike views us vs h zero =
      record {
        ahead = λ scope x y k s t j.
            subst (λ name. AlikeStates l (ahead_of views scope (entity_in None us x.entity) x s) (ahead_of (map (view_under l) views) scope (entity_in None vs name) y t)) (sym k.entity)
            (ahead_alike views scope _ _ (entity_in_alike None None tt us vs h x.entity) x y k s t j);
        instance = λ scope x y k s t j. refl;
      }
  hierarchy_alike views us vs h (suc n) =
      record {
        ahead = λ scope x y k s t j.
            subst (λ name. AlikeStates l (ahead_of views scope (entity_in None us x.entity) x s) (ahead_of (map (view_under l) views) scope (entity_in None vs name) y t)) (sym k.entity)
            (ahead_alike views scope _ _ (entity_in_alike None None tt us vs h x.entity) x y k s t j);
        instance = λ scope x y k s t j.
            subst (λ name. AlikeStates l ((hierarchy views us (suc n)).instance scope x s) (instance_of (map (view_under l) views) (hierarchy (map (view_under l) views) vs n) scope (entity_in None vs name) (architecture_in None vs name y.architecture) y t)) (sym k.entity)
            (subst (λ wanted. AlikeStates l ((hierarchy views us (suc n)).instance scope x s) (instance_of (map (view_under l) views) (hierarchy (map (view_under l) views) vs n) scope (entity_in None vs x.entity) (architecture_in None vs x.entity wanted) y t)) (sym k.architecture)
            (instance_alike views (hierarchy views us n) (hierarchy (map (view_under l) views) vs n) (hierarchy_alike views us vs h n) scope _ _ (entity_in_alike None None tt us vs h x.entity) _ _ (architecture_in_alike None None tt us vs h x.entity x.architecture) x y k s t j));
      }
