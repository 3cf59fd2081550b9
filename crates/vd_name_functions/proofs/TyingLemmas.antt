-- Whether a body names a declaration of the region round it, as a search.
use Rattle.std.proofs.Common.{◌≡◌, ℕ, Bool, true, false, ◌||◌, ◌&&◌, Option, Some, None, is_some, refl, sym, ap, ◌∙◌}
use Rattle.vd_walks.specs.Finding.{or_else, first_found}
use Rattle.vd_forest.specs.Forest.{Forest, nothing, more}
use Rattle.vd_resolved.specs.declared.node.Resolved.{Resolved}
use Rattle.vd_naming.specs.Endings.{Ended}
use Rattle.vd_naming.specs.Functions.{stands_round, names_round, is_tied, is_uninstantiated_function}
use Rattle.vd_declarations.specs.declared.classes.Class.{Class}
use Rattle.vd_name_functions.specs.Tying.{stands_beside, tied_by, tying_finder}

found_in_one : {A : Type 0} (a b : Option A) → is_some (or_else a b) ≡ (is_some a || is_some b)
found_in_one None b = refl
found_in_one (Some x) b = refl

tied_where : (b : Bool) → is_some (tied_by b) ≡ b
tied_where true = refl
tied_where false = refl

module _ (x : Ended) (k : ℕ) where
  abbrev found : Forest Resolved → Option (Unit {0})
  found tree = first_found (tying_finder x.inner.design.scopes x.outer.region k) tt tree

  stands : (n : Option ℕ) → stands_beside x.inner.design.scopes x.outer.region k n ≡ stands_round x k n
  stands None = refl
  stands (Some n) = refl

  pub found_round : (tree : Forest Resolved) → is_some (found tree) ≡ names_round x k tree
  found_round nothing = refl
  found_round (more node text place parts next) =
      found_in_one (tied_by (stands_beside x.inner.design.scopes x.outer.region k node.declaration)) (or_else (found parts) (found next))
      ∙ ap (λ b. b || is_some (or_else (found parts) (found next)))
      (tied_where (stands_beside x.inner.design.scopes x.outer.region k node.declaration) ∙ stands node.declaration)
      ∙ ap (λ b. stands_round x k node.declaration || b)
      (found_in_one (found parts) (found next)
      ∙ ap (λ b. b || is_some (found next)) (found_round parts)
      ∙ ap (λ b. names_round x k parts || b) (found_round next))

  pub tied_by_search : (tied : Bool) (c : Class) (region : ℕ) (tree : Forest Resolved) → is_uninstantiated_function c ≡ true
      → region ≡ x.outer.region → tree ≡ x.inner.tree → tied ≡ is_some (first_found (tying_finder x.inner.design.scopes region k) tt tree) → tied ≡ is_tied x c k
  tied_by_search tied c region tree has_generics region_is tree_is searched =
      searched
      ∙ ap (λ r. is_some (first_found (tying_finder x.inner.design.scopes r k) tt tree)) region_is
      ∙ ap (λ t. is_some (found t)) tree_is ∙ found_round x.inner.tree
      ∙ ap (λ b. b && names_round x k x.inner.tree) (sym has_generics)
