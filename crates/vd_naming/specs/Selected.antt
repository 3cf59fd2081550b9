-- What a selected name means: some declarations, or the rule that it breaks. (IEEE 1076, selected names; visibility)
use Rattle.std.specs.Prelude.{ℕ, ◌==◌, Bool, true, false, ◌&&◌, not, List, [], ◌∷◌, Option, Some, None}
use Rattle.std.specs.List.{list_any}
use Rattle.vd_declarations.specs.declared.classes.Class.{Class}
use Rattle.vd_declarations.specs.declared.classes.Class.TheVariants as class
use Rattle.vd_refusals.specs.Seen.{missing_in}
use Rattle.vd_regions.specs.Scopes.{Scopes, chain, declaration_at}
use Rattle.vd_visible.specs.declared.roles.Role.{Role}
use Rattle.vd_visible.specs.declared.roles.Role.TheVariants as role
use Rattle.vd_visible.specs.Kinds.{role_of}
use Rattle.vd_visible.specs.Sights.{Sight, class_of}

pub data Meant : Type 0 where
  Means : (declarations : List ℕ) → Meant
  Breaks : (rule : ℕ) → Meant

abbrev pub some_or : ℕ → List ℕ → Meant
some_or rule [] = Breaks rule
some_or rule (k ∷ ks) = Means (k ∷ ks)

-- behind a unit what it declares, and behind anything else nothing can stand
abbrev pub selected_of : Role → Sight → ℕ → List ℕ → Meant
selected_of role.Unit s k name = some_or (missing_in (class_of s k)) (s.selected k name)
selected_of _ s k name = Breaks 307

-- `all` declares nothing
abbrev pub selected_under : Sight → List ℕ → Option (List ℕ) → Meant
selected_under s ks None = Breaks 303
selected_under s (k ∷ []) (Some name) = selected_of (role_of (class_of s k)) s k name
selected_under s _ (Some name) = Breaks 307

abbrev pub meant_behind : Sight → Meant → Option (List ℕ) → Meant
meant_behind s (Breaks rule) name = Breaks rule
meant_behind s (Means ks) name = selected_under s ks name

-- ---- packages with generics, which are named in themselves and their bodies alone

-- the region of the place stands in it
abbrev pub is_inside : Scopes → ℕ → Option ℕ → Bool
is_inside s region None = false
is_inside s region (Some inside) = list_any (λ r. r == inside) (chain s region)

abbrev pub is_uninstantiated : Class → Bool
is_uninstantiated class.UninstantiatedPackage = true
is_uninstantiated _ = false

abbrev pub is_outside : Scopes → ℕ → ℕ → Bool
is_outside s region k = is_uninstantiated (declaration_at s k).class && not (is_inside s region (declaration_at s k).inside)

abbrev pub means_outside : Scopes → ℕ → Meant → Bool
means_outside s region (Means ks) = list_any (is_outside s region) ks
means_outside s region (Breaks rule) = false
