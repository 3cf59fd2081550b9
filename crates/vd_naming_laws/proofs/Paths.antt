-- What selected names mean is declared.
use Rattle.std.proofs.Common.{◌<◌, ◌+◌, ℕ, suc, Bool, true, false, List, [], ◌∷◌, length, Option, Some, None, arith, if◌then◌else◌, ◌==◌}
use Rattle.std.specs.List.{AllByRecursion, filter}
use Rattle.vd_forest.specs.Forest.{Forest, nothing, more}
use Rattle.vd_forms.specs.declared.form.Form.{Form}
use Rattle.vd_resolved.specs.Validity.{OnSome}
use Rattle.vd_visible.specs.declared.roles.Role.{Role}
use Rattle.vd_visible.specs.declared.roles.Role.TheVariants as role
use Rattle.vd_visible.specs.Kinds.{kind_of, role_of}
use Rattle.vd_visible.specs.Sights.{Standpoint, sight_from, class_of}
use Rattle.vd_ways.specs.Ways.{selected_name}
use Rattle.vd_name_rows.specs.Designs.{Design}
use Rattle.vd_name_rows.specs.declared.sorts.Sort.{Sort}
use Rattle.vd_name_rows.specs.Members.{numbers_in, declared_in}
use Rattle.vd_naming.specs.Selected.{Meant, Means, Breaks, some_or, selected_of, selected_under, meant_behind}
use Rattle.vd_naming.specs.Paths.{meant_by, path_meant, one_that, mark_meant}
use Rattle.vd_naming.specs.Units.{first_of, found_in, found_inside, is_named}
use Rattle.vd_naming.specs.Expressions.{type_declared}
use Rattle.vd_naming_laws.specs.Numbers.{IsSound}
use Rattle.vd_naming_laws.proofs.Lists.{list_if, all_filter, all_weaker}
use Rattle.vd_naming_laws.proofs.Growth.{Entries, Own, Typed}
use Rattle.vd_naming_laws.proofs.Sights.{seen_own, behind_own, meant_type}

abbrev pub MeantIs : Entries → Meant → Type 0
MeantIs es (Means ks) = AllByRecursion (Own es) ks
MeantIs es (Breaks rule) = Unit {0}

pub some_or_is : (es : Entries) (rule : ℕ) (ks : List ℕ) → AllByRecursion (Own es) ks → MeantIs es (some_or rule ks)
some_or_is es rule [] own = tt
some_or_is es rule (k ∷ ks) own = own

some_if : (P : ℕ → Type 0) (b : Bool) (k : ℕ) → P k → OnSome P (if b then Some k else None)
some_if P true k is = is
some_if P false k is = tt

pub one_is : (es : Entries) (fits : ℕ → Bool) (m : Meant) → MeantIs es m → OnSome (Own es) (one_that fits m)
one_is es fits (Breaks rule) is = tt
one_is es fits (Means []) is = tt
one_is es fits (Means (k ∷ [])) is = some_if (Own es) (fits k) k is.0
one_is es fits (Means (k ∷ j ∷ ks)) is = tt

module _ (p : Standpoint) (sound : IsSound p.scopes) where
  abbrev es : Entries
  es = p.scopes.entered

  of_role : (r : Role) (k : ℕ) (name : List ℕ) → MeantIs es (selected_of r (sight_from p) k name)
  of_role role.Unit k name = some_or_is es _ ((sight_from p).selected k name) (behind_own p sound k name)
  of_role _ k name = tt

  under_is : (ks : List ℕ) (name : Option (List ℕ)) → MeantIs es (selected_under (sight_from p) ks name)
  under_is ks None = tt
  under_is [] (Some name) = tt
  under_is (k ∷ []) (Some name) = of_role (role_of (class_of (sight_from p) k)) k name
  under_is (k ∷ j ∷ ks) (Some name) = tt

  pub behind_is : (m : Meant) (name : Option (List ℕ)) → MeantIs es (meant_behind (sight_from p) m name)
  behind_is (Breaks rule) name = tt
  behind_is (Means ks) name = under_is ks name

  by_is : (m : Meant) (pieces : Forest Form) → MeantIs es m → MeantIs es (meant_by (sight_from p) m pieces)
  by_is m nothing is = is
  by_is m (more f text place parts next) is =
      by_is (meant_behind (sight_from p) m (selected_name (kind_of f) text)) next (behind_is m (selected_name (kind_of f) text))

  pub path_is : (pieces : Forest Form) → MeantIs es (path_meant (sight_from p) pieces)
  path_is nothing = tt
  path_is (more f text place parts next) =
      by_is (some_or 303 ((sight_from p).visible text)) next (some_or_is es 303 ((sight_from p).visible text) (seen_own p sound text))

  pub mark_is : (k : Option ℕ) → OnSome (Typed es) (mark_meant (sight_from p) k)
  mark_is None = tt
  mark_is (Some k) = meant_type p sound k

  pub type_is : (k : Option ℕ) → OnSome (Typed es) (type_declared (sight_from p) k)
  type_is None = tt
  type_is (Some k) = meant_type p sound k

-- ---- what stands in a region

numbers_within : (region base : ℕ) (es : Entries) → AllByRecursion (λ k. k < base + length es) (numbers_in region base es)
numbers_within region base [] = tt
numbers_within region base (e ∷ es) =
    let rest = wider (numbers_in region (suc base) es) (numbers_within region (suc base) es) in
    list_if (λ k. k < base + length (e ∷ es)) (e.region == region) (base ∷ numbers_in region (suc base) es) (numbers_in region (suc base) es) (omega arith, rest) rest
  where
    wider : (ks : List ℕ) → AllByRecursion (λ k. k < suc base + length es) ks → AllByRecursion (λ k. k < base + suc (length es)) ks
    wider [] are = tt
    wider (k ∷ ks) are = (let h = are.0 in omega (arith, h), wider ks are.1)

pub members_own : (region : ℕ) (s : Sort) (d : Design) → AllByRecursion (Own d.scopes.entered) (declared_in region s d)
members_own region s d =
    all_filter (Own d.scopes.entered) _ (numbers_in region 0 d.scopes.entered)
    (all_weaker (λ k. k < 0 + length d.scopes.entered) (Own d.scopes.entered) (λ k h. omega (arith, h)) (numbers_in region 0 d.scopes.entered) (numbers_within region 0 d.scopes.entered))

pub first_own : (fs : Entries) (ks : List ℕ) → AllByRecursion (Own fs) ks → OnSome (Own fs) (first_of ks)
first_own fs [] own = tt
first_own fs (k ∷ ks) own = own.0

pub found_own : (region : ℕ) (s : Sort) (name : List ℕ) (d : Design) → OnSome (Own d.scopes.entered) (found_in region s name d)
found_own region s name d =
    first_own d.scopes.entered (filter (is_named d name) (declared_in region s d)) (all_filter (Own d.scopes.entered) (is_named d name) (declared_in region s d) (members_own region s d))

pub inside_own : (region : Option ℕ) (s : Sort) (name : List ℕ) (d : Design) → OnSome (Own d.scopes.entered) (found_inside region s name d)
inside_own None s name d = tt
inside_own (Some region) s name d = found_own region s name d
