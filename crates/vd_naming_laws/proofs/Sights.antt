-- What names mean at a place is declared, and types that are found are types.
use Rattle.std.proofs.Common.{◌≡◌, ◌<◌, ◌≤◌, ◌==◌, nat_lt, ℕ, zero, suc, Bool, true, false, List, [], ◌∷◌, ◌++◌, map, length, Option, Some, None, refl, ap, ◌∙◌, arith, if◌then◌else◌, slice_index_or}
use Rattle.std.specs.List.{AllByRecursion, filter, flat_map}
use Rattle.std.specs.Option.{option_or, unwrap_or}
use Rattle.std.specs.Str.{is_utf8}
use Rattle.vd_declarations.specs.Classes.{is_type, meaning, named_by}
use Rattle.vd_declarations.specs.declared.classes.Class.{Class}
use Rattle.vd_declarations.specs.declared.classes.Class.TheVariants as class
use Rattle.vd_regions.specs.declared.entries.Entered.{Entered}
use Rattle.vd_regions.specs.Scopes.{Scopes, Clause, region_at, declaration_at, stands_in, meant, chain, nothing_entered}
use Rattle.vd_regions.specs.Found.{entered_below, entered_in, in_place, declared_in, round, apart_from, direct_from, given_by, given, by_use_among, opens, selected_in, selected_from}
use Rattle.vd_regions.specs.InOrder.{put_once, in_order, visible_entries, visible_in, selected_in_order}
use Rattle.vd_resolved.specs.Validity.{OnSome}
use Rattle.vd_visible.specs.Sights.{Standpoint, sight_from, class_of, is_port, oldest_port, port_in, visible_from, port_or}
use Rattle.vd_visible.specs.Types.{all_types, numbers_below, type_named, type_meant, sources_of, sources, common_type}
use Rattle.vd_naming_laws.specs.Numbers.{IsDeclared, IsTypeIn, IsSound}
use Rattle.vd_naming_laws.proofs.Lists.{OnOption, some_if, list_if, all_of, all_append, all_map, all_filter, filter_passes, all_flat_map}

-- ---- in order

all_put_once : (P : ℕ → Type 0) (n : ℕ) (ms : List ℕ) → P n → AllByRecursion P ms → AllByRecursion P (put_once n ms)
all_put_once P n [] p ps = (p, tt)
all_put_once P n (m ∷ ms) p ps =
    list_if P (n == m) (m ∷ ms) _ ps (list_if P (nat_lt n m) (n ∷ (m ∷ ms)) (m ∷ put_once n ms) (p, ps) (ps.0, all_put_once P n ms p ps.1))

all_in_order : (P : ℕ → Type 0) (ns : List ℕ) → AllByRecursion P ns → AllByRecursion P (in_order ns)
all_in_order P [] p = tt
all_in_order P (n ∷ ns) p = all_put_once P n (in_order ns) p.0 (all_in_order P ns p.1)

-- ---- what regions declare

below_within : (test : Entered → Bool) (es : List Entered) (n k : ℕ) → k ≤ n → AllByRecursion (λ j. j < n) (entered_below test es k)
below_within test es n zero h = tt
below_within test es n (suc k) h =
    list_if (λ j. j < n) (test (slice_index_or es k nothing_entered)) (k ∷ entered_below test es k) (entered_below test es k)
    (omega (arith, h), below_within test es n k (omega (arith, h))) (below_within test es n k (omega (arith, h)))

module _ (s : Scopes) where
  entered_own : (region : ℕ) (name : List ℕ) → AllByRecursion (IsDeclared s) (entered_in s region name)
  entered_own region name = below_within (stands_in region name) s.entered (length s.entered) (length s.entered) (omega arith)

  declared_own : (name : List ℕ) (region : ℕ) → AllByRecursion (IsDeclared s) (declared_in s name region)
  declared_own name region = all_filter (IsDeclared s) (in_place s (entered_in s region name)) (entered_in s region name) (entered_own region name)

  direct_own : (name inner regions : List ℕ) → AllByRecursion (IsDeclared s) (direct_from s name inner regions)
  direct_own name inner [] = tt
  direct_own name inner (r ∷ regions) =
      all_append (IsDeclared s) (filter (apart_from s inner) (declared_in s name r)) (direct_from s name (inner ++ declared_in s name r) regions)
      (all_filter (IsDeclared s) (apart_from s inner) (declared_in s name r) (declared_own name r)) (direct_own name (inner ++ declared_in s name r) regions)

  given_by_own : (name : List ℕ) (clause : Clause) → AllByRecursion (IsDeclared s) (given_by s name clause)
  given_by_own name clause = list_if (IsDeclared s) _ (declared_in s name clause.from) [] (declared_own name clause.from) tt

  given_own : (name regions : List ℕ) → AllByRecursion (IsDeclared s) (given s name regions)
  given_own name regions =
      all_flat_map (λ r. flat_map (given_by s name) (region_at s r).uses) (λ r. Unit {0}) (IsDeclared s)
      (λ r u. all_flat_map (given_by s name) (λ c. Unit {0}) (IsDeclared s) (λ c v. given_by_own name c) (region_at s r).uses (all_of (λ c. Unit {0}) (λ c. tt) (region_at s r).uses))
      regions (all_of (λ r. Unit {0}) (λ r. tt) regions)

  entries_own : (region : ℕ) (name : List ℕ) → AllByRecursion (IsDeclared s) (visible_entries s region name)
  entries_own region name =
      all_append (IsDeclared s) (direct_from s name [] (chain s region)) (by_use_among s (round s name (chain s region)) (given s name (chain s region)))
      (direct_own name [] (chain s region)) (all_filter (IsDeclared s) _ (given s name (chain s region)) (given_own name (chain s region)))

  selected_by_own : (place : ℕ) (name : List ℕ) (c : Class) (inside : Option ℕ) → AllByRecursion (IsDeclared s) (selected_in s place name c inside)
  selected_by_own place name c None = tt
  selected_by_own place name c (Some inside) = list_if (IsDeclared s) (opens s place inside c) (declared_in s name inside) [] (declared_own name inside) tt

  -- ---- what they mean

  module _ (sound : IsSound s) where
    meaning_own : (k : ℕ) (c : Class) → IsDeclared s k → AllByRecursion (IsDeclared s) (named_by c) → IsDeclared s (unwrap_or (meaning c) k)
    meaning_own k (class.LibraryName library) own named = named.0
    meaning_own k (class.ActualFunction actual) own named = named.0
    meaning_own k _ own named = own

    meant_own : (k : ℕ) → IsDeclared s k → IsDeclared s (meant s k)
    meant_own k own = meaning_own k (declaration_at s k).class own (sound.named k)

    pub visible_own : (region : ℕ) (name : List ℕ) → AllByRecursion (IsDeclared s) (visible_in s region name)
    unfolding visible_in
    visible_own region name =
        all_in_order (IsDeclared s) (map (meant s) (visible_entries s region name))
        (all_map (meant s) (IsDeclared s) (IsDeclared s) meant_own (visible_entries s region name) (entries_own region name))

    pub selected_own : (place prefix : ℕ) (name : List ℕ) → AllByRecursion (IsDeclared s) (selected_in_order s place prefix name)
    unfolding selected_in_order
    selected_own place prefix name =
        all_in_order (IsDeclared s) (map (meant s) (selected_from s place prefix name))
        (all_map (meant s) (IsDeclared s) (IsDeclared s) meant_own (selected_from s place prefix name)
        (selected_by_own place name (declaration_at s prefix).class (declaration_at s prefix).inside))

  -- ---- ports

  oldest_own : (ks : List ℕ) → AllByRecursion (IsDeclared s) ks → OnOption (IsDeclared s) (oldest_port s ks)
  oldest_own [] own = tt
  oldest_own (k ∷ older) own = or_own (oldest_port s older) _ (oldest_own older own.1) (some_if (IsDeclared s) (is_port (declaration_at s k).class) k (λ e. own.0))
    where
      or_own : (a b : Option ℕ) → OnOption (IsDeclared s) a → OnOption (IsDeclared s) b → OnOption (IsDeclared s) (option_or a b)
      or_own None b p q = q
      or_own (Some a) b p q = p

  pub port_own : (region : Option ℕ) (name : List ℕ) → OnOption (IsDeclared s) (port_in s region name)
  port_own None name = tt
  port_own (Some region) name = oldest_own (entered_in s region name) (entered_own region name)

port_or_own : (P : ℕ → Type 0) (port : Option ℕ) (others : List ℕ) → OnOption P port → AllByRecursion P others → AllByRecursion P (port_or port others)
port_or_own P None others p ps = ps
port_or_own P (Some port) others p ps = (p, tt)

-- ---- at a place

module _ (p : Standpoint) (sound : IsSound p.scopes) where
  pub seen_own : (name : List ℕ) → AllByRecursion (IsDeclared p.scopes) ((sight_from p).visible name)
  seen_own name =
      port_or_own (IsDeclared p.scopes) (port_in p.scopes p.ports name) (visible_from p name) (port_own p.scopes p.ports name)
      (list_if (IsDeclared p.scopes) (is_utf8 name) (visible_in p.scopes p.region name) [] (visible_own p.scopes sound p.region name) tt)

  pub behind_own : (prefix : ℕ) (name : List ℕ) → AllByRecursion (IsDeclared p.scopes) ((sight_from p).selected prefix name)
  behind_own prefix name =
      list_if (IsDeclared p.scopes) (is_utf8 name) (selected_in_order p.scopes p.region prefix name) [] (selected_own p.scopes sound p.region prefix name) tt

  -- ---- types

  pub all_are_types : AllByRecursion (IsTypeIn p.scopes) (all_types (sight_from p))
  all_are_types = filter_passes (λ k. is_type (class_of (sight_from p) k)) (numbers_below (sight_from p).count)

  named_type : (k : ℕ) (c : Class) → (declaration_at p.scopes k).class ≡ c → OnSome (IsTypeIn p.scopes) (type_named (sight_from p) k c)
  named_type k (class.Subtype mark) e = sound.marks k
  named_type k c e = some_type (is_type c) (λ h. ap is_type e ∙ h)
    where
      some_type : (b : Bool) → (b ≡ true → IsTypeIn p.scopes k) → OnSome (IsTypeIn p.scopes) (if b then Some k else None)
      some_type true f = f refl
      some_type false f = tt

  pub meant_type : (k : ℕ) → OnSome (IsTypeIn p.scopes) (type_meant (sight_from p) k)
  meant_type k = named_type k (class_of (sight_from p) k) refl

  sources_by : (t : ℕ) (c : Class) → IsTypeIn p.scopes t → AllByRecursion (IsTypeIn p.scopes) (sources_of (sight_from p) t c)
  sources_by t (class.ArrayType index element mark) is = all_filter (IsTypeIn p.scopes) _ (all_types (sight_from p)) all_are_types
  sources_by t _ is = (is, tt)

  pub sources_types : (t : ℕ) → IsTypeIn p.scopes t → AllByRecursion (IsTypeIn p.scopes) (sources (sight_from p) t)
  sources_types t is = sources_by t (class_of (sight_from p) t) is

-- the type that some have in common is one of theirs
pub common_one : (P : ℕ → Type 0) (marks : List (Option ℕ)) → AllByRecursion (OnSome P) marks → OnSome P (common_type marks)
common_one P [] ps = tt
common_one P (None ∷ marks) ps = tt
common_one P (Some t ∷ marks) ps = some_same _ ps.0
  where
    some_same : (b : Bool) → P t → OnSome P (if b then Some t else None)
    some_same true p = p
    some_same false p = tt
