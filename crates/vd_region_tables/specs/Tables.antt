-- The tables as functions of their keys.
use Rattle.std.specs.Prelude.{◌≡◌, ℕ, ◌==◌, nat_eq, Bool, ◌&&◌, ◌||◌, List, [], Option, Some, None, if◌then◌else◌}
use Rattle.std.specs.Bool.{beq}
use Rattle.std.specs.Option.{option_eq, option_map_or, unwrap_or}
use Rattle.std.specs.Str.{bytes_eq}
use lib.Pointwise.{pointwise}
use Rattle.indexmap.specs.IndexMap.{get}
use Rattle.indexmap.specs.IndexSet.{contains}
use Rattle.vd_region_tables.specs.declared.keys.Key.{Key}
use Rattle.vd_region_tables.specs.declared.keys.Name.{Name}
use Rattle.vd_region_tables.specs.declared.keys.Sort.{Sort}
use Rattle.vd_region_tables.specs.declared.firsts.Firsts.{Firsts}
use Rattle.vd_region_tables.specs.declared.homes.Homes.{Homes}
use Rattle.vd_region_tables.specs.declared.used.Used.{Used}

-- as the derived comparison of keys
abbrev pub same_key : Key → Key → Bool
same_key a b = (a.region == b.region) && bytes_eq a.name.items b.name.items

-- as the derived comparison of names
abbrev pub same_name : Name → Name → Bool
same_name a b = bytes_eq a.bytes.items b.bytes.items

-- as the derived comparison of sorts
abbrev pub same_sort : Sort → Sort → Bool
same_sort a b =
    (a.region == b.region) && (bytes_eq a.name.items b.name.items
    && (beq a.predefined b.predefined && (beq a.copy b.copy && pointwise (option_eq nat_eq) a.profile.items b.profile.items)))

-- the regions that are kept for a name
abbrev pub homes_of : Homes → Name → List ℕ
homes_of homes name = option_map_or (λ regions. regions.items) (get same_name homes.map name) []

-- the first declaration of a sort
abbrev pub first_of : Firsts → Sort → Option ℕ
first_of firsts sort = get same_sort firsts.map sort

-- a declaration more of a sort, or of none
abbrev pub AddsFirst : (old new : Sort → Option ℕ) → Option Sort → ℕ → Type 0
AddsFirst old new None id = (q : Sort) → new q ≡ old q
AddsFirst old new (Some own) id = (q : Sort) → new q ≡ (if same_sort own q then Some (unwrap_or (old own) id) else old q)

-- all names of its region are given, or this one is
abbrev pub is_used : Used → Key → Bool
is_used used key = contains nat_eq used.all key.region || contains same_key used.single key
