-- The lists in which the code gathers what is visible. What is visible is defined apart from these, in Visible.
use Rattle.std.specs.Prelude.{ℕ, zero, suc, ◌==◌, Bool, ◌&&◌, not, List, [], ◌∷◌, ◌++◌, length, Option, Some, None, true, false, if◌then◌else◌, slice_index_or, position, min}
use Rattle.std.specs.List.{filter, flat_map, list_all, list_any}
use Rattle.std.specs.Str.{bytes_eq}
use Rattle.vd_declarations.specs.declared.declarations.Declaration.{Declaration}
use Rattle.vd_declarations.specs.declared.classes.Class.{Class}
use Rattle.vd_declarations.specs.declared.classes.Class.TheVariants as class
use Rattle.vd_declarations.specs.Classes.{is_overloadable, is_function}
use Rattle.vd_regions.specs.declared.entries.Entered.{Entered}
use Rattle.vd_regions.specs.Scopes.{Scopes, Clause, nothing_entered, region_at, declaration_at, stands_in, chain}
use Rattle.vd_regions.specs.Homographs.{apart, replaces, may_stand_beside}

-- ---- homographs

-- the first declaration of one region beside which a new one may not stand
abbrev pub clashes_in : Scopes → ℕ → Declaration → Entered → Bool
clashes_in s region new e = stands_in region new.name e && not (may_stand_beside s e.declaration new)

abbrev pub first_in : Scopes → ℕ → Declaration → Option ℕ
first_in s region new = position (clashes_in s region new) s.entered

abbrev pub earlier : Option ℕ → Option ℕ → Option ℕ
earlier None other = other
earlier (Some m) None = Some m
earlier (Some m) (Some n) = Some (min m n)

-- ---- what a region declares

-- of the first k entered those that pass a test, the newest first
abbrev pub entered_below : (Entered → Bool) → List Entered → ℕ → List ℕ
entered_below test es zero = []
entered_below test es (suc k) =
    if test (slice_index_or es k nothing_entered) then k ∷ entered_below test es k else entered_below test es k

abbrev pub entered_in : Scopes → ℕ → List ℕ → List ℕ
entered_in s region name = entered_below (stands_in region name) s.entered (length s.entered)

-- none of these takes its place
abbrev pub in_place : Scopes → List ℕ → ℕ → Bool
in_place s ks k = not (list_any (λ j. replaces s j k) ks)

-- the functions among these
abbrev pub functions_of : Scopes → List ℕ → List ℕ
functions_of s ks = filter (λ k. is_function (declaration_at s k).class) ks

abbrev pub declared_of : Scopes → List ℕ → List ℕ
declared_of s ks = filter (in_place s ks) ks

abbrev pub declared_in : Scopes → List ℕ → ℕ → List ℕ
declared_in s name region = declared_of s (entered_in s region name)

-- ---- directly

-- what the regions of a chain declare
abbrev pub round : Scopes → List ℕ → List ℕ → List ℕ
round s name regions = flat_map (declared_in s name) regions

-- may stand beside each of these
abbrev pub apart_from : Scopes → List ℕ → ℕ → Bool
apart_from s others k = list_all (λ j. apart s (declaration_at s k) (declaration_at s j)) others

-- those that no inner declaration hides, where `inner` are the inner ones already passed
abbrev pub direct_from : Scopes → List ℕ → List ℕ → List ℕ → List ℕ
direct_from s name inner [] = []
direct_from s name inner (r ∷ regions) =
    filter (apart_from s inner) (declared_in s name r) ++ direct_from s name (inner ++ declared_in s name r) regions

-- ---- by use

abbrev pub means : Option (List ℕ) → List ℕ → Bool
means None name = true
means (Some own) name = bytes_eq own name

abbrev pub given_by : Scopes → List ℕ → Clause → List ℕ
given_by s name clause = if (region_at s clause.from).closed && means clause.name name then declared_in s name clause.from else []

abbrev pub given : Scopes → List ℕ → List ℕ → List ℕ
given s name regions = flat_map (λ r. flat_map (given_by s name) (region_at s r).uses) regions

-- a clause gives a name of a region, closed or not
abbrev pub gives_name : List ℕ → ℕ → Clause → Bool
gives_name name from clause = (clause.from == from) && means clause.name name

abbrev pub is_given_by : List Clause → List ℕ → ℕ → Bool
is_given_by clauses name from = list_any (gives_name name from) clauses

-- a clause of one of these regions does
abbrev pub is_given : Scopes → (name regions : List ℕ) → ℕ → Bool
is_given s name regions from = list_any (λ r. is_given_by (region_at s r).uses name from) regions

-- what clauses of these regions give of what another declares
abbrev pub given_from : Scopes → (name regions : List ℕ) → ℕ → List ℕ
given_from s name regions from = if (region_at s from).closed && is_given s name regions from then declared_in s name from else []

-- the same of several other regions
abbrev pub given_among : Scopes → (name regions froms : List ℕ) → List ℕ
given_among s name regions froms = flat_map (given_from s name regions) froms

-- of all that clauses give, each is the same declaration or overloadable as it is itself
abbrev pub is_alone : Scopes → List ℕ → ℕ → Bool
is_alone s ks k =
    if is_overloadable (declaration_at s k).class then list_all (λ j. is_overloadable (declaration_at s j).class) ks
    else list_all (λ j. j == k) ks

abbrev pub by_use_among : Scopes → (around ks : List ℕ) → List ℕ
by_use_among s around ks = filter (λ k. apart_from s around k && is_alone s ks k) ks

-- ---- by a selected name

-- what a region declares can be selected by a name whose prefix is of this class
abbrev pub opens : Scopes → (place inside : ℕ) → Class → Bool
opens s place inside class.Library = true
opens s place inside class.Package = (region_at s inside).closed
opens s place inside class.UninstantiatedPackage = (region_at s inside).closed
opens s place inside class.PackageInstance = (region_at s inside).closed
opens s place inside class.RecordType = (region_at s inside).closed
opens s place inside class.Entity = (region_at s inside).closed && list_any (λ r. r == inside) (chain s place)
opens s place inside _ = false

abbrev pub selected_in : Scopes → ℕ → List ℕ → Class → Option ℕ → List ℕ
selected_in s place name c None = []
selected_in s place name c (Some inside) = if opens s place inside c then declared_in s name inside else []

abbrev pub selected_from : Scopes → (place prefix : ℕ) → List ℕ → List ℕ
selected_from s place prefix name = selected_in s place name (declaration_at s prefix).class (declaration_at s prefix).inside
