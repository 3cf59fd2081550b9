-- What stands in a region, in the order in which it was entered.
use Rattle.std.specs.Prelude.{ℕ, suc, ◌==◌, Bool, true, false, List, [], ◌∷◌, length, if◌then◌else◌}
use Rattle.std.specs.List.{filter}
use Rattle.vd_declarations.specs.declared.classes.Class.{Class}
use Rattle.vd_declarations.specs.declared.classes.Class.TheVariants as class
use Rattle.vd_regions.specs.Scopes.{declaration_at}
use Rattle.vd_regions.specs.declared.entries.Entered.{Entered}
use Rattle.vd_name_rows.specs.Designs.{Design}
use Rattle.vd_name_rows.specs.declared.sorts.Sort.{Sort}
use Rattle.vd_name_rows.specs.declared.sorts.Sort.TheVariants as sort

-- the numbers of what stands in a region, where the first of these entries has this number
abbrev pub numbers_in : ℕ → ℕ → List Entered → List ℕ
numbers_in region k [] = []
numbers_in region k (e ∷ es) = if e.region == region then k ∷ numbers_in region (suc k) es else numbers_in region (suc k) es

abbrev pub is_of : Sort → Class → Bool
is_of sort.Any c = true
is_of sort.Generic class.GenericConstant = true
is_of sort.Generic class.GenericType = true
is_of sort.Generic class.GenericFunction = true
is_of sort.Parameter class.Parameter = true
is_of sort.Port class.Port = true
is_of sort.Element class.RecordElement = true
is_of sort.PlainFunction class.Function = true
is_of sort.WrittenFunction class.Function = true
is_of sort.WrittenFunction class.UninstantiatedFunction = true
is_of sort.WrittenPackage class.Package = true
is_of sort.WrittenPackage class.UninstantiatedPackage = true
is_of sort.Entity class.Entity = true
is_of _ _ = false

-- what stands in a region and is of a sort
abbrev pub declared_in : ℕ → Sort → Design → List ℕ
declared_in region s d = filter (λ k. is_of s (declaration_at d.scopes k).class) (numbers_in region 0 d.scopes.entered)

-- the numbers that the next declaration and region get
abbrev pub next_number : Design → ℕ
next_number d = length d.scopes.entered

abbrev pub next_region : Design → ℕ
next_region d = length d.scopes.regions
