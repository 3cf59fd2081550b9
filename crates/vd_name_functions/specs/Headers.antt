-- How the header of a body, from its first declaration up to the one behind it, is compared with those of declarations.
use Rattle.std.specs.Prelude.{ℕ, Bool, ◌&&◌, not, List, map, Option, Some, None}
use Rattle.std.specs.Str.{bytes_eq}
use Rattle.vd_declarations.specs.declared.declarations.Declaration.{Declaration}
use Rattle.vd_regions.specs.Homographs.{same_types, type_of}
use Rattle.vd_regions.specs.Scopes.{Scopes, declaration_at}
use Rattle.vd_name_rows.specs.declared.sorts.Sort.TheVariants as sort
use Rattle.vd_name_rows.specs.Designs.{Design}
use Rattle.vd_name_rows.specs.Members.{is_of}
use Rattle.vd_name_rows.specs.Noting.{has_body, span_at}
use Rattle.vd_naming.specs.Functions.{mark_as_in, same_header, first_that, functions_round}

-- two lists of parameters have the same types
abbrev pub same_types_as : (first end other : ℕ) → Scopes → List ℕ → List ℕ → Bool
same_types_as first end other s one two = same_types (map (mark_as_in first end other) (map (type_of s) one)) (map (type_of s) two)

-- the declaration has no body so far, and the same types
abbrev pub is_open_for : Design → (first end : ℕ) → Declaration → ℕ → Bool
is_open_for d first end body k = not (has_body d k) && same_header d first end (span_at d k).first body (declaration_at d.scopes k)

-- and the same name
abbrev pub is_open_by_name : Design → (first end : ℕ) → Declaration → ℕ → Bool
is_open_by_name d first end body k = bytes_eq (declaration_at d.scopes k).name body.name && is_open_for d first end body k

-- and it is a function that is written
abbrev pub is_open_function : Design → (first end : ℕ) → Declaration → ℕ → Bool
is_open_function d first end body k = is_of sort.WrittenFunction (declaration_at d.scopes k).class && is_open_for d first end body k

-- the first of a region that is a function and has the name
abbrev pub first_open : Design → (first end : ℕ) → Declaration → ℕ → Option ℕ
first_open d first end body region = first_that (is_open_by_name d first end body) (functions_round d region)

-- where there is a region
abbrev pub first_open_in : Design → (first end : ℕ) → Declaration → Option ℕ → Option ℕ
first_open_in d first end body None = None
first_open_in d first end body (Some region) = first_open d first end body region
