-- Which declarations of one name may stand beside one another. (IEEE 1076, visibility: homographs; subprogram overloading: profiles)
use Rattle.std.specs.Prelude.{ℕ, ◌==◌, nat_lt, Bool, true, false, ◌&&◌, ◌||◌, not, List, [], ◌∷◌, map, position, Option, Some, None}
use Rattle.std.specs.List.{list_any}
use Rattle.vd_declarations.specs.declared.classes.Class.{Class}
use Rattle.vd_declarations.specs.declared.declarations.Declaration.{Declaration}
use Rattle.vd_declarations.specs.Classes.{is_overloadable, is_function, is_predefined, is_copy, library_of}
use Rattle.vd_regions.specs.declared.entries.Entered.{Entered}
use Rattle.vd_regions.specs.Scopes.{Scopes, declaration_at, stands_in, continued}

-- ---- profiles: the types of the parameters, and that of the result

abbrev pub same_type : Option ℕ → Option ℕ → Bool
same_type None None = true
same_type None (Some u) = false
same_type (Some t) None = false
same_type (Some t) (Some u) = t == u

abbrev pub same_types : List (Option ℕ) → List (Option ℕ) → Bool
same_types [] [] = true
same_types [] (u ∷ us) = false
same_types (t ∷ ts) [] = false
same_types (t ∷ ts) (u ∷ us) = same_type t u && same_types ts us

abbrev pub type_of : Scopes → ℕ → Option ℕ
type_of s k = (declaration_at s k).mark

abbrev pub parameter_types : Scopes → Declaration → List (Option ℕ)
parameter_types s d = map (type_of s) d.parameters

abbrev pub same_profile : Scopes → Declaration → Declaration → Bool
same_profile s d e = same_type d.mark e.mark && same_types (parameter_types s d) (parameter_types s e)

-- both are overloadable, and their profiles differ
abbrev pub apart : Scopes → Declaration → Declaration → Bool
apart s d e = is_overloadable d.class && (is_overloadable e.class && not (same_profile s d e))

-- ---- in one region

-- A function of a user that stands in the region of a predefined operator with its name and profile takes the operator's place there.
abbrev pub takes_place_of : Class → Class → Bool
takes_place_of new old = is_function new && is_predefined old

-- Functions of a package instance may get equal profiles by the instance's types, and stand side by side then.
abbrev pub are_copies : Class → Class → Bool
are_copies new old = is_copy new && is_copy old

-- Several library clauses of one context may name one library.
abbrev pub are_one : Option ℕ → Option ℕ → Bool
are_one (Some l) (Some m) = l == m
are_one None other = false
are_one (Some l) None = false

abbrev pub name_one_library : Class → Class → Bool
name_one_library new old = are_one (library_of new) (library_of old)

-- two declarations of one name may stand in one region: they are apart, or the new one takes the place of an operator that a type
-- brought with it, or both are functions of an instance whose profiles became equal, or both name one library
abbrev pub may_stand_beside : Scopes → Declaration → Declaration → Bool
may_stand_beside s old new =
    apart s old new || (takes_place_of new.class old.class || (are_copies new.class old.class || name_one_library new.class old.class))

-- an earlier declaration of the region, or of what it continues, beside which the new one may not stand
abbrev pub clashes : Scopes → ℕ → Declaration → Entered → Bool
clashes s region new e =
    list_any (λ r. stands_in r new.name e) (region ∷ continued s region) && not (may_stand_beside s e.declaration new)

-- the first such declaration
abbrev pub homograph : Scopes → ℕ → Declaration → Option ℕ
homograph s region new = position (clashes s region new) s.entered

-- a declaration j that stands where the operator k stands takes its place: it is a function with the same profile
abbrev pub replaces : Scopes → ℕ → ℕ → Bool
replaces s j k =
    takes_place_of (declaration_at s j).class (declaration_at s k).class && (nat_lt k j && same_profile s (declaration_at s k) (declaration_at s j))
