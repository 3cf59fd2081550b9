-- The elements of generic maps, gathered. No name has a dash, so that a caller can name each in `#[tactic(auto, using(..))]`.
use Rattle.std.proofs.Common.{◌≡◌, ℕ, zero, suc, Bool, true, false, not, ◌&&◌, if◌then◌else◌, List, [], ◌∷◌, ◌++◌, map, Option, Some, None, is_some, slice_index_or, append-nil, append_assoc, subst, refl, sym, ap, ap₂, ◌∙◌, arith}
use Rattle.vd_meaning.specs.Facets.{MapElement, nth}
use Rattle.vd_meaning.specs.Generics.{element_for, named_element, nth_element, or_placed, unless_named, unless_open}
use Rattle.vd_meaning.specs.Meanings.{meanings}
use Rattle.vd_meaning.specs.Tables.{Table, same_type}
use Rattle.vd_bytes.specs.declared.places.Place.{Place}
use Rattle.vd_forest.specs.Forest.{Forest, more}
use Rattle.vd_resolved.specs.declared.node.Resolved.{Resolved}
use Rattle.vd_name_rules.specs.Elements.{named_or_placed, or_named}

-- whether an element gives something to the generic at its place
abbrev pub is_placed : MapElement → Bool
is_placed x = not (is_some x.formal) && not x.is_open

-- whether the first element that names a generic is `open`
abbrev pub named_flag : ℕ → List MapElement → Option Bool
named_flag g [] = None
named_flag g (x ∷ xs) = if same_type x.formal (Some g) then Some x.is_open else named_flag g xs

abbrev pub or_flag : Option Bool → Option Bool → Option Bool
or_flag None other = other
or_flag (Some b) other = Some b

-- ---- what there is for a generic

placed_at : (k : ℕ) (xs : List MapElement) → is_some (unless_open (nth_element k xs)) ≡ slice_index_or (map is_placed xs) k false
placed_at k [] = refl
placed_at zero (x ∷ xs) = of_one (is_some x.formal) x.is_open x refl refl
  where
    of_one : (f o : Bool) (x : MapElement) → is_some x.formal ≡ f → x.is_open ≡ o → is_some (unless_open (unless_named x)) ≡ is_placed x
    of_one f o x isf iso = grind arith
placed_at (suc k) (x ∷ xs) = placed_at k xs

abbrev flag_of : Option MapElement → Option Bool
flag_of None = None
flag_of (Some x) = Some x.is_open

flag_found : (g : ℕ) (xs : List MapElement) → flag_of (named_element g xs) ≡ named_flag g xs
flag_found g [] = refl
flag_found g (x ∷ xs) = by_which (same_type x.formal (Some g)) (flag_found g xs)
  where
    by_which : (b : Bool) → flag_of (named_element g xs) ≡ named_flag g xs
        → flag_of (if b then Some x else named_element g xs) ≡ (if b then Some x.is_open else named_flag g xs)
    by_which true rest = refl
    by_which false rest = rest

either_way : (f other : Option MapElement) → is_some (unless_open (or_placed f other)) ≡ named_or_placed (flag_of f) (is_some (unless_open other))
either_way None other = refl
either_way (Some x) other = by_open x.is_open
  where
    by_open : (b : Bool) → is_some (if b then None else Some x) ≡ not b
    by_open true = refl
    by_open false = refl

-- by the number of the generic, or by its place
pub found_for : (k g : ℕ) (xs : List MapElement)
    → is_some (element_for k g xs) ≡ named_or_placed (named_flag g xs) (slice_index_or (map is_placed xs) k false)
found_for k g xs =
    either_way (named_element g xs) (nth_element k xs)
    ∙ ap₂ named_or_placed (flag_found g xs) (placed_at k xs)

-- ---- gathering

-- one more element that is named or placed
pub flag_more : (flag : Option Bool) (x : MapElement) (xs : List MapElement) (g : ℕ)
    → or_flag (or_named flag x.formal x.is_open g) (named_flag g xs) ≡ or_flag flag (named_flag g (x ∷ xs))
flag_more (Some b) x xs g = refl
flag_more None x xs g = by_which (same_type x.formal (Some g))
  where
    by_which : (b : Bool) → or_flag (if b then Some x.is_open else None) (named_flag g xs) ≡ (if b then Some x.is_open else named_flag g xs)
    by_which true = refl
    by_which false = refl

flag_alone : (flag : Option Bool) → or_flag flag None ≡ flag
flag_alone None = refl
flag_alone (Some b) = refl

-- where all is gathered
pub all_gathered : (named : ℕ → Option Bool) (placed : List Bool) (xs : List MapElement) (k g : ℕ)
    → placed ++ [] ≡ map is_placed xs → or_flag (named g) None ≡ named_flag g xs
    → named_or_placed (named g) (slice_index_or placed k false) ≡ is_some (element_for k g xs)
all_gathered named placed xs k g is_all is_flag =
    ap₂ named_or_placed (sym (flag_alone (named g)) ∙ is_flag) (ap (λ l. slice_index_or l k false) (sym (append-nil placed) ∙ is_all))
    ∙ sym (found_for k g xs)

-- one more of the elements
pub placed_more : (old later all : List Bool) (formal : Option ℕ) (is_open : Bool) (x : MapElement) (xs : List MapElement)
    → later ≡ old ++ (not (is_some formal) && not is_open) ∷ [] → formal ≡ x.formal → is_open ≡ x.is_open
    → old ++ map is_placed (x ∷ xs) ≡ all → later ++ map is_placed xs ≡ all
placed_more old later all formal is_open x xs is is_formal is_is_open before =
    ap (λ p. p ++ map is_placed xs) (is ∙ ap₂ (λ f o. old ++ (not (is_some f) && not o) ∷ []) is_formal is_is_open)
    ∙ append_assoc old (is_placed x ∷ []) (map is_placed xs) ∙ before

pub named_more : (old later all : Option Bool) (formal : Option ℕ) (is_open : Bool) (x : MapElement) (xs : List MapElement) (g : ℕ)
    → later ≡ or_named old formal is_open g → formal ≡ x.formal → is_open ≡ x.is_open
    → or_flag old (named_flag g (x ∷ xs)) ≡ all → or_flag later (named_flag g xs) ≡ all
named_more old later all formal is_open x xs g is is_formal is_is_open before =
    ap (λ p. or_flag p (named_flag g xs)) (is ∙ ap₂ (λ f o. or_named old f o g) is_formal is_is_open) ∙ flag_more old x xs g ∙ before

-- the first tree and those behind it
pub first_and_rest : (t : Table) (f : Forest Resolved) (n : Resolved) (text : List ℕ) (place : Place) (parts next : Forest Resolved)
    → f ≡ more n text place parts next → meanings t f ≡ nth 0 (meanings t f) ∷ meanings t next
first_and_rest t f n text place parts next is =
    let P : Forest Resolved → Type 0 = λ g. meanings t g ≡ nth 0 (meanings t g) ∷ meanings t next in
    let at : P (more n text place parts next) = refl in subst P (sym is) at
