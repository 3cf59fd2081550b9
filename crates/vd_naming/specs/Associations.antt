-- The elements of a generic map: the generic that each is for, and its actual. (IEEE 1076, association lists; generic map aspects)
use Rattle.std.specs.Prelude.{ℕ, ◌==◌, Bool, true, false, ◌&&◌, not, List, [], ◌∷◌, drop, Option, Some, None, if◌then◌else◌}
use Rattle.std.specs.List.{list_all, list_any}
use Rattle.vd_bytes.specs.declared.places.Place.{Place}
use Rattle.vd_forest.specs.Forest.{Forest, nothing, more, parts_of, next_of, with_next}
use Rattle.vd_forms.specs.declared.form.Form.{Form}
use Rattle.vd_forms.specs.declared.form.Form.TheVariants as form
use Rattle.vd_visible.specs.Lists.{simple_name}
use Rattle.vd_ways.specs.Ways.{symbol_name}
use Rattle.vd_name_rows.specs.Designs.{Design}
use Rattle.vd_name_rows.specs.declared.sorts.Sort.TheVariants as sort
use Rattle.vd_naming.specs.Paths.{is_some}
use Rattle.vd_naming.specs.Units.{first_of, found_inside, region_inside}
use Rattle.vd_naming.specs.Statements.{alone}

-- An element of a map: where it stands, the generic that it is for, and what stands there for it. There is no such generic where the map's has none of the
-- name or place, in which case it isn't known, and where an element in front is for it already.
pub record Element : Type 0 where
  pub place : Place
  pub generic : Option ℕ
  pub is_known : Bool
  pub actual : Forest Form

-- ---- the name of a generic in front of `=>`

abbrev pub designator : Form → List ℕ → Forest Form → Option (List ℕ)
designator form.Quoted text parts = Some (symbol_name text)
designator f text parts = simple_name f parts

abbrev pub only_designator : Forest Form → Option (List ℕ)
only_designator nothing = None
only_designator (more f text place parts nothing) = designator f text parts
only_designator (more f text place parts (more f' text' place' parts' next)) = None

-- of an association, whose first part has the choices
abbrev pub formal_name : Forest Form → Option (List ℕ)
formal_name parts = only_designator (parts_of parts)

-- ---- the generic of an element: by its name, or by its place, which is in front of all names

-- of what is instantiated, which has them in its region
abbrev pub generic_named : Design → ℕ → Option (List ℕ) → Option ℕ
generic_named d n None = None
generic_named d n (Some name) = found_inside (region_inside d (Some n)) sort.Generic name d

abbrev pub generic_for : Design → ℕ → List ℕ → Form → Forest Form → Option ℕ
generic_for d n left form.Association parts = generic_named d n (formal_name parts)
generic_for d n left form.OthersAssociation parts = None
generic_for d n left _ parts = first_of left

-- those that are left for the places behind
abbrev pub left_behind : Form → List ℕ → List ℕ
left_behind form.Association left = []
left_behind form.OthersAssociation left = []
left_behind _ left = drop 1 left

abbrev pub is_among_numbers : List ℕ → ℕ → Bool
is_among_numbers ks k = list_any (λ j. j == k) ks

abbrev pub once : List ℕ → Option ℕ → Option ℕ
once given None = None
once given (Some g) = if is_among_numbers given g then None else Some g

abbrev pub with_given : Option ℕ → List ℕ → List ℕ
with_given None given = given
with_given (Some g) given = g ∷ given

-- ---- all elements, where some generics are left for places, and some have an element already

abbrev pub actual_in : Form → List ℕ → Place → Forest Form → Forest Form
actual_in form.Association text place parts = with_next (next_of parts) nothing
actual_in form.OthersAssociation text place parts = with_next parts nothing
actual_in f text place parts = alone f text place parts

abbrev pub generic_at : Design → ℕ → (left given : List ℕ) → Form → Forest Form → Option ℕ
generic_at d n left given f parts = once given (generic_for d n left f parts)

abbrev pub elements : Design → ℕ → (left given : List ℕ) → Forest Form → List Element
elements d n left given nothing = []
elements d n left given (more f text place parts next) =
    record {
      place = place;
      generic = generic_at d n left given f parts;
      is_known = is_some (generic_for d n left f parts);
      actual = actual_in f text place parts;
    }
    ∷ elements d n (left_behind f left) (with_given (generic_at d n left given f parts) given) next

-- ---- what they tell of a generic

abbrev pub is_open : Forest Form → Bool
is_open nothing = false
is_open (more form.Open text place parts next) = true
is_open (more _ text place parts next) = false

abbrev pub is_for : ℕ → Option ℕ → Bool
is_for g None = false
is_for g (Some other) = g == other

-- its element, but for `open`
abbrev pub is_value_for : ℕ → Element → Bool
is_value_for g e = is_for g e.generic && not (is_open e.actual)

abbrev pub value_for : ℕ → List Element → Option (Forest Form)
value_for g [] = None
value_for g (e ∷ es) = if is_value_for g e then Some e.actual else value_for g es

abbrev pub has_value : ℕ → List Element → Bool
has_value g es = list_any (is_value_for g) es

-- each is for a generic
abbrev pub are_known : List Element → Bool
are_known es = list_all (λ e. e.is_known) es
