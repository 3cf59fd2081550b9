-- What is refused of the names of an expression beside what is visible under them: a package with generics that is named outside itself and its body,
-- and an attribute of an array mark without bounds. (IEEE 1076-2019, generic packages; IEEE 1076, predefined attributes)
use Rattle.std.specs.Prelude.{ℕ, Bool, false, ◌&&◌, not, [], ◌∷◌, Option, Some, None, is_some}
use Rattle.std.specs.Option.{unwrap_or}
use Rattle.vd_bytes.specs.declared.answers.Refused.{Refused}
use Rattle.vd_bytes.specs.declared.places.Place.{Place}
use Rattle.vd_walks.specs.Finding.{Finder, first_found}
use Rattle.vd_forest.specs.Forest.{Forest, nothing, more, place_of}
use Rattle.vd_forms.specs.declared.form.Form.{Form}
use Rattle.vd_forms.specs.declared.form.Form.TheVariants as form
use Rattle.vd_visible.specs.Sights.{Sight, class_of}
use Rattle.vd_visible.specs.Types.{element_of, type_meant}
use Rattle.vd_ways.specs.Ways.{selection_name}
use Rattle.vd_name_rows.specs.Noting.{has_bounds}
use Rattle.vd_name_rows.specs.Designs.{Design}
use Rattle.vd_name_rows.specs.Refusals.{lesser, broken_if}
use Rattle.vd_naming.specs.Selected.{Meant, Means, Breaks, some_or, meant_behind, means_outside}

-- ---- the pieces of a name: points, and then others, behind which nothing is known here

abbrev pub meant_by_piece : Form → Sight → Meant → Forest Form → Meant
meant_by_piece form.Selection s m parts = meant_behind s m (selection_name parts)
meant_by_piece _ s m parts = Breaks 0

-- ---- array marks that have no bounds

abbrev pub is_array : Sight → Option ℕ → Bool
is_array s None = false
is_array s (Some t) = is_some (element_of (class_of s t))

abbrev pub is_unbounded : Sight → Design → ℕ → Bool
is_unbounded s d k = is_array s (type_meant s k) && not (has_bounds d k)

abbrev pub means_unbounded : Sight → Design → Meant → Bool
means_unbounded s d (Means (k ∷ [])) = is_unbounded s d k
means_unbounded s d _ = false

-- such an attribute is refused behind the apostrophe
abbrev pub attribute_at : Form → Sight → Design → Meant → Place → Forest Form → Option Refused
attribute_at form.Attribute s d m place parts = broken_if (means_unbounded s d m) 307 (unwrap_or (place_of parts) place)
attribute_at form.RangeAttribute s d m place parts = broken_if (means_unbounded s d m) 307 place
attribute_at _ s d m place parts = None

-- ---- a name

-- with the place of its first token
abbrev pub refused_behind : Sight → Design → ℕ → Place → Meant → Forest Form → Option Refused
refused_behind s d region first m nothing = broken_if (means_outside d.scopes region m) 307 first
refused_behind s d region first m (more f text place parts next) =
    lesser (broken_if (means_outside d.scopes region m) 307 first)
    (lesser (attribute_at f s d m place parts) (refused_behind s d region first (meant_by_piece f s m parts) next))

abbrev pub refused_name : Sight → Design → ℕ → Place → Forest Form → Option Refused
refused_name s d region place nothing = None
refused_name s d region place (more f text place' parts next) = refused_behind s d region place (some_or 303 (s.visible text)) next

abbrev pub refused_at : Form → Sight → Design → ℕ → Place → Forest Form → Option Refused
refused_at form.Name s d region place parts = refused_name s d region place parts
refused_at _ s d region place parts = None

abbrev pub pieces_finder : Sight → Design → ℕ → Finder Form (Unit {0}) Refused
pieces_finder s d region = record {
  answer = λ at f text place parts. refused_at f s d region place parts;
  down = λ at f text place parts. at;
  along = λ at f text place parts. at;
}

-- the first name of an expression of which that is refused
abbrev pub refused_pieces : Sight → Design → ℕ → Forest Form → Option Refused
refused_pieces s d region tree = first_found (pieces_finder s d region) tt tree
