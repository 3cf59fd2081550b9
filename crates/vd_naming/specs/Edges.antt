-- Calls of `rising_edge` and `falling_edge`, whose argument has to be the name of a signal. (IEEE 1164, edge detection)
use Rattle.std.specs.Prelude.{ℕ, ◌==◌, Bool, true, false, ◌&&◌, ◌||◌, not, List, codes, Option, Some, None}
use Rattle.std.specs.Str.{bytes_eq}
use Rattle.vd_bytes.specs.declared.answers.Refused.{Refused}
use Rattle.vd_bytes.specs.declared.places.Place.{Place}
use Rattle.vd_walks.specs.Finding.{Finder, first_found}
use Rattle.vd_forest.specs.Forest.{Forest, nothing, more, next_of}
use Rattle.vd_forms.specs.declared.form.Form.{Form}
use Rattle.vd_forms.specs.declared.form.Form.TheVariants as form
use Rattle.vd_predefined.specs.declared.numbers.TheConstants.{REGION_OF_1164}
use Rattle.vd_regions.specs.Scopes.{Scopes, entered_at, declaration_at}
use Rattle.vd_regions.specs.declared.entries.Entered.{Entered}
use Rattle.vd_resolved.specs.declared.node.Resolved.{Resolved}
use Rattle.vd_visible.specs.declared.roles.Role.{Role}
use Rattle.vd_visible.specs.declared.roles.Role.TheVariants as role
use Rattle.vd_visible.specs.Kinds.{role_of}
use Rattle.vd_name_rows.specs.Refusals.{broken_if}

-- one of the two functions of `ieee.std_logic_1164`
abbrev pub is_edge_name : List ℕ → Bool
is_edge_name name = bytes_eq name (codes "rising_edge") || bytes_eq name (codes "falling_edge")

abbrev pub is_edge : Entered → Bool
is_edge e = (e.region == REGION_OF_1164) && is_edge_name e.declaration.name

abbrev pub is_edge_function : Scopes → Option ℕ → Bool
is_edge_function s None = false
is_edge_function s (Some k) = is_edge (entered_at s k)

-- ---- the name of a signal: the signal, and then elements, slices and fields of it

abbrev pub is_signal_role : Role → Bool
is_signal_role role.Signal = true
is_signal_role _ = false

abbrev pub is_signal : Scopes → Option ℕ → Bool
is_signal s None = false
is_signal s (Some k) = is_signal_role (role_of (declaration_at s k).class)

-- an index or a slice calls nothing
abbrev pub calls_nothing : Option ℕ → Bool
calls_nothing None = true
calls_nothing (Some k) = false

abbrev pub is_part : Form → Option ℕ → Bool
is_part form.Selection k = true
is_part form.Arguments k = calls_nothing k
is_part _ k = false

abbrev pub are_parts : Forest Resolved → Bool
are_parts nothing = true
are_parts (more node text place parts next) = is_part node.form node.declaration && are_parts next

abbrev pub is_signal_path : Scopes → Forest Resolved → Bool
is_signal_path s nothing = false
is_signal_path s (more node text place parts next) = is_signal s node.declaration && are_parts next

abbrev pub is_signal_name : Scopes → Form → Forest Resolved → Bool
is_signal_name s form.Name parts = is_signal_path s parts
is_signal_name s _ parts = false

-- ---- an argument by position, or behind the name of the parameter

abbrev pub first_is_signal : Scopes → Forest Resolved → Bool
first_is_signal s nothing = false
first_is_signal s (more node text place parts next) = is_signal_name s node.form parts

abbrev pub argument_is_signal : Scopes → Form → Forest Resolved → Forest Resolved → Bool
argument_is_signal s form.Association parts tree = first_is_signal s (next_of parts)
argument_is_signal s _ parts tree = first_is_signal s tree

abbrev pub arguments_are_signals : Scopes → Forest Resolved → Bool
arguments_are_signals s nothing = true
arguments_are_signals s (more node text place parts next) = argument_is_signal s node.form parts (more node text place parts next)

abbrev pub is_wrong_call : Scopes → Resolved → Forest Resolved → Bool
is_wrong_call s node parts = is_edge_function s node.declaration && not (arguments_are_signals s parts)

abbrev pub has_wrong_call : Scopes → Forest Resolved → Bool
has_wrong_call s nothing = false
has_wrong_call s (more node text place parts next) = is_wrong_call s node parts || has_wrong_call s next

-- the arguments of a call stand behind the function, in a name
abbrev pub wrong_at : Form → Scopes → Place → Forest Resolved → Option Refused
wrong_at form.Name s place parts = broken_if (has_wrong_call s parts) 307 place
wrong_at _ s place parts = None

abbrev pub edge_finder : Scopes → Finder Resolved (Unit {0}) Refused
edge_finder s = record {
  answer = λ at node text place parts. wrong_at node.form s place parts;
  down = λ at node text place parts. at;
  along = λ at node text place parts. at;
}

-- the first call whose argument is no name of a signal
abbrev pub edge_of_no_signal : Scopes → Forest Resolved → Option Refused
edge_of_no_signal s tree = first_found (edge_finder s) tt tree
