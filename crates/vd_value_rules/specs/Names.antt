-- What names may do at their places: read, be assigned, name a port with a view, and name what is declared outside of a function.
-- (IEEE 1076, interface declarations; mode views; signal and variable assignments; subprogram bodies.)
use Rattle.std.specs.Prelude.{◌==◌, Bool, List, None, Option, Some, [], bytes_eq, codes, false, not, suc, true, zero, ℕ, ◌&&◌, ◌++◌, ◌||◌, ◌∷◌}
use Rattle.std.specs.List.{list_all}
use Rattle.vd_bytes.specs.declared.answers.Refused.{Refused}
use Rattle.vd_bytes.specs.declared.places.Place.{Place}
use Rattle.vd_meaning.specs.Building.{is_output}
use Rattle.vd_meaning.specs.Instances.{view_in}
use Rattle.vd_forest.specs.Forest.{Forest, more, nothing, skipped}
use Rattle.vd_forms.specs.declared.form.Form.{Form}
use Rattle.vd_meaning.specs.Brackets.{or_else}
use Rattle.vd_meaning.specs.Tables.{role_of}
use Rattle.vd_resolved.specs.declared.node.Resolved.{Resolved}
use Rattle.vd_value_rules.specs.Choices.{place_at}
use Rattle.vd_value_rules.specs.Designs.{Design, is_listed}
use Rattle.vd_value_rules.specs.Judging.{refused_if}
use Rattle.vd_value_rules.specs.Knowledge.{mark_of_view, meaning_at, parts_at}
use Rattle.vd_value_rules.specs.Reaching.{Reached, has_view, is_input, is_signal_name, is_signal_role, is_variable_name, is_variable_role, mode_reached, oriented, reached, role_reached}
use Rattle.vd_value_rules.specs.Standings.{Assigned, Associated, Formal, Standing, State, standing}
use Rattle.vd_forms.specs.declared.form.Form.TheVariants as form

-- ---- 401: an `out` port or an element of that mode is read, as a value or as the prefix of 'event

abbrev pub is_read_by : Option (List ℕ) → Bool
is_read_by None = true
is_read_by (Some attribute) = bytes_eq attribute (codes "event")

abbrev pub reads_out : Design → Reached → Bool
reads_out d r = is_output (mode_reached d r) && is_read_by r.attribute

-- ---- 402: a target that isn't a signal, or isn't a variable, that may be written

-- a signal, or a port or element that isn't of mode `in`
abbrev pub may_be_driven : Design → Reached → Bool
may_be_driven d r = is_signal_name d r && not (is_input (mode_reached d r))

abbrev pub may_be_assigned : Bool → Design → Reached → Bool
may_be_assigned true d r = may_be_driven d r
may_be_assigned false d r = is_variable_name d r

-- ---- 308: a port with a view that is named without an element that has a mode

abbrev pub names_view_port : Design → Reached → Bool
names_view_port d r = has_view (oriented d r)

-- ---- at the places of names. The actual of a port is judged with its port, and what is named in front of `=>` isn't.

abbrev pub broken_as_value : Design → Place → Reached → List Refused
broken_as_value d place r = refused_if (names_view_port d r) place 308 ++ refused_if (reads_out d r) place 401

abbrev pub broken_as : Standing → Design → Place → Reached → List Refused
broken_as (Assigned signal) d place r = refused_if (names_view_port d r) place 308 ++ refused_if (not (may_be_assigned signal d r)) place 402
broken_as Associated d place r = []
broken_as Formal d place r = []
broken_as _ d place r = broken_as_value d place r

-- ---- 409: in a function a signal, or a variable that it doesn't declare itself

abbrev pub is_outer_variable : List ℕ → Design → Option ℕ → Bool
is_outer_variable locals d None = false
is_outer_variable locals d (Some n) = is_variable_role (role_of d.table (Some n)) && not (is_listed n locals)

abbrev pub is_foreign : List ℕ → Design → Reached → Bool
is_foreign locals d r = is_signal_role (role_reached d r) || is_outer_variable locals d r.declaration

abbrev pub broken_in_function : Option (List ℕ) → Design → Place → Reached → List Refused
broken_in_function None d place r = []
broken_in_function (Some locals) d place r = refused_if (is_foreign locals d r) place 409

abbrev pub name_broken : Form → Design → State → Place → Forest Resolved → List Refused
name_broken form.Name d s place parts =
    broken_as (standing s) d place (reached d parts) ++ broken_in_function s.locals d place (reached d parts)
name_broken _ d s place parts = []

-- 308, 401, 402 and 409 of names
abbrev pub broken_name : Design → State → Resolved → Place → Forest Resolved → List Refused
broken_name d s n place parts = name_broken n.form d s place parts

-- ---- 402: a signal assignment that does nothing, whatever its conditions are

abbrev pub does_nothing_by : Form → Bool → Bool → Bool
does_nothing_by form.Unaffected first last = true
does_nothing_by form.ConditionalWaveform first last = first && last
does_nothing_by form.GuardedWaveform first last = first
does_nothing_by form.SelectedWaveform first last = first
does_nothing_by _ first last = false

abbrev pub nth_truth : ℕ → List Bool → Bool
nth_truth n [] = false
nth_truth zero (b ∷ bs) = b
nth_truth (suc n) (b ∷ bs) = nth_truth n bs

-- of each of some waveforms: a conditional one has a first waveform, a condition and what stands behind `else`
abbrev pub do_nothing : Forest Resolved → List Bool
do_nothing nothing = []
do_nothing (more n text place parts next) =
    does_nothing_by n.form (nth_truth 0 (do_nothing parts)) (nth_truth 2 (do_nothing parts)) ∷ do_nothing next

abbrev pub all_of : List Bool → Bool
all_of bs = list_all (λ b. b) bs

-- by the numbers of the target and of the first waveform
abbrev pub without_effect : ℕ → ℕ → Forest Resolved → List Refused
without_effect target waveform parts = refused_if (all_of (do_nothing (skipped waveform parts))) (place_at target parts) 402

abbrev pub broken_assignment : Form → Forest Resolved → List Refused
broken_assignment form.SignalAssignment parts = without_effect 0 2 parts
broken_assignment form.ConcurrentAssignment parts = without_effect 0 2 parts
broken_assignment form.SelectedSignalAssignment parts = without_effect 2 4 parts
broken_assignment _ parts = []

-- ---- 308: a port with a view of another record than its subtype, at the view's name

abbrev pub type_of_mark : Design → Option ℕ → Option ℕ
type_of_mark d None = None
type_of_mark d (Some n) = or_else (d.table.declared n).mark (Some n)

abbrev pub subtype_mark : Design → Forest Resolved → Option ℕ
subtype_mark d parts = type_of_mark d (meaning_at d 0 (parts_at 4 parts)).declaration

abbrev pub view_type : Design → Forest Resolved → Option ℕ
view_type d parts = type_of_mark d (mark_of_view (view_in d.units.views (meaning_at d 2 parts).declaration))

abbrev pub are_other_types : Option ℕ → Option ℕ → Bool
are_other_types (Some t) (Some u) = not (t == u)
are_other_types _ _ = false

abbrev pub broken_view_port : Form → Design → Forest Resolved → List Refused
broken_view_port form.ViewPort d parts =
    refused_if ((meaning_at d 4 parts).is_present && are_other_types (subtype_mark d parts) (view_type d parts)) (place_at 2 parts) 308
broken_view_port _ d parts = []
