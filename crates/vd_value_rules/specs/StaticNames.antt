-- What must be known in elaboration: conditions, selectors and ranges of generates, defaults of ports, generics of instances of packages, and the
-- names of sensitivity lists. (IEEE 1076, generate statements; interface declarations; package instantiations; sensitivity lists.)
use Rattle.std.specs.Prelude.{Bool, List, None, Option, Some, [], false, if◌then◌else◌, is_some, not, true, ℕ, ◌&&◌, ◌++◌}
use Rattle.vd_bytes.specs.declared.answers.Refused.{Refused}
use Rattle.vd_bytes.specs.declared.places.Place.{Place}
use Rattle.vd_declarations.specs.declared.classes.Class.{Class}
use Rattle.vd_environments.specs.Environments.{Env, Static, is_static}
use Rattle.vd_forest.specs.Forest.{Forest, more, nothing}
use Rattle.vd_forms.specs.declared.form.Form.{Form}
use Rattle.vd_meaning.specs.Facets.{Meaning}
use Rattle.vd_resolved.specs.declared.node.Resolved.{Resolved}
use Rattle.vd_value_rules.specs.Choices.{first_meaning, place_at}
use Rattle.vd_value_rules.specs.Designs.{Design, class_of}
use Rattle.vd_value_rules.specs.Judging.{refused_if}
use Rattle.vd_value_rules.specs.Knowledge.{meaning_at, parts_at}
use Rattle.vd_value_rules.specs.Standings.{State, formal_of_element, further_numbers, generics_of}
use Rattle.vd_declarations.specs.declared.classes.Class.TheVariants as class
use Rattle.vd_forms.specs.declared.form.Form.TheVariants as form

-- ---- 406

abbrev pub known_at : Design → Env → ℕ → Forest Resolved → Static
known_at d e n parts = (meaning_at d n parts).known e

-- the part with a number isn't globally static
abbrev pub not_global : Design → Env → ℕ → Forest Resolved → List Refused
not_global d e n parts = refused_if (not (is_static (known_at d e n parts))) (place_at n parts) 406

abbrev pub not_global_if_there : Design → Env → ℕ → Forest Resolved → List Refused
not_global_if_there d e n parts = if (meaning_at d n parts).is_present then not_global d e n parts else []

-- the actual of an element of a map, which stands behind `=>` or alone
abbrev pub place_of_actual : Form → Place → Forest Resolved → Place
place_of_actual form.Association place parts = place_at 1 parts
place_of_actual _ place parts = place

-- An actual with a type is an expression, and that of a generic that is a constant.
abbrev pub is_constant_class : Class → Bool
is_constant_class class.GenericConstant = true
is_constant_class _ = false

abbrev pub is_of_constant : Design → Option ℕ → Bool
is_of_constant d None = false
is_of_constant d (Some n) = is_constant_class (class_of d n)

-- The text behind `=>` alone is evaluated: what an element names in front of it isn't.
abbrev pub meaning_of_actual : Form → Design → Forest Resolved → Meaning → Meaning
meaning_of_actual form.Association d parts m = meaning_at d 1 parts
meaning_of_actual _ d parts m = m

abbrev pub is_later_actual : Design → Env → Meaning → Option ℕ → Bool
is_later_actual d e m formal = is_of_constant d formal && (not m.is_open && not (is_static (m.known e)))

abbrev pub later_actuals_of : Design → Env → List ℕ → Forest Resolved → List Refused
later_actuals_of d e ns nothing = []
later_actuals_of d e ns (more n text place parts next) =
    let m = first_meaning d (more n text place parts nothing) in
    refused_if (is_later_actual d e (meaning_of_actual n.form d parts m) (formal_of_element m ns)) (place_of_actual n.form place parts) 406
    ++ later_actuals_of d e (further_numbers ns) next

abbrev pub static_broken : Form → Design → Env → Forest Resolved → List Refused
static_broken form.IfGenerate d e parts = not_global d e 0 parts
static_broken form.ElsifGenerate d e parts = not_global d e 0 parts
static_broken form.ForGenerate d e parts = not_global d e 1 parts
static_broken form.CaseGenerate d e parts = not_global d e 0 parts
static_broken form.PortDeclaration d e parts = not_global_if_there d e 4 parts
static_broken form.PackageInstantiation d e parts = later_actuals_of d e (generics_of d (meaning_at d 1 parts).declaration) (parts_at 2 parts)
static_broken _ d e parts = []

-- ---- 407: the longest static prefix of a signal's name is the whole name

abbrev pub is_static_signal : Env → Meaning → Bool
is_static_signal e m = is_some m.name.prefix && m.name.is_whole e

abbrev pub not_static_signals : Design → Env → Forest Resolved → List Refused
not_static_signals d e nothing = []
not_static_signals d e (more n text place parts next) =
    refused_if (not (is_static_signal e (first_meaning d (more n text place parts nothing)))) place 407 ++ not_static_signals d e next

abbrev pub sensitivity_broken : Form → Design → Env → Forest Resolved → List Refused
sensitivity_broken form.SensitivityList d e parts = not_static_signals d e parts
sensitivity_broken _ d e parts = []

-- 406 of generates, ports and instances of packages, and 407 of sensitivity lists
abbrev pub broken_static : Design → State → Resolved → Forest Resolved → List Refused
broken_static d s n parts = static_broken n.form d s.known.env parts ++ sensitivity_broken n.form d s.known.env parts
