-- What a form opens in front of its parts: a region, or what its parts have at hand. (IEEE 1076, declarative regions)
use Rattle.std.specs.Prelude.{ℕ, Bool, true, false, ◌||◌, List, [], Option, Some, None, if◌then◌else◌}
use Rattle.std.specs.Option.{unwrap_or}
use Rattle.vd_bytes.specs.declared.answers.Refused.{Refused}
use Rattle.vd_bytes.specs.declared.places.Place.{Place}
use Rattle.vd_forest.specs.Forest.{Forest, nothing, more, next_of, text_of, place_of}
use Rattle.vd_forms.specs.declared.form.Form.{Form}
use Rattle.vd_forms.specs.declared.form.Form.TheVariants as form
use Rattle.vd_forms.specs.Forms.{same_form}
use Rattle.vd_predefined.specs.declared.numbers.TheConstants.{REGION_OF_LIBRARIES}
use Rattle.vd_predefined.specs.Entries.{with_region}
use Rattle.vd_name_rows.specs.Rows.{Row, row_of}
use Rattle.vd_name_rows.specs.declared.sorts.Sort.TheVariants as sort
use Rattle.vd_name_rows.specs.declared.steps.Opening.{Opening}
use Rattle.vd_name_rows.specs.declared.steps.Opening.TheVariants as opening
use Rattle.vd_name_rows.specs.Designs.{At, Design, with_scopes}
use Rattle.vd_name_rows.specs.Entering.{with_part}
use Rattle.vd_name_rows.specs.Members.{next_number, next_region}
use Rattle.vd_name_rows.specs.Noting.{has_body, with_bodies}
use Rattle.vd_name_rows.specs.Refusals.{lesser, broken_if}
use Rattle.vd_naming.specs.Paths.{refused_path}
use Rattle.vd_naming.specs.Endings.{form_of_next}
use Rattle.vd_naming.specs.Units.{is_library_word, no_unit, unit_named, region_inside, round_unit, instances_in}

-- what is known inside, and a rule that is broken
pub record Opened : Type 0 where
  pub at : At
  pub design : Design
  pub first : Option Refused

abbrev pub opens : At → Design → Opened
opens at d = record { at = at; design = d; first = None }

-- ---- regions

abbrev pub in_region : At → Design → (outer : ℕ) → (continues : Option ℕ) → Opened
in_region at d outer continues = opens (record at { region = next_region d; is_package = false }) (with_scopes d (with_part d.scopes outer continues))

abbrev pub nested : At → Design → Opened
nested at d = in_region at d at.region None

-- a header begins with what is declared next
abbrev pub with_header : Design → Opened → Opened
with_header d o = record o { at = record o.at { header = next_number d; header_end = next_number d; function = None } }

-- an entity has a region, and one for the names of its architectures
abbrev pub entity_opens : At → Design → Opened
entity_opens at d = let o = nested at d in
    record o { design = with_scopes o.design (with_region o.design.scopes REGION_OF_LIBRARIES) }

-- the region of an architecture continues that of its entity
abbrev pub architecture_opens : At → Design → Forest Form → Opened
architecture_opens at d parts = in_region at d at.region (region_inside d (unit_named sort.Entity (text_of (next_of parts)) d))

abbrev pub package_opens : At → Design → Opened
package_opens at d = let o = with_header d (nested at d) in
    record o { at = record o.at { is_package = true } }

-- that of a package body continues that of its package. No other body of it may stand in front
abbrev pub no_body : Option ℕ → List ℕ → Design → Place → Option Refused
no_body None name d place = lesser (broken_if (is_library_word name) 301 place) (refused_path None (no_unit (unit_named sort.Any name d)) place)
no_body (Some k) name d place = broken_if (has_body d k) 301 place

abbrev pub instances_inside : Option ℕ → Design → List ℕ
instances_inside None d = []
instances_inside (Some r) d = instances_in r d

abbrev pub package_body_opens : At → Design → Place → Forest Form → Opened
package_body_opens at d place parts =
    let k = unit_named sort.WrittenPackage (text_of parts) d in
    record (in_region at (with_bodies (instances_inside (region_inside d k) d) d) at.region (region_inside d k)) { first = no_body k (text_of parts) d (unwrap_or (place_of parts) place) }

-- a record type has a region
abbrev pub type_opens : At → Design → Forest Form → Opened
type_opens at d parts = if same_form (form_of_next parts) form.RecordType then nested at d else opens at d

-- ---- what is at hand

abbrev pub has_form : Form → Forest Form → Bool
has_form f nothing = false
has_form f (more g text place parts next) = same_form f g || has_form f next

abbrev pub selection_opens : At → Design → Forest Form → Opened
selection_opens at d parts = opens (record at { is_matching = has_form form.Matching parts; selector = None }) d

-- a label is that of a loop, or of another statement
abbrev pub is_loop : Form → Bool
is_loop form.ForLoop = true
is_loop form.WhileLoop = true
is_loop form.LoopStatement = true
is_loop _ = false

abbrev pub label_opens : At → Design → Forest Form → Opened
label_opens at d parts = opens (record at { is_loop = is_loop (form_of_next parts) }) d

abbrev pub opened_as : Opening → At → Design → Place → Forest Form → Opened
opened_as opening.Stay at d place parts = opens at d
opened_as opening.Nested at d place parts = nested at d
opened_as opening.OfHeader at d place parts = with_header d (nested at d)
opened_as opening.OfUnit at d place parts = in_region at d (round_unit at d parts) None
opened_as opening.OfEntity at d place parts = entity_opens at d
opened_as opening.OfArchitecture at d place parts = architecture_opens at d parts
opened_as opening.OfPackage at d place parts = package_opens at d
opened_as opening.OfPackageBody at d place parts = package_body_opens at d place parts
opened_as opening.OfType at d place parts = type_opens at d parts
opened_as opening.OfSelection at d place parts = selection_opens at d parts
opened_as opening.OfReturn at d place parts = opens (record at { mark = at.result }) d
opened_as opening.OfElements at d place parts = opens (record at { viewed = at.mark }) d
opened_as opening.OfLabel at d place parts = label_opens at d parts
opened_as opening.OfInstance at d place parts = opens (record at { label_place = place }) d
opened_as opening.InPorts at d place parts = opens at d

-- the first name of a list gets the next number, but in a list of ports, which are declared together
abbrev pub next_in : Opening → At → Design → ℕ
next_in opening.InPorts at d = at.next
next_in _ at d = next_number d

abbrev pub with_steps : Row → ℕ → Opened → Opened
with_steps r next o = record o { at = record o.at { steps = r.steps; rest = r.rest; next = next } }

abbrev pub opened : Form → At → Design → Place → Forest Form → Opened
opened f at d place parts = with_steps (row_of f) (next_in (row_of f).opening at d) (opened_as (row_of f).opening at d place parts)
