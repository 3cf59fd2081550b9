-- What is noted of declarations beside their classes, names and types.
use Rattle.std.specs.Prelude.{ℕ, ◌==◌, Bool, true, false, not, List, [], ◌∷◌, Option, Some, None, if◌then◌else◌}
use Rattle.std.specs.Option.{unwrap_or}
use Rattle.vd_forms.specs.declared.form.Form.TheVariants as form
use Rattle.vd_name_rows.specs.declared.notes.Formal.{Formal}
use Rattle.vd_name_rows.specs.declared.notes.Span.{Span}
use Rattle.vd_name_rows.specs.Designs.{Design, note_at, with_note}
use Rattle.vd_name_rows.specs.Members.{next_region}

-- ---- bodies that have ended

abbrev pub has_body : Design → ℕ → Bool
has_body d k = (note_at d k).has_body

abbrev pub with_body : ℕ → Design → Design
with_body k d = with_note k (record (note_at d k) { has_body = true }) d

abbrev pub with_bodies : List ℕ → Design → Design
with_bodies [] d = d
with_bodies (k ∷ ks) d = with_bodies ks (with_body k d)

-- ---- functions that are instances

abbrev pub is_instance : Design → ℕ → Bool
is_instance d k = (note_at d k).is_instance

abbrev pub as_instance : ℕ → Design → Design
as_instance k d = with_note k (record (note_at d k) { is_instance = true }) d

-- ---- array types and subtypes that have bounds

abbrev pub has_bounds : Design → ℕ → Bool
has_bounds d k = (note_at d k).is_bounded

abbrev pub with_bounds : Bool → ℕ → Design → Design
with_bounds b k d = if b then with_note k (record (note_at d k) { is_bounded = true }) d else d

-- ---- labels of loops

abbrev pub is_loop_label : Design → ℕ → Bool
is_loop_label d k = (note_at d k).is_loop

abbrev pub with_loop : Bool → ℕ → Design → Design
with_loop b k d = if b then with_note k (record (note_at d k) { is_loop = true }) d else d

-- ---- ports and generics

abbrev pub no_formal : Formal
no_formal = record { mode = form.In; is_needed = false }

abbrev pub formal_at : Design → ℕ → Formal
formal_at d k = unwrap_or (note_at d k).formal no_formal

abbrev pub with_formal : ℕ → Formal → Design → Design
with_formal k f d = with_note k (record (note_at d k) { formal = Some f }) d

-- ---- headers of functions, and packages with generics

abbrev pub no_span : Span
no_span = record { first = 0; end = 0; first_region = 0; end_region = 0 }

abbrev pub span_at : Design → ℕ → Span
span_at d k = unwrap_or (note_at d k).span no_span

abbrev pub with_span : ℕ → Span → Design → Design
with_span owner span d = with_note owner (record (note_at d owner) { span = Some span }) d

-- one whose regions end where the next one would stand
abbrev pub span_to : (first end first_region : ℕ) → Design → Span
span_to first end first_region d = record { first = first; end = end; first_region = first_region; end_region = next_region d }

-- ---- functions with generics whose bodies are tied to a unit

abbrev pub tied_to : ℕ → ℕ → Design → Design
tied_to k unit d = with_note k (record (note_at d k) { tied = Some unit }) d

abbrev pub is_other_unit : ℕ → Option ℕ → Bool
is_other_unit unit None = false
is_other_unit unit (Some other) = not (other == unit)

abbrev pub is_tied_elsewhere : ℕ → ℕ → Design → Bool
is_tied_elsewhere k unit d = is_other_unit unit (note_at d k).tied
