-- What is noted of copies, by their offsets and the actuals alone.
use Rattle.std.specs.Prelude.{ℕ, zero, suc, ◌+◌, ◌-◌, ◌||◌, false, List, option_map}
use Rattle.vd_name_rows.specs.Designs.{Design, note_at, with_note}
use Rattle.vd_name_rows.specs.declared.at.Actual.{Actual}
use Rattle.vd_name_rows.specs.declared.notes.Note.{Note}
use Rattle.vd_name_rows.specs.declared.notes.Span.{Span}
use Rattle.vd_naming.specs.Actuals.{actual_of}
use Rattle.vd_naming.specs.Copies.{is_bounded_actual}
use Rattle.vd_name_instances.specs.declared.numbers.Offsets.{Offsets}
use Rattle.vd_name_instances.specs.Offsets.{number_of, region_of}

abbrev pub span_of : Offsets → Span → Span
span_of o x = record {
  first = number_of o x.first;
  end = o.first + (x.end - o.span.first);
  first_region = region_of o x.first_region;
  end_region = o.first_region + (x.end_region - o.span.first_region);
}

abbrev pub note_of : Offsets → List Actual → Design → ℕ → Note
note_of o actuals d n =
    record (note_at d n) {
      is_instance = false;
      is_bounded = (note_at d n).is_bounded || is_bounded_actual d (actual_of n actuals);
      is_loop = false;
      span = option_map (span_of o) (note_at d n).span;
    }

-- of so many, from a number on
abbrev pub with_notes : Offsets → List Actual → ℕ → ℕ → Design → Design
with_notes o actuals n zero d = d
with_notes o actuals n (suc left) d = with_notes o actuals (suc n) left (with_note (number_of o n) (note_of o actuals d n) d)
