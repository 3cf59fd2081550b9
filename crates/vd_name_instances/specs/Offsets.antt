-- Numbers and regions of copies, by the offsets alone.
use Rattle.std.specs.Prelude.{ℕ}
use Rattle.vd_naming.specs.Functions.{as_in}
use Rattle.vd_naming.specs.Copies.{Copying}
use Rattle.vd_name_instances.specs.declared.numbers.Offsets.{Offsets}

abbrev pub number_of : Offsets → ℕ → ℕ
number_of o n = as_in o.span.first o.span.end o.first n

abbrev pub region_of : Offsets → ℕ → ℕ
region_of o r = as_in o.span.first_region o.span.end_region o.first_region r

abbrev pub offsets_of : Copying → Offsets
offsets_of c = record { span = c.span; first = c.first; first_region = c.first_region }
