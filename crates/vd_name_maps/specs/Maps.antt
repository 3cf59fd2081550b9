-- A map whose generics are at hand, as the code has them.
use Rattle.std.specs.Prelude.{ℕ, List, ◌&&◌, Option}
use Rattle.std.specs.List.{list_any}
use Rattle.vd_bytes.specs.declared.answers.Refused.{Refused}
use Rattle.vd_name_rows.specs.Designs.{At, Design}
use Rattle.vd_name_rows.specs.Refusals.{broken_if}
use Rattle.vd_naming.specs.Associations.{Element, are_known}
use Rattle.vd_naming.specs.Actuals.{Known}
use Rattle.vd_naming.specs.Generics.{lacks_value}

-- generics of these without value, where each element is for one
abbrev pub missing_among : List ℕ → At → Design → Known → List Element → Option Refused
missing_among generics at d k es = broken_if (are_known es && list_any (lacks_value d k es) generics) 309 at.label_place
