-- What a piece of the name of a function names.
use Rattle.std.specs.Prelude.{ℕ, true, Option, Some}
use Rattle.vd_forest.specs.Forest.{Forest, nothing, more}
use Rattle.vd_forms.specs.declared.form.Form.{Form}
use Rattle.vd_naming.specs.Selected.{Meant}
use Rattle.vd_naming.specs.Paths.{one_that}

-- the last one the function
abbrev pub named_at : ℕ → Meant → Forest Form → Option ℕ
named_at function m nothing = Some function
named_at function m (more form text place parts next) = one_that (λ j. true) m
