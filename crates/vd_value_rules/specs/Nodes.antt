-- Nodes of subtypes.
use Rattle.vd_value_rules.specs.declared.forms.IndicatedForm.{IndicatedForm}
use Rattle.vd_value_rules.specs.declared.forms.IndicatedForm.TheVariants as form

-- a literal is no subtype
abbrev pub IsOfSubtype : IndicatedForm → Type 0
IsOfSubtype form.Literal = ⊥
IsOfSubtype _ = Unit {0}
