-- The formals of elements of maps.
use Rattle.std.specs.Prelude.{Option, if◌then◌else◌, ℕ}
use Rattle.vd_meaning.specs.Brackets.{is_positional}
use Rattle.vd_meaning.specs.Facets.{Meaning}
use Rattle.vd_forms.specs.declared.form.Form.{Form}
use Rattle.vd_forms.specs.declared.form.Form.TheVariants as form
use Rattle.vd_meaning.specs.Meanings.{formal_named}
use Rattle.vd_static_rules.specs.declared.elements.Naming.{Naming}
use Rattle.vd_static_rules.specs.declared.elements.Naming.TheVariants.{ByPlace, Inner, Named}

-- the one that an element names, or the next one
abbrev pub formal_or : Option ℕ → Meaning → Option ℕ
formal_or next m = if is_positional m.association then next else formal_named m.association m.choices

-- what an element of a form says of its formal
abbrev pub naming : Form → Naming
naming form.UnconstrainedIndex = Inner
naming form.OthersAssociation = Named
naming form.Association = Named
naming _ = ByPlace
