-- How nodes of resolved trees are made in which nothing is named, and what a name is resolved to that has to mean something that fits.
use Rattle.std.specs.Prelude.{None}
use Rattle.vd_bytes.specs.declared.places.Place.{Place}
use Rattle.vd_forest.specs.Forest.{Forest}
use Rattle.vd_forms.specs.declared.form.Form.{Form}
use Rattle.vd_resolved.specs.declared.node.Resolved.{Resolved}
use Rattle.vd_rewriting.specs.Forms.{forms_pass}
use Rattle.vd_rewriting.specs.Inheriting.{Rules, rules_of}
use Rattle.vd_name_rows.specs.Designs.{At, Design, Outcome, sight}
use Rattle.vd_naming.specs.Expressions.{resolved}
use Rattle.vd_naming.specs.Paths.{named_as}
use Rattle.vd_naming.specs.declared.fit.Fit.{Fit}
use Rattle.vd_naming.specs.Fits.{fits}

abbrev pub unresolved_rules : Rules Form Resolved (Unit {0})
unresolved_rules = rules_of (forms_pass (λ f. resolved f None None))

abbrev pub named_to_fit : Fit → At → Design → Place → Forest Form → Outcome
named_to_fit fit at d place tree = named_as (fits fit (sight at d) d) at d place tree
