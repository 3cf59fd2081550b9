use Rattle.std.proofs.Common.{subst, ◌∙◌}
use Rattle.vd_forest.specs.Forest.{Forest, nothing, with_next}
use Rattle.vd_forms.specs.declared.form.Form.{Form}
use Rattle.vd_visible.specs.Sights.{sight_from, class_of}
use Rattle.vd_naming.specs.Actuals.{outcome_for}
use Rattle.vd_name_actuals.specs.Seen.{seen_known}
use Rattle.vd_name_rows.specs.Designs.{Outcome}
use Rattle.vd_name_entering.specs.Made.{IsMade}
use Rattle.vd_name_maps.proofs.inside.for_generic.Goals as goal

pub returns-clause-is : goal.returns-clause-is
returns-clause-is c =
    let known = c.args.known.now in
    let design = known.names.now in
    let g = c.args.generic in
    let come : Forest Form → Outcome = λ t. outcome_for (class_of (sight_from known.place.now) g) c.args.at.now design (seen_known known) g c.args.node.now.place t in
    c.in_element.ensures.is design (come (with_next c.args.actual.now nothing))
    (subst (λ t. IsMade c.outcome_for.new.out design c.in_ok-made.made (come t)) (c.cursor-tree.ensures ∙ c.in_ok-number.ensures.is) c.in_ok-made.ensures.is)
