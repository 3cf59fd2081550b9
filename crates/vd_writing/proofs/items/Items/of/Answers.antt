use Rattle.std.proofs.Common.{◌≡◌, subst, IfOk}
use Rattle.vd_templates.specs.Templates.{items_of}
use Rattle.vd_writing.proofs.items.Items.of.Goals as goal

pub returns-clause-items : goal.returns-clause-items
returns-clause-items c = subst (λ f. IfOk c.of_trees.result (λ items. items ≡ items_of f)) c.units-units.ensures.units c.of_trees.ensures
