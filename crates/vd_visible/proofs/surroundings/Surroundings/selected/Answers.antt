use Rattle.std.proofs.Common.{◌∙◌, ap}
use Rattle.vd_regions.specs.InOrder.{selected_in_order}
use Rattle.vd_visible.proofs.NameLemmas.{named_by_text, nothing_named}
use Rattle.vd_visible.proofs.surroundings.Surroundings.selected.Goals as goal

pub returns-in_default : goal.returns-in_default
returns-in_default c =
    c.new.ensures.items
    ∙ nothing_named c.args.name.now (selected_in_order c.args.self.now.scopes c.args.self.now.region c.args.prefix c.args.name.now) c.in_default.ensures.cases.0

pub returns : goal.returns
returns c =
    c.in_ok-found.ensures.is ∙ ap (selected_in_order c.self.inside.regions.now c.self.inside.region c.args.prefix) c.in-Ok.ensures.cases.0
    ∙ ap (λ p. selected_in_order p.scopes p.region c.args.prefix c.args.name.now) c.self.view_is
    ∙ named_by_text c.args.name.now (selected_in_order c.args.self.now.scopes c.args.self.now.region c.args.prefix c.args.name.now) c.in-Ok.ensures.cases.1
