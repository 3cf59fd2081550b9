use Rattle.std.proofs.Common.{ap, ◌∙◌}
use Rattle.vd_composites.specs.Composites.{item, none, joined}
use Rattle.vd_composites.specs.Nodes.{read}
use Rattle.vd_composites.proofs.NodeLemmas.{counted}
use Rattle.vd_composites.proofs.ReplacedLemmas.{one_item}
use Rattle.vd_composites.proofs.items.Items.push.Goals as goal

pub returns-clause-ok : goal.returns-clause-ok
returns-clause-ok c =
    c.in_ok-self-inside.ensures.joined
    ∙ ap (λ us. joined us (read c.nodes.result.now)) c.self.view_is
    ∙ ap (joined c.args.self.now) (one_item (read c.nodes.result.now) (counted 1 c.nodes.result.now c.nodes.ensures.whole) ∙ ap (λ v. item v none) c.nodes.ensures.items)
