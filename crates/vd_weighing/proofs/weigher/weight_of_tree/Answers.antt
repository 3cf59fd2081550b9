use Rattle.std.proofs.Common.{◌+◌, ap, sym, ◌∙◌}
use Rattle.vd_weighing.specs.Limits.{at_most}
use Rattle.vd_weighing.specs.Weighing.{weight_by}
use Rattle.vd_weighing.proofs.weigher.weight_of_tree.Goals as goal

pub returns-in_ok-before-in-IfGenerate : goal.returns-in_ok-before-in-IfGenerate
returns-in_ok-before-in-IfGenerate c =
    let ds = c.args.declarations.now in
    c.plus-in-IfGenerate.ensures ∙ ap (λ n. at_most (c.args.own + n)) (c.in_ok-before-in-IfGenerate.ensures ds)
    ∙ ap (λ f. weight_by ds f c.args.node.now.parts c.args.own c.args.known.now) (sym c.in-IfGenerate.is)

pub returns-in_ok-before-in-CaseGenerate : goal.returns-in_ok-before-in-CaseGenerate
returns-in_ok-before-in-CaseGenerate c =
    let ds = c.args.declarations.now in
    c.plus-in-CaseGenerate.ensures ∙ ap (λ n. at_most (c.args.own + n)) (c.in_ok-before-in-CaseGenerate.ensures ds)
    ∙ ap (λ f. weight_by ds f c.args.node.now.parts c.args.own c.args.known.now) (sym c.in-CaseGenerate.is)
