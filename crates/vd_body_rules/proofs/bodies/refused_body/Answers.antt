use Rattle.vd_body_rules.proofs.WalkLemmas.{body_is}
use Rattle.vd_body_rules.proofs.bodies.refused_body.Goals as goal

pub returns : goal.returns
returns c = λ d.
    body_is d c.args.texts.now c.args.node.now.form c.args.node.now.place c.args.node.now.parts c.function_number-number.result c.text_of-text.result
    c.in_ok-refused.refused (c.function_number-number.ensures d) c.text_of-text.ensures (c.in_ok-refused.ensures d)
