use Rattle.std.proofs.Common.{refl, drop, ap, ◌∙◌}
use Rattle.std.proofs.lemmas.List.{take_rest}
use Rattle.vd_evaluator.specs.Pieces.{first_word, with_pieces}
use Rattle.vd_evaluator.proofs.PieceLemmas.{whole_name_node, first_and_rest}
use Rattle.vd_evaluator.proofs.nodes.whole_name.Goals as goal

pub returns : goal.returns
returns c =
    whole_name_node _ _ _ _ c.args.parts.now c.first-item.result (drop 1 c.args.parts.now) _ c.in_ok-name.name (first_and_rest c.args.parts.now c.first-item.result c.in-len1-up.len_at_least c.first-item.is)
    (c.in_ok-name.ensures ∙ ap (with_pieces (first_word c.first-item.result.what)) (take_rest c.args.parts.now 1)) c.finished.ensures refl
