use Rattle.std.proofs.Common.{sym, ◌∙◌, subst}
use Rattle.vd_composites.specs.Answers.{ListAnswers}
use Rattle.vd_composites.proofs.ValueLemmas.{is_array}
use Rattle.vd_composites.proofs.VectorLemmas.{array_positions}
use Rattle.vd_composites.proofs.vectors.positions_nodes.Goals as goal

pub returns : goal.returns
returns c =
    let a = is_array c.args.nodes.now c.in-Some._bounds c.requires (sym c.bounds_at.ensures ∙ c.in-Some.is) in
    subst (ListAnswers c.positions_behind.result) (sym (array_positions c.args.of c.args.nodes.now c.in-Some._bounds a)) c.positions_behind.ensures
