use Rattle.std.proofs.Common.{arith, ◌≤◌, ◌+◌, length, sym, ◌∙◌}
use Rattle.vd_composites.specs.Ranges.{length_of}
use Rattle.vd_composites.proofs.NodeLemmas.{elements_fit}
use Rattle.vd_composites.proofs.nodes.head_of.Goals as goal

pub overflow_cast-result : goal.overflow_cast-result
overflow_cast-result c =
    let fit : length_of c.in-Some.bounds + c.requires.0 + 2 ≤ length c.args.nodes.now = elements_fit c.requires.0 c.args.nodes.now c.in-Some.bounds c.requires.1 (sym c.bounds_at.ensures ∙ c.in-Some.is) in
    omega arith
