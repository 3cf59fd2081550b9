use Rattle.std.proofs.Common.{arith, ◌≡◌, ◌∙◌}
use Rattle.vd_composites.specs.Ranges.{length_of}
use Rattle.vd_composites.proofs.JoinedLemmas.{array_is_made, array_is_not}
use Rattle.vd_composites.proofs.joining.array_nodes.Goals as goal

pub returns-then-length-count : goal.returns-then-length-count
returns-then-length-count c = array_is_not c.args.bounds c.args.count c.args.nodes.now c.requires (λ (e : length_of c.args.bounds ≡ c.args.count).
    let f : c.length.result ≡ c.args.count = c.length.ensures ∙ e in absurd (omega arith))

pub returns-in-Ok : goal.returns-in-Ok
returns-in-Ok c =
    let long : c.length.result ≡ length_of c.args.bounds = c.length.ensures in
    let same : length_of c.args.bounds ≡ c.args.count = omega arith in
    array_is_made c.args.bounds c.args.count c.args.nodes.now c.in-Ok.made.items c.requires same c.in-Ok.ensures
