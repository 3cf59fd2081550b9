use Rattle.std.proofs.Common.{arith, ◌≡◌, ℕ, List, length, map, sym, ap, ◌∙◌}
use Rattle.vd_composites.specs.Ranges.{length_of}
use Rattle.vd_composites.specs.Parts.{array_of}
use Rattle.vd_composites.specs.declared.nodes.Node.TheVariants.{Literal}
use Rattle.vd_composites.proofs.JoinedLemmas.{array_is_made, array_is_not}
use Rattle.vd_composites.proofs.VectorLemmas.{literal_nodes_after, literal_nodes_read}
use Rattle.vd_composites.proofs.vectors.literal_nodes.Goals as goal

pub returns-then-length-positions : goal.returns-then-length-positions
returns-then-length-positions c =
    let ps : List ℕ = c.args.positions.now in
    ap (array_of c.args.bounds) (sym (literal_nodes_read ps))
    ∙ array_is_not c.args.bounds (length ps) (map (λ p. Literal p) ps) (literal_nodes_after ps) (λ (e : length_of c.args.bounds ≡ length ps).
    let f : c.length.result ≡ length ps = c.length.ensures ∙ e in absurd (omega arith))

pub returns-in-Ok : goal.returns-in-Ok
returns-in-Ok c =
    let ps : List ℕ = c.args.positions.now in
    let long : c.length.result ≡ length_of c.args.bounds = c.length.ensures in
    let same : length_of c.args.bounds ≡ length ps = omega arith in
    let made = array_is_made c.args.bounds (length ps) (map (λ p. Literal p) ps) c.in-Ok.made.items (literal_nodes_after ps) same c.in-Ok.ensures in
    (made.0, ap (array_of c.args.bounds) (sym (literal_nodes_read ps)) ∙ made.1)
