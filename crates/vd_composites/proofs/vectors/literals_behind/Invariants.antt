use Rattle.std.proofs.Common.{◌≡◌, ◌∷◌, map, take}
use Rattle.vd_composites.specs.declared.nodes.Node.TheVariants.{Array, Literal, Right}
use Rattle.vd_composites.proofs.vectors.literals_behind.Given as goal

abbrev pub invariant-loop-position : goal.invariant-loop-position
invariant-loop-position l = l.made.items ≡ Array l.fn.bounds.left l.fn.bounds.down ∷ Right l.fn.bounds.right ∷ map (λ p. Literal p) (take l.position-index l.positions)
