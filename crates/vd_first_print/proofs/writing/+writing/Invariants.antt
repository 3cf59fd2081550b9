use Rattle.std.proofs.Common.{◌≡◌, ◌++◌, ◌+◌, ◌*◌, ◌≤◌}
use Rattle.vd_forest.specs.Forest.{size}
use Rattle.vd_first_print.specs.declared.writing.Position.TheVariants.{First}
use Rattle.vd_first_print.specs.Writing.{parts_tokens}
use Rattle.vd_first_print.proofs.writing.+writing.Given as goal

abbrev pub decreases-write_part : goal.decreases-write_part
decreases-write_part l = 2 * size l.node.now.parts + 2

abbrev pub decreases-write_parts : goal.decreases-write_parts
decreases-write_parts l = 2 * size l.parts.now + 1

-- what was written, and what is left to write
abbrev pub invariant-write_parts-loop-node : goal.invariant-write_parts-loop-node
invariant-write_parts-loop-node l = record {
  smaller : size l.rest ≤ size l.fn.parts;
  same : l.out.items ++ parts_tokens l.parent l.position l.rest ≡ l.fn.out.items ++ parts_tokens l.parent First l.fn.parts;
}

abbrev pub decreases-write_parts-loop-node : goal.decreases-write_parts-loop-node
decreases-write_parts-loop-node l = size l.rest
