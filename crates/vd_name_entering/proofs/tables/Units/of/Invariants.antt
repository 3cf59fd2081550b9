use Rattle.std.proofs.Common.{◌≡◌, ◌||◌}
use Rattle.std.specs.Option.{option_or}
use Rattle.vd_forest.specs.Forest.{size}
use Rattle.vd_region_tables.specs.declared.keys.Name.{Name}
use Rattle.vd_naming.specs.Ports.{last_architecture}
use Rattle.vd_naming.specs.Units.{has_body_in}
use Rattle.vd_name_entering.specs.Tables.{has_body, last_of}
use Rattle.vd_name_entering.proofs.tables.Units.of.Given as goal

abbrev pub invariant-loop-first : goal.invariant-loop-first
invariant-loop-first l = record {
  bodies : (key : Name) → (has_body_in key.bytes.items l.left || has_body l.bodies key) ≡ has_body_in key.bytes.items l.fn.units;
  architectures : (key : Name)
      → option_or (last_architecture key.bytes.items l.number l.left) (last_of l.architectures key) ≡ last_architecture key.bytes.items 0 l.fn.units;
}

abbrev pub decreases-loop-first : goal.decreases-loop-first
decreases-loop-first l = size l.left
