use Rattle.std.proofs.Common.{◌≡◌, ◌++◌, map}
use Rattle.vd_meaning.specs.Parts.{parts}
use Rattle.vd_forest.specs.Forest.{tree_count}
use Rattle.vd_meaning.specs.Tables.{Table}
use Rattle.vd_port_facts.specs.Reading.{read_element}
use Rattle.vd_port_facts.proofs.actuals.elements_in.Given as goal

abbrev pub invariant-loop-first : goal.invariant-loop-first
invariant-loop-first l = (t : Table) → l.found.items ++ map read_element (parts t l.rest) ≡ map read_element (parts t l.trees)

abbrev pub decreases-loop-first : goal.decreases-loop-first
decreases-loop-first l = tree_count l.rest
