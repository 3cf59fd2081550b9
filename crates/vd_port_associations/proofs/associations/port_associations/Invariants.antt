use Rattle.std.proofs.Common.{drop}
use Rattle.vd_forest.specs.Forest.{size}
use Rattle.vd_port_associations.proofs.AssociationLemmas.{AreUpTo}
use Rattle.vd_port_modes.specs.Source.{design_in}
use Rattle.vd_port_associations.proofs.associations.port_associations.Given as goal

abbrev pub invariant-loop-first : goal.invariant-loop-first
invariant-loop-first l = AreUpTo (design_in l.fn.interfaces) l.fn.ports l.fn.elements l.made.items (drop l.at l.fn.ports) l.rest

abbrev pub decreases-loop-first : goal.decreases-loop-first
decreases-loop-first l = size l.rest
