-- What a walk comes to, as the resolved design.
use Rattle.std.proofs.Common.{◌≡◌, List, ap}
use Rattle.vd_forest.specs.Forest.{Forest}
use Rattle.vd_forest.specs.Store.{at}
use Rattle.vd_name_resolution.specs.Designs.{settled_from}
use Rattle.vd_name_rows.specs.Designs.{At, Design}
use Rattle.vd_name_rows.specs.Designs as Designs
use Rattle.vd_naming.specs.Settled.{resolved_tree}
use Rattle.vd_resolved.specs.declared.node.Resolved.{Resolved}
use Rattle.vd_walks.specs.Outcomes.{IsOutcome}
use Rattle.vd_walks.specs.declared.walking.Outcome.{Outcome}

pub design_is : {store : List (Forest Resolved)} {d : Design} {o : Outcome At} {want : Designs.Outcome} → IsOutcome store d o want
    → settled_from d (at store o.tree) ≡ resolved_tree want
design_is is = ap resolved_tree is.is

pub first_is : {store : List (Forest Resolved)} {d : Design} {o : Outcome At} {want : Designs.Outcome} → IsOutcome store d o want
    → o.first ≡ want.first
first_is is = ap (λ (w : Designs.Outcome). w.first) is.is
