use Rattle.std.proofs.Common.{◌≡◌, ◌++◌, ◌-◌, drop, length, map}
use Rattle.vd_naming.specs.Settled.{settled_declaration}
use Rattle.vd_name_resolution.proofs.design.settled_declarations.Given as goal

abbrev pub invariant-loop-regions : goal.invariant-loop-regions
invariant-loop-regions l =
    l.made.items ++ map (λ e. settled_declaration l.settling e.declaration) (drop l.next l.names.scopes.entered)
    ≡ map (λ e. settled_declaration l.settling e.declaration) l.names.scopes.entered

abbrev pub decreases-loop-regions : goal.decreases-loop-regions
decreases-loop-regions l = length l.names.scopes.entered - l.next
