use Rattle.std.proofs.Common.{◌≡◌, ◌-◌, ◌++◌, map}
use Rattle.vd_naming.specs.Copies.{copy_of_region, some_of}
use Rattle.vd_name_instances.specs.Copied.{seen_region}
use Rattle.vd_name_instances.specs.Sources.{seen_copying}
use Rattle.vd_name_instances.proofs.copying.Copying.regions_of_copies.Given as goal

abbrev pub invariant-loop-next : goal.invariant-loop-next
invariant-loop-next l =
    map seen_region l.copies.items ++ map (copy_of_region (seen_copying l.self)) (some_of l.next l.self.span.end_region l.names.scopes.regions)
    ≡ map (copy_of_region (seen_copying l.self)) (some_of l.self.span.first_region l.self.span.end_region l.names.scopes.regions)

abbrev pub decreases-loop-next : goal.decreases-loop-next
decreases-loop-next l = l.self.span.end_region - l.next
