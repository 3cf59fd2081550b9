use Rattle.std.proofs.Common.{◌≡◌, ◌-◌, ◌++◌}
use Rattle.vd_naming.specs.Copies.{entries_of_copies, some_of}
use Rattle.vd_name_instances.specs.Sources.{seen_copying}
use Rattle.vd_name_instances.proofs.copying.Copying.entries_of_copies.Given as goal

abbrev pub invariant-loop-next : goal.invariant-loop-next
invariant-loop-next l =
    l.copies.items ++ entries_of_copies (seen_copying l.self) l.next (some_of l.next l.self.span.end l.names.scopes.entered)
    ≡ entries_of_copies (seen_copying l.self) l.self.span.first (some_of l.self.span.first l.self.span.end l.names.scopes.entered)

abbrev pub decreases-loop-next : goal.decreases-loop-next
decreases-loop-next l = l.self.span.end - l.next
