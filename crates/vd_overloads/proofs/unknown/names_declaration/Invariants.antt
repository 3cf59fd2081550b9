use Rattle.std.proofs.Common.{◌≡◌, false, take, not}
use Rattle.std.specs.List.{list_any}
use Rattle.vd_visible.specs.Sights.{sight_from, class_of}
use Rattle.vd_overloads.specs.Environment.{is_library}
use Rattle.vd_overloads.proofs.unknown.names_declaration.Given as goal

abbrev pub invariant-loop-id : goal.invariant-loop-id
invariant-loop-id l =
    list_any (λ k. not (is_library (class_of (sight_from l.place) k))) (take l.id-index l.id-items) ≡ false
