use Rattle.std.proofs.Common.{◌≡◌, false, take}
use Rattle.std.specs.List.{list_any}
use Rattle.vd_visible.specs.Lists.{elements_named}
use Rattle.vd_visible.specs.Sights.{sight_from}
use Rattle.vd_overloads.specs.Environment.{is_some_list}
use Rattle.vd_overloads.proofs.unknown.names_element.Given as goal

abbrev pub invariant-loop-mark : goal.invariant-loop-mark
invariant-loop-mark l =
    list_any (λ t. is_some_list (elements_named (sight_from l.place) t l.name)) (take l.mark-index l.mark-items) ≡ false
