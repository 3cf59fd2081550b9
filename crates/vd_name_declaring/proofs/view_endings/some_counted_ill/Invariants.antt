use Rattle.std.proofs.Common.{◌≡◌, drop}
use Rattle.std.specs.List.{list_any}
use Rattle.vd_naming.specs.Views.{elements_of}
use Rattle.vd_name_declaring.specs.Counted.{is_counted_ill}
use Rattle.vd_name_declaring.proofs.view_endings.some_counted_ill.Given as goal

abbrev pub invariant-loop-element : goal.invariant-loop-element
invariant-loop-element l =
    list_any (is_counted_ill l.given) (drop l.element-index l.element-items) ≡ list_any (is_counted_ill l.given) (elements_of l.names l.fn.mark)
