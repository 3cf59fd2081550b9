use Rattle.std.proofs.Common.{◌≡◌, ◌++◌, drop}
use Rattle.std.specs.List.{flat_map}
use Rattle.vd_naming.specs.Generics.{function_for}
use Rattle.vd_name_actuals.specs.Seen.{seen_known}
use Rattle.vd_name_maps.proofs.functions.with_functions.Given as goal

abbrev pub invariant-loop-generic : goal.invariant-loop-generic
invariant-loop-generic l =
    l.given.items ++ flat_map (function_for l.known.names.now (seen_known l.known) l.elements) (drop l.generic-index l.generics)
    ≡ l.fn.types.items ++ flat_map (function_for l.known.names.now (seen_known l.known) l.elements) l.generics
