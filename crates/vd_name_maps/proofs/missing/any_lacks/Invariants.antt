use Rattle.std.proofs.Common.{◌≡◌, drop}
use Rattle.std.specs.List.{list_any}
use Rattle.vd_naming.specs.Generics.{lacks_value}
use Rattle.vd_name_actuals.specs.Seen.{seen_known}
use Rattle.vd_name_maps.proofs.missing.any_lacks.Given as goal

abbrev pub invariant-loop-generic : goal.invariant-loop-generic
invariant-loop-generic l =
    list_any (lacks_value l.known.names.now (seen_known l.known) l.elements) (drop l.generic-index l.generics)
    ≡ list_any (lacks_value l.known.names.now (seen_known l.known) l.elements) l.generics
