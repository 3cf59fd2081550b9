use Rattle.std.proofs.Common.{◌≡◌, ◌++◌, drop}
use Rattle.std.specs.List.{filter}
use Rattle.vd_regions.specs.Scopes.{declaration_at}
use Rattle.vd_declarations.specs.Classes.{is_function}
use Rattle.vd_regions.proofs.regions.Regions.functions_of.Given as goal

abbrev pub invariant-loop-number : goal.invariant-loop-number
invariant-loop-number l = l.found.items ++ filter (λ k. is_function (declaration_at l.self k).class) (drop l.number-index l.some)
    ≡ filter (λ k. is_function (declaration_at l.self k).class) l.fn.some
