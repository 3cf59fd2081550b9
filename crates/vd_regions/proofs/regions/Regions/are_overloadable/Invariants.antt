use Rattle.std.proofs.Common.{◌≡◌, drop}
use Rattle.std.specs.List.{list_all}
use Rattle.vd_declarations.specs.Classes.{is_overloadable}
use Rattle.vd_regions.specs.Scopes.{declaration_at}
use Rattle.vd_regions.proofs.regions.Regions.are_overloadable.Given as goal

abbrev pub invariant-loop-number : goal.invariant-loop-number
invariant-loop-number l = list_all (λ k. is_overloadable (declaration_at l.self k).class) (drop l.number-index l.some)
    ≡ list_all (λ k. is_overloadable (declaration_at l.self k).class) l.some
