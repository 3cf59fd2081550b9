use Rattle.std.proofs.Common.{◌≡◌, ◌++◌, drop}
use Rattle.std.specs.List.{filter}
use Rattle.vd_regions.specs.Scopes.{declaration_at}
use Rattle.vd_name_clauses.specs.Generics.{is_generic}
use Rattle.vd_name_clauses.proofs.generics.those_of.Given as goal

abbrev pub invariant-loop-id : goal.invariant-loop-id
invariant-loop-id l =
    l.found.items ++ filter (λ k. is_generic l.generic (declaration_at l.names.scopes k).class) (drop l.id-index l.ids)
    ≡ filter (λ k. is_generic l.generic (declaration_at l.names.scopes k).class) l.ids
