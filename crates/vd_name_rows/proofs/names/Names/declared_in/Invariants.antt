use Rattle.std.proofs.Common.{◌≡◌, ◌++◌, drop}
use Rattle.std.specs.List.{filter}
use Rattle.vd_regions.specs.Scopes.{declaration_at}
use Rattle.vd_name_rows.specs.Members.{declared_in, is_of}
use Rattle.vd_name_rows.proofs.names.Names.declared_in.Given as goal

abbrev pub invariant-loop-id : goal.invariant-loop-id
invariant-loop-id l = l.found.items ++ filter (λ k. is_of l.sort (declaration_at l.self.scopes k).class) (drop l.id-index l.id-items)
    ≡ declared_in l.fn.region l.sort l.self
