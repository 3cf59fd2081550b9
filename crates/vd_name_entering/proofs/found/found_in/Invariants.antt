use Rattle.std.proofs.Common.{◌≡◌, drop}
use Rattle.std.specs.List.{filter}
use Rattle.vd_regions.specs.Scopes.{declaration_at}
use Rattle.vd_name_rows.specs.Members.{is_of}
use Rattle.vd_naming.specs.Units.{first_of, found_in}
use Rattle.vd_name_entering.proofs.found.found_in.Given as goal

abbrev pub invariant-loop-id : goal.invariant-loop-id
invariant-loop-id l =
    first_of (filter (λ k. is_of l.sort (declaration_at l.names.scopes k).class) (drop l.id-index l.id-items))
    ≡ found_in l.fn.region l.sort l.name l.names
