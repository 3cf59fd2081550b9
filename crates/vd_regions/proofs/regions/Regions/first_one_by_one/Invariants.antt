use Rattle.std.proofs.Common.{◌≡◌, not, drop}
use Rattle.std.specs.Option.{option_or}
use Rattle.vd_regions.specs.Scopes.{declaration_at}
use Rattle.vd_regions.specs.Homographs.{may_stand_beside}
use Rattle.vd_regions.specs.Found.{entered_in}
use Rattle.vd_regions.proofs.SortLemmas.{last_of}
use Rattle.vd_regions.proofs.regions.Regions.first_one_by_one.Given as goal

abbrev pub invariant-loop-number : goal.invariant-loop-number
invariant-loop-number l = record {
  all : l.number-items ≡ entered_in l.self l.key.region l.key.name.items;
  same : option_or (last_of (λ k. not (may_stand_beside l.self (declaration_at l.self k) l.new)) (drop l.number-index l.number-items)) l.found
      ≡ last_of (λ k. not (may_stand_beside l.self (declaration_at l.self k) l.new)) l.number-items;
}
