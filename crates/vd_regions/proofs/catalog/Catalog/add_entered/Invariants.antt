use Rattle.std.proofs.Common.{◌≡◌, ◌≤◌, ◌++◌, length}
use Rattle.vd_regions.specs.Scopes.{stands_in}
use Rattle.vd_regions.specs.Found.{entered_below}
use Rattle.vd_regions.specs.Links.{newest_below}
use Rattle.vd_regions.proofs.catalog.Catalog.add_entered.Given as goal

abbrev pub invariant-loop-left : goal.invariant-loop-left
invariant-loop-left l = record {
  within : l.left ≤ length l.self;
  newest : newest_below (stands_in l.key.region l.key.name.items) l.self l.left ≡ l.left;
  same : l.found.items ++ entered_below (stands_in l.key.region l.key.name.items) l.self l.left
      ≡ l.fn.found.items ++ entered_below (stands_in l.key.region l.key.name.items) l.self (length l.self);
}

abbrev pub decreases-loop-left : goal.decreases-loop-left
decreases-loop-left l = l.left
