-- What is searched in a body for a declaration that ties it.
use Rattle.std.specs.Prelude.{ℕ, Bool, true, false, ◌==◌, ◌&&◌, not, Option, Some, None}
use Rattle.vd_walks.specs.Finding.{Finder}
use Rattle.vd_regions.specs.Scopes.{Scopes, entered_at}
use Rattle.vd_resolved.specs.declared.node.Resolved.{Resolved}

-- it stands in the region, and is not this one
abbrev pub stands_beside : Scopes → (region k : ℕ) → Option ℕ → Bool
stands_beside s region k None = false
stands_beside s region k (Some n) = ((entered_at s n).region == region) && not (n == k)

-- the answer of a node that names such a one
abbrev pub tied_by : Bool → Option (Unit {0})
tied_by true = Some tt
tied_by false = None

abbrev pub tying_finder : Scopes → (region k : ℕ) → Finder Resolved (Unit {0}) (Unit {0})
tying_finder s region k = record {
  answer = λ at node text place parts. tied_by (stands_beside s region k node.declaration);
  down = λ at node text place parts. at;
  along = λ at node text place parts. at;
}
