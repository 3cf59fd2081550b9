use Rattle.std.proofs.Common.{◌≡◌, ℕ, List, None, drop}
use Rattle.vd_port_facts.specs.Tables.{last_place}
use Rattle.vd_port_lists.specs.Named.{value_named}
use Rattle.vd_port_facts.proofs.entities.entities_by_name.Given as goal

abbrev pub invariant-loop-place : goal.invariant-loop-place
invariant-loop-place l = (name : List ℕ) → last_place (value_named l.places.entries (λ key. key.items) name) l.place (drop l.place l.entities) name ≡ last_place None 0 l.entities name
