use Rattle.std.proofs.Common.{◌≡◌, ◌++◌, ℕ, map, nat_eq}
use Rattle.indexmap.specs.IndexMap.{get}
use Rattle.vd_forest.specs.Forest.{tree_count}
use Rattle.vd_meaning.specs.Meanings.{map_element, meanings}
use Rattle.vd_meaning.specs.Tables.{Table}
use Rattle.vd_name_rules.proofs.ElementLemmas.{is_placed, named_flag, or_flag}
use Rattle.vd_name_rules.proofs.elements.gathered.Given as goal

abbrev pub invariant-loop-first : goal.invariant-loop-first
invariant-loop-first l = record {
  placed : (t : Table) → l.found.placed.items ++ map is_placed (map map_element (meanings t l.rest)) ≡ map is_placed (map map_element (meanings t l.elements));
  named : (t : Table) (g : ℕ)
      → or_flag (get nat_eq l.found.named g) (named_flag g (map map_element (meanings t l.rest))) ≡ named_flag g (map map_element (meanings t l.elements));
}

abbrev pub decreases-loop-first : goal.decreases-loop-first
decreases-loop-first l = tree_count l.rest
