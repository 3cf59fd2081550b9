-- What the calls of a walk answer, as it is seen with the store that is made and with the table.
use Rattle.std.specs.Prelude.{◌≡◌, ◌≤◌, List, length}
use Rattle.vd_forest.specs.Forest.{Forest}
use Rattle.vd_forest.specs.Store.{at}
use Rattle.vd_walks.specs.declared.walking.Outcome.{Outcome}
use Rattle.vd_walks.specs.declared.walking.Entry.{Entry as Answer}
use Rattle.vd_walks.specs.declared.walking.Entry.TheVariants as answer
use Rattle.vd_walks.specs.Walking.{Walked, Entry, Done, Inside}

-- what an outcome stands for
abbrev pub seen_in : {G A D : Type 0} → List (Forest G) → D → Outcome A → Walked G A D
seen_in store d o = record { tree = at store o.tree; at = o.at; design = d; first = o.first }

-- the outcome stands for this
pub record IsOutcome {G A D : Type 0} (store : List (Forest G)) (d : D) (o : Outcome A) (want : Walked G A D) : Type 0 where
  pub within : o.tree ≤ length store
  pub is : seen_in store d o ≡ want

-- what the answer of `enter` stands for
abbrev pub entry_seen_in : {G A D I : Type 0} → List (Forest G) → D → Answer A I → Entry G A D I
entry_seen_in store d (answer.Done o) = Done (seen_in store d o)
entry_seen_in store d (answer.Inside at kept) = Inside at d kept

-- what a tree comes to by itself is one of the store's forests
abbrev pub IsWithin : {G A I : Type 0} → List (Forest G) → Answer A I → Type 0
IsWithin store (answer.Done o) = o.tree ≤ length store
IsWithin store (answer.Inside at kept) = Unit {0}

-- the answer stands for this
pub record IsEntry {G A D I : Type 0} (store : List (Forest G)) (d : D) (entry : Answer A I) (want : Entry G A D I) : Type 0 where
  pub within : IsWithin store entry
  pub is : entry_seen_in store d entry ≡ want
