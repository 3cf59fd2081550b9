-- What a forest comes to that is walked once, in the order of its text: other trees, a state that goes down and along, a table, and the
-- least of the refusals.
use Rattle.std.specs.Prelude.{ℕ, List, Option, None}
use Rattle.vd_bytes.specs.declared.places.Place.{Place}
use Rattle.vd_bytes.specs.declared.answers.Refused.{Refused}
use Rattle.vd_forest.specs.Forest.{Forest, nothing, more, joined}
use Rattle.vd_walks.specs.Least.{lesser}

-- what trees come to: trees, the state and the table behind them, and the first rule that is broken
pub record Walked (G A D : Type 0) : Type 0 where
  pub tree : Forest G
  pub at : A
  pub design : D
  pub first : Option Refused

-- what trees come to, and then other trees
abbrev pub together : {G A D : Type 0} → Walked G A D → Walked G A D → Walked G A D
together o p = record { tree = joined o.tree p.tree; at = p.at; design = p.design; first = lesser o.first p.first }

-- the other trees come to what they do in the state and the table behind the first ones
abbrev pub followed : {G A D : Type 0} → Walked G A D → (A → D → Walked G A D) → Walked G A D
followed o trees = together o (trees o.at o.design)

abbrev pub no_trees : {G A D : Type 0} → A → D → Walked G A D
no_trees at d = record { tree = nothing; at = at; design = d; first = None }

-- what is done with a tree: it comes to something by itself, or its parts are walked in a state, and what is kept of it says then what it
-- comes to
pub data Entry (G A D I : Type 0) : Type 0 where
  Done : Walked G A D → Entry G A D I
  Inside : (at : A) → (design : D) → (kept : I) → Entry G A D I

-- what is done with a tree, given its form, text, place and parts, before its parts are walked, and after
pub record Walker (F G A D I : Type 0) : Type 0 where
  pub enter : F → List ℕ → Place → Forest F → A → D → Entry G A D I
  pub leave : I → F → List ℕ → Place → Forest F → Walked G A D → Walked G A D

-- what a tree comes to, given what its parts do, and what is done with it
abbrev pub through : {F G A D I : Type 0} → Walker F G A D I → F → List ℕ → Place → Forest F → (A → D → Walked G A D) → Entry G A D I → Walked G A D
through w form text place parts inner (Done o) = o
through w form text place parts inner (Inside at d kept) = w.leave kept form text place parts (inner at d)

-- what a forest comes to, in the state and the table before it
abbrev pub walked : {F G A D I : Type 0} → Walker F G A D I → Forest F → A → D → Walked G A D
walked w nothing at d = no_trees at d
walked w (more form text place parts next) at d =
    followed (through w form text place parts (walked w parts) (w.enter form text place parts at d)) (walked w next)
